-- What the checks say to the functions behind them. No public function's promise rests on this page. Definitions only.
use Rattle.std.specs.Prelude.{◌≡◌, ℕ, suc, ◌+◌, ◌*◌, ◌<◌, ◌≤◌, List, get_or, length, Float}
use Rattle.inputs.specs.declared.sizes.Window.{Window}
use Rattle.inputs.specs.Window.{cell_in}

-- the sizes that checks 1 to 3 let through
pub record Sized (w h ch : ℕ) (xs : List Float) : Type 0 where
  pub any : 1 ≤ w
  pub wide : w ≤ 4096
  pub high : h ≤ 4096
  pub some : 3 ≤ ch
  pub few : ch ≤ 4
  pub long : length xs ≡ h * w * ch

-- the cells that checks 2 and 4 let through
pub record Celled (w h : ℕ) (st : List ℕ) : Type 0 where
  pub any : 1 ≤ w
  pub wide : w ≤ 4096
  pub high : h ≤ 4096
  pub long : length st ≡ h * w

-- the sizes of a window that fit
pub record Fits (g : Window) : Type 0 where
  pub any : 1 ≤ g.width
  pub wide : g.width ≤ g.stride
  pub broad : g.stride ≤ 4096
  pub high : g.height ≤ 4096
  pub near : g.origin ≤ 16777216

-- a window each of whose texels has its samples in the list
pub record Sampled (g : Window) (xs : List Float) : Type 0 where
  pub fits : Fits g
  pub some : 3 ≤ g.channels
  pub few : g.channels ≤ 4
  pub held : (x y : ℕ) → x < g.width → y < g.height → cell_in g x y * g.channels + g.channels ≤ length xs

-- a window each of whose texels has its cell in the stencil
pub record Stencilled (g : Window) (st : List ℕ) : Type 0 where
  pub fits : Fits g
  pub held : (x y : ℕ) → x < g.width → y < g.height → cell_in g x y < length st

-- the outlines that checks 7 and 8 let through
pub record Outlined (colours : List ℕ) (coords : List Float) (ends : List ℕ) : Type 0 where
  pub twice : length coords ≡ 2 * length colours
  pub few : length colours ≤ 65536
  pub rising : (i : ℕ) → suc i < length ends → get_or ends i 0 ≤ get_or ends (suc i) 0
  pub within : (i : ℕ) → i < length ends → get_or ends i 0 ≤ length colours
