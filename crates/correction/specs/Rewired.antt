-- A bitmap whose first three channels are stored in another order, the same one for every texel. Definitions only.
use Rattle.std.specs.Prelude.{◌≡◌, ℕ, zero, suc, ◌+◌, ◌*◌, ◌<◌, List, get_or, length, T, Float}
use Rattle.std.specs.Float.{nan, binary32}
use Rattle.std.specs.Float.Ieee.{fits}

-- the six orders of red, green and blue, by what is stored first, second and third
pub data Wiring : Type 0 where
  rgb rbg grb gbr brg bgr : Wiring

-- i, j, k for 0, 1, 2, and each further number for itself
abbrev pub placed : ℕ → ℕ → ℕ → ℕ → ℕ
placed i j k zero = i
placed i j k (suc zero) = j
placed i j k (suc (suc zero)) = k
placed i j k (suc (suc (suc r))) = suc (suc (suc r))

-- the channel that is stored as channel r: a fourth one stays
abbrev pub wired : Wiring → ℕ → ℕ
wired rgb = placed 0 1 2
wired rbg = placed 0 2 1
wired grb = placed 1 0 2
wired gbr = placed 1 2 0
wired brg = placed 2 0 1
wired bgr = placed 2 1 0

-- The samples ys are xs with the channels of each texel stored so.
pub record Rewired (order : Wiring) (ch : ℕ) (xs ys : List Float) : Type 0 where
  pub long : length ys ≡ length xs
  pub channels : (k r : ℕ) → r < ch → get_or ys (k * ch + r) nan ≡ get_or xs (k * ch + wired order r) nan

-- the samples are f32 values, as those of every slice of f32 are
abbrev pub Singles : List Float → Type 0
Singles xs = (j : ℕ) → j < length xs → T (fits binary32 (get_or xs j nan))
