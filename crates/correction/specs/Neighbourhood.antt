-- When two places, in bitmaps of any two sizes, have the same neighbourhood. Definitions only.
-- Neighbour dx, dy of texel x, y, each from 0 to 2, stands at column x + dx and row y + dy, counted from 1: neighbour 1, 1 is the texel itself.
use Rattle.std.specs.Prelude.{◌≡◌, ℕ, ◌+◌, ◌-◌, ◌≤◌, true, false, List, Float}
use Rattle.ranges.specs.declared.config.Settings.{Settings}
use Rattle.inputs.specs.Bounds.{in_bounds}
use Rattle.ranges.specs.Config.{side_span, diagonal_span}

-- The same of the nine are inside, and those have the same texels.
pub record SameAround (tex : ℕ → ℕ → List Float) (w h x y : ℕ) (tex' : ℕ → ℕ → List Float) (w' h' x' y' : ℕ) : Type 0 where
  pub inside : (dx dy : ℕ) → dx ≤ 2 → dy ≤ 2 → in_bounds w h (x + dx) (y + dy) ≡ in_bounds w' h' (x' + dx) (y' + dy)
  pub texels : (dx dy : ℕ) → dx ≤ 2 → dy ≤ 2 → in_bounds w h (x + dx) (y + dy) ≡ true → tex (x + dx - 1) (y + dy - 1) ≡ tex' (x' + dx - 1) (y' + dy - 1)

-- The three spans are the same.
pub record SameSpans (s s' : Settings) : Type 0 where
  pub row : side_span s false ≡ side_span s' false
  pub column : side_span s true ≡ side_span s' true
  pub diagonal : diagonal_span s ≡ diagonal_span s'
