-- What the inner functions promise each other. No public function's promise rests on this page. Definitions only.
use Rattle.std.specs.Prelude.{◌≡◌, ℕ, ◌+◌, ◌*◌, ◌/◌, ◌^◌, ◌≤◌, cond, Float}
use Prim.Native.Nat.{compare}
use Rattle.std.specs.Float.{binary64}
use Rattle.std.specs.Float.Ieee.{lt, mul, sub, nearest}
use Rattle.numbers.specs.SquareRoot.{root}

-- s is the root of n, cut to a whole number, and r is what is left
abbrev pub IsRoot : ℕ → ℕ → ℕ → Type 0
IsRoot n s r = (s * s + r ≡ n) × (r ≤ 2 * s)

-- the whole number nearest to the root of n
unfoldable pub nearest_root : ℕ → ℕ
nearest_root n = nearest (root n) (compare (n * 4) ((2 * root n + 1) * (2 * root n + 1)))

-- one step of Newton's method towards 1 over the root of v, where h is v / 2 and c is 1.5
unfoldable pub newton_step : Float → Float → Float → Float
newton_step y h c = sub binary64 (mul binary64 c y) (mul binary64 (mul binary64 h y) (mul binary64 y y))

-- the whole part of m * 2 ^ e / 2 ^ 1075, the size of the number with m for its digits and e for its exponent's field
unfoldable pub scaled : ℕ → ℕ → ℕ
scaled m e = m * 2 ^ e / 2 ^ 1075

-- the smaller and the larger of two by value alone, the first of two that are equal
unfoldable pub lesser_of : Float → Float → Float
lesser_of x y = cond (lt y x) y x

unfoldable pub greater_of : Float → Float → Float
greater_of x y = cond (lt x y) y x
