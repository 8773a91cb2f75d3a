-- Products of the input's numbers. Assumes nothing.
use mathlib.Core.Path.{◌≡◌}
use Prim.Native.Nat.{ℕ, ◌+◌, ◌*◌, ◌≤◌, ◌<◌}
use native.Mathlib.Nat.{mul-le-mul_left, mul-le-mul_right, suc-mul, le_of_lt}
use native.Mathlib.Numerals.{add-one, add-one-le}
use native.Mathlib.Omega.{arith}

-- two numbers of two bytes
pub pair_fits : (a b : ℕ) → a < 65536 → b < 65536 → a * b ≤ 4294967296
pair_fits a b p q = omega (arith, mul-le-mul_left a (le_of_lt q))

-- the samples of a row
pub row_fits : (a b : ℕ) → a < 65536 → b < 256 → a * b < 16777216
row_fits a b p q = let r : b ≤ 255 = omega arith in omega (arith, mul-le-mul_left a r)

-- row y of h ends where the next one starts, at the latest where all end
pub next_row : (w y : ℕ) → (y + 1) * w ≡ y * w + w
next_row w y = rw (add-one, suc-mul)

-- row y ends within the h rows
pub row_within : (w : ℕ) {y h : ℕ} → y < h → y * w + w ≤ h * w
row_within w {y} {h} l = omega (arith, next_row w y, mul-le-mul_right w (add-one-le l))
