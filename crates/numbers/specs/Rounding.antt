-- From binary64 to binary32, and from a float to a whole number. Definitions only.
use Rattle.std.specs.Prelude.{◌+◌, ◌-◌, ◌*◌, ◌/◌, ◌^◌, min, cond, ℤ, pos, neg_ℤ, Float}
use Rattle.std.specs.Float.{nan, inf, fin, binary32}
use Rattle.std.specs.Float.Ieee.{up, down, round}

-- The binary32 value nearest to x, a tie going to the one whose last digit is even. `m * up e` over `down e` is m * 2 ^ e.
-- A NaN stays one: docs/PROMISES.md says what that means for bits.
unfoldable pub narrow_of : Float → Float
narrow_of nan = nan
narrow_of (inf s) = inf s
narrow_of (fin s m e) = round binary32 s (m * up e) (down e)

-- Rust's `floor() as i64`: toward minus infinity, 0 for a NaN, and the nearest end of the range where it is out of it.
-- `m * up e` over `down e` is the value's size m * 2 ^ e: cut to a whole number where it has no sign, and brought up to one where it has.
unfoldable pub floor_of : Float → ℤ
floor_of nan = pos 0
floor_of (inf s) = cond s (neg_ℤ (pos (2 ^ 63))) (pos (2 ^ 63 - 1))
floor_of (fin s m e) = cond s (neg_ℤ (pos (min ((m * up e + (down e - 1)) / down e) (2 ^ 63)))) (pos (min (m * up e / down e) (2 ^ 63 - 1)))
