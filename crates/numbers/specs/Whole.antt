-- A finite value as a whole number: counted in its format's smallest value, which is 2 ^ -149 for f32, so that all values of a format have a common scale. Definitions only.
-- `Laws/Whole.antt` below `proofs/` shows that nothing is lost: each finite value of a format is such a whole number, and from its value and from its pattern it is the same one.
use Rattle.std.specs.Prelude.{ℕ, zero, suc, ◌+◌, ◌*◌, ◌/◌, ◌%◌, ◌^◌, ◌<◌, Bool, cond, T, ℤ, pos, neg_ℤ, nat_le, Float}
use Rattle.std.specs.Float.{nan, inf, fin, Format}
use Rattle.std.specs.Float.Ieee.{low, up, down, fits, hid, ones, top}

-- a finite value of the format
abbrev pub Finite : Format → Float → Type 0
Finite f nan = ⊥
Finite f (inf s) = ⊥
Finite f (fin s m e) = T (fits f (fin s m e))

-- n, negative where s is true
abbrev pub signed : Bool → ℕ → ℤ
signed s n = cond s (neg_ℤ (pos n)) (pos n)

-- how many of the format's smallest values m * 2 ^ e is
abbrev pub steps : Format → ℕ → ℤ → ℕ
steps f m e = m * up e * 2 ^ low f / down e

-- the value, counted so
unfoldable pub whole_of : Format → Float → ℤ
whole_of f nan = pos 0
whole_of f (inf s) = pos 0
whole_of f (fin s m e) = signed s (steps f m e)

-- ---- the same read off a pattern: the sign's bit, the exponent's field x and the digits t below the leading one

-- the exponent's field is not all ones, so it is a finite value's
abbrev pub FiniteBits : Format → ℕ → Type 0
FiniteBits f b = b % top f / hid f < ones f

-- with a field of 0 the digits alone; else a leading digit before them, and as many zeros behind them as the field is above 1
abbrev pub steps_of_fields : Format → ℕ → ℕ → ℕ
steps_of_fields f zero t = t
steps_of_fields f (suc x) t = (hid f + t) * 2 ^ x

-- the pattern's value, counted so
unfoldable pub whole_of_bits : Format → ℕ → ℤ
whole_of_bits f b = signed (nat_le (top f) b) (steps_of_fields f (b % top f / hid f) (b % hid f))
