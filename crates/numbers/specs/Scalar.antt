-- The smaller and the larger of two floats, the middle one of three and the channel that it is, the size of one, and the mix of two. Definitions only.
use Rattle.std.specs.Prelude.{ℕ, zero, suc, Bool, true, false, cond, ◌&&◌, ◌||◌, is_nan, Float}
use Rattle.std.specs.Bool.{beq}
use Rattle.std.specs.Float.{nan, inf, fin, binary64}
use Rattle.std.specs.Float.Ieee.{lt, eq, add, mul, sub}
use Rattle.numbers.specs.Constants.{one_of}
use Rattle.numbers.specs.Rounding.{narrow_of}
use Rattle.numbers.specs.declared.scalar.Middle.{Middle}

-- x is the zero with the sign s: −0 where s is true, +0 where it is false
abbrev pub is_zero : Bool → Float → Bool
is_zero s nan = false
is_zero s (inf t) = false
is_zero s (fin t zero e) = beq s t
is_zero s (fin t (suc m) e) = false

-- x lies below y: x < y, or x is −0 and y is +0
abbrev pub is_below : Float → Float → Bool
is_below x y = lt x y || (is_zero true x && is_zero false y)

-- y if x is NaN or y is below x, else x: of numbers IEEE 754-2019's minimum
unfoldable pub min_of : Float → Float → Float
min_of x y = cond (is_nan x || is_below y x) y x

-- y if x is NaN or x is below y, else x: of numbers IEEE 754-2019's maximum
unfoldable pub max_of : Float → Float → Float
max_of x y = cond (is_nan x || is_below x y) y x

-- max(min(a,b), min(max(a,b),c))
unfoldable pub median_of : Float → Float → Float → Float
median_of a b c = max_of (min_of a b) (min_of (max_of a b) c)

-- of the channels 0, 1 and 2, which hold a, b and c, the lowest whose value compares equal to m; 0 where none does
unfoldable pub lowest_equal : Float → Float → Float → Float → ℕ
lowest_equal m a b c = cond (eq a m) 0 (cond (eq b m) 1 (cond (eq c m) 2 0))

-- the median's answer: its value and the lowest channel whose value compares equal to it, 0 for three NaNs
abbrev pub middle_of : Float → Float → Float → Middle
middle_of a b c = record { value = median_of a b c; channel = lowest_equal (median_of a b c) a b c }

-- |x|: the sign dropped, of a zero and an infinity too
unfoldable pub abs_of : Float → Float
abs_of nan = nan
abs_of (inf s) = inf false
abs_of (fin s m e) = fin false m e

-- (1 - w) * a + w * b, each operation rounded once in binary64, then narrowed
unfoldable pub mix_of : Float → Float → Float → Float
mix_of a b w = narrow_of (add binary64 (mul binary64 (sub binary64 (one_of binary64) w) a) (mul binary64 w b))
