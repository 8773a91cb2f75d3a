-- A range test between weights, with medians and a span that are not too large, compares finite values: no rule on NaN is ever leaned on there. Assumes nothing.
use Rattle.std.proofs.Common.{◌≡◌, true, not, T, List, [], ◌∷◌, refl, zero-le, le_of_eq, arith}
use lib.Ieee.{Float, binary64, le, lt, add, sub, mul, is_nan, of_bits}
use Rattle.numbers.specs.Constants.{zero_of, one_of}
use Rattle.numbers.specs.Scalar.{median_of}
use Rattle.numbers.proofs.Laws.Order.{nought, one, IsFinite, le_of_lt}
use Rattle.numbers.proofs.Laws.Monotone.{sub_not_negative}
use Rattle.numbers.proofs.Laws.Bounds.{Within, within_finite, within_no_nan, between_within, median_within, add_within, sub_within, mul_within}
use Rattle.ground.proofs.Laws.Bools.{holds}
use Rattle.ranges.specs.Classifier.{compared}

-- ---- weights
-- t is from 0 to 1
pub record Weight (t : Float) : Type 0 where
  pub low : T (le (zero_of binary64) t)
  pub high : T (le t (one_of binary64))
  pub above : T (le nought t)
  pub below : T (le t one)
  pub bounded : Within 0 t

-- What is at least 0 and at most 1 is a weight.
pub weight : (t : Float) → T (le nought t) → T (le t one) → Weight t
unfolding of_bits
weight t lo hi = record { low = lo; high = hi; above = lo; below = hi; bounded = between_within 0 nought t one zero-le (le_of_eq refl) lo hi }

-- 0 is a weight.
pub zero_weight : Weight (zero_of binary64)
unfolding of_bits le
zero_weight = weight nought tt tt

-- 1 is a weight.
pub one_weight : Weight (one_of binary64)
unfolding of_bits le
one_weight = weight one tt tt

-- A weight is finite.
pub weight_finite : (t : Float) → Weight t → IsFinite t
weight_finite t w = within_finite 0 t w.bounded

-- What is strictly between 0 and 1 is a weight.
pub strict_weight : (t : Float) → lt (zero_of binary64) t ≡ true → lt t (one_of binary64) ≡ true → Weight t
unfolding of_bits
strict_weight t p q = weight t (le_of_lt nought t (holds _ p)) (le_of_lt t one (holds _ q))

-- ---- spans
-- d is not negative, and at most 2 ^ 40
pub record Span (d : Float) : Type 0 where
  pub above : T (le nought d)
  pub bounded : Within 40 d

-- ---- ranges
-- the way between two weights: at most 2, a number, and not negative
pub record Gap (d : Float) : Type 0 where
  pub bounded : Within 1 d
  pub number : T (not (is_nan d))
  pub above : T (le nought d)

-- A difference of weights is at most 2 in size.
pub gap_within : (x y : Float) → Weight x → Weight y → Within 1 (sub binary64 x y)
gap_within x y u v = sub_within binary64 0 0 0 x y (omega arith) (omega arith) (omega arith) u.bounded v.bounded

-- That of a weight and one that is at most it is not negative.
pub gap : (x y : Float) → Weight x → Weight y → T (le y x) → Gap (sub binary64 x y)
gap x y u v h =
    let w = gap_within x y u v in
    let n = within_no_nan 1 (sub binary64 x y) w in
    record { bounded = w; number = n; above = sub_not_negative binary64 x y h n }

-- every entry is finite
unfoldable pub AllFinite : List Float → Type 0
AllFinite [] = Unit
AllFinite (x ∷ xs) = IsFinite x × AllFinite xs

-- A range test between weights, with medians of at most 2 ^ 25 and a span of at most 2 ^ 40, compares finite values.
pub compared_finite : (span at bt xt am bm xm : Float) → Span span → Weight at → Weight bt → Weight xt → Within 25 am → Within 25 bm → Within 25 xm → AllFinite (compared span at bt xt am bm xm)
unfolding compared AllFinite of_bits
compared_finite span at bt xt am bm xm s p q r a b x =
    let d = reach (sub binary64 xt at) (gap_within xt at r p) in
    let e = reach (sub binary64 bt xt) (gap_within bt xt q r) in
    (within_finite 25 am a, (within_finite 25 bm b, (within_finite 25 xm x, (tt, (within_finite 25 (median_of am bm xm) (median_within 25 am bm xm a b x), (lower am _ a d, (upper am _ a d, (lower bm _ b e, (upper bm _ b e, tt)))))))))
  where
    reach : (g : Float) → Within 1 g → Within 41 (mul binary64 g span)
    reach g w = mul_within binary64 1 40 g span (omega arith) w s.bounded

    lower : (m d : Float) → Within 25 m → Within 41 d → IsFinite (sub binary64 m d)
    lower m d u v = within_finite 42 (sub binary64 m d) (sub_within binary64 25 41 41 m d (omega arith) (omega arith) (omega arith) u v)

    upper : (m d : Float) → Within 25 m → Within 41 d → IsFinite (add binary64 m d)
    upper m d u v = within_finite 42 (add binary64 m d) (add_within binary64 25 41 41 m d (omega arith) (omega arith) (omega arith) u v)
