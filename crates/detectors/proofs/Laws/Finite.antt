-- Of texels whose samples are at most 2 ^ 20 in size, every value that a range test compares is finite: no rule on NaN is ever leaned on there. Assumes nothing.
use Rattle.std.proofs.Common.{◌≡◌, ℕ, true, List, [], get_or, arith}
use lib.Ieee.{Float, binary32, binary64, le, lt, add, sub, mul, neg, of_bits}
use Rattle.numbers.specs.Constants.{zero_of, one_of}
use Rattle.ranges.specs.Constants.{epsilon, one_less_epsilon}
use Rattle.numbers.proofs.Laws.Order.{nought, one, le_of_lt, le_trans}
use Rattle.numbers.proofs.Laws.Bounds.{Within, within_more, neg_within, median_within, narrow_within, mix_within, add_within, sub_within, mul_within}
use Rattle.ground.proofs.Laws.Bools.{both_hold, holds}
use Rattle.detectors.specs.Texel.{channel, texel_middle, texel_median}
use Rattle.ranges.specs.Classifier.{compared}
use Rattle.ranges.proofs.Laws.Finite.{Weight, weight, zero_weight, one_weight, strict_weight, Span, AllFinite, compared_finite}
use Rattle.detectors.specs.Pairs.{inside, mixed_channel, mixed_median}
use Rattle.detectors.specs.Diagonal.{of_a, of_b, of_c, of_d, abc, linear_term, square_term, curve, curve_channel, curve_median, turns}

-- ---- texels
-- the first three channels are at most 2 ^ 20 in size
pub record SmallTexel (a : List Float) : Type 0 where
  pub zeroth : Within 20 (channel a 0)
  pub first : Within 20 (channel a 1)
  pub second : Within 20 (channel a 2)

-- The median of a small texel is at most 2 ^ 20 in size.
pub texel_median_within : (a : List Float) → SmallTexel a → Within 20 (texel_median a)
unfolding texel_middle
texel_median_within a s = median_within 20 (channel a 0) (channel a 1) (channel a 2) s.zeroth s.first s.second

-- ---- crossings
-- A crossing that is inside is a weight.
pub inside_weight : (t : Float) → inside t ≡ true → Weight t
unfolding inside of_bits le
inside_weight t p =
    let b = both_hold (lt epsilon t) (lt t one_less_epsilon) p in
    weight t (le_trans nought epsilon t tt (le_of_lt epsilon t (holds _ b.0))) (le_trans t one_less_epsilon one (le_of_lt t one_less_epsilon (holds _ b.1)) tt)

-- So is a turning point that adds a test.
pub turns_weight : (e : Float) → turns e ≡ true → Weight e
unfolding turns
turns_weight e p = let b = both_hold (lt (zero_of binary64) e) (lt e (one_of binary64)) p in strict_weight e b.0 b.1

-- The mixed median of two small texels is at most 2 ^ 21 in size.
pub mixed_median_within : (a b : List Float) (t : Float) → SmallTexel a → SmallTexel b → Weight t → Within 21 (mixed_median a b t)
unfolding mixed_median mixed_channel
mixed_median_within a b t u v w =
    median_within 21 (mixed_channel a b t 0) (mixed_channel a b t 1) (mixed_channel a b t 2) (mixed 0 u.zeroth v.zeroth) (mixed 1 u.first v.first) (mixed 2 u.second v.second)
  where
    mixed : (i : ℕ) → Within 20 (channel a i) → Within 20 (channel b i) → Within 21 (mixed_channel a b t i)
    mixed i p q = mix_within 20 (channel a i) (channel b i) t (omega arith) p q w.low w.high

-- ---- diagonals
-- four small texels: a, b in its row, c in its column, and d
pub record SmallFour (m : List (List Float)) : Type 0 where
  pub a : SmallTexel (get_or m 0 [])
  pub b : SmallTexel (get_or m 1 [])
  pub c : SmallTexel (get_or m 2 [])
  pub d : SmallTexel (get_or m 3 [])

-- channel i of all four is at most 2 ^ 20 in size
pub record SmallChannel (m : List (List Float)) (i : ℕ) : Type 0 where
  pub a : Within 20 (of_a m i)
  pub b : Within 20 (of_b m i)
  pub c : Within 20 (of_c m i)
  pub d : Within 20 (of_d m i)

-- a - b - c is at most 2 ^ 22 in size,
pub abc_within : (m : List (List Float)) (i : ℕ) → SmallChannel m i → Within 22 (abc m i)
unfolding abc
abc_within m i s = sub_within binary32 21 20 21 (sub binary32 (of_a m i) (of_b m i)) (of_c m i) (omega arith) (omega arith) (omega arith) (sub_within binary32 20 20 20 (of_a m i) (of_b m i) (omega arith) (omega arith) (omega arith) s.a s.b) s.c

-- the coefficient of t at most 2 ^ 23,
pub linear_term_within : (m : List (List Float)) (i : ℕ) → SmallChannel m i → Within 23 (linear_term m i)
unfolding linear_term
linear_term_within m i s = sub_within binary32 20 22 22 (neg (of_a m i)) (abc m i) (omega arith) (omega arith) (omega arith) (neg_within 20 (of_a m i) s.a) (abc_within m i s)

-- and that of its square too.
pub square_term_within : (m : List (List Float)) (i : ℕ) → SmallChannel m i → Within 23 (square_term m i)
unfolding square_term
square_term_within m i s = add_within binary32 20 22 22 (of_d m i) (abc m i) (omega arith) (omega arith) (omega arith) s.d (abc_within m i s)

-- A curve with such coefficients is at most 2 ^ 25 in size at a weight.
pub curve_within : (a l q t : Float) → Within 20 a → Within 23 l → Within 23 q → Weight t → Within 25 (curve a l q t)
unfolding curve
curve_within a l q t u v w z =
    let tq = mul binary64 t q in
    let tql = add binary64 tq l in
    narrow_within 25 (add binary64 (mul binary64 t tql) a) (omega arith)
    (add_within binary64 24 20 24 (mul binary64 t tql) a (omega arith) (omega arith) (omega arith)
    (mul_within binary64 0 24 t tql (omega arith) z.bounded (add_within binary64 23 23 23 tq l (omega arith) (omega arith) (omega arith) (mul_within binary64 0 23 t q (omega arith) z.bounded w) v)) u)

-- Channel i at a weight is at most 2 ^ 25 in size.
pub curve_channel_within : (m : List (List Float)) (t : Float) (i : ℕ) → SmallChannel m i → Weight t → Within 25 (curve_channel m t i)
unfolding curve_channel
curve_channel_within m t i s w = curve_within (of_a m i) (linear_term m i) (square_term m i) t s.a (linear_term_within m i s) (square_term_within m i s) w

-- So is the median there.
pub curve_median_within : (m : List (List Float)) (t : Float) → SmallFour m → Weight t → Within 25 (curve_median m t)
unfolding curve_median
curve_median_within m t s w =
    median_within 25 (curve_channel m t 0) (curve_channel m t 1) (curve_channel m t 2)
    (curve_channel_within m t 0 (record { a = s.a.zeroth; b = s.b.zeroth; c = s.c.zeroth; d = s.d.zeroth }) w)
    (curve_channel_within m t 1 (record { a = s.a.first; b = s.b.first; c = s.c.first; d = s.d.first }) w)
    (curve_channel_within m t 2 (record { a = s.a.second; b = s.b.second; c = s.c.second; d = s.d.second }) w)

-- ---- the detectors
median_25 : (a : List Float) → SmallTexel a → Within 25 (texel_median a)
median_25 a s = within_more 20 25 (texel_median a) (omega arith) (texel_median_within a s)

-- The range test of a side neighbour compares finite values.
pub linear_finite : (span : Float) (a b : List Float) (t : Float) → Span span → SmallTexel a → SmallTexel b → inside t ≡ true → AllFinite (compared span (zero_of binary64) (one_of binary64) t (texel_median a) (texel_median b) (mixed_median a b t))
linear_finite span a b t s u v p =
    let w = inside_weight t p in
    compared_finite span (zero_of binary64) (one_of binary64) t (texel_median a) (texel_median b) (mixed_median a b t) s zero_weight one_weight w (median_25 a u) (median_25 b v)
    (within_more 21 25 (mixed_median a b t) (omega arith) (mixed_median_within a b t u v w))

-- So does that of a diagonal one at a root t,
pub diagonal_finite : (span : Float) (m : List (List Float)) (t : Float) → Span span → SmallFour m → inside t ≡ true → AllFinite (compared span (zero_of binary64) (one_of binary64) t (texel_median (get_or m 0 [])) (texel_median (get_or m 3 [])) (curve_median m t))
diagonal_finite span m t s f p =
    let w = inside_weight t p in
    compared_finite span (zero_of binary64) (one_of binary64) t (texel_median (get_or m 0 [])) (texel_median (get_or m 3 [])) (curve_median m t) s zero_weight one_weight w (median_25 _ f.a) (median_25 _ f.d) (curve_median_within m t f w)

-- that with the upper end moved to a turning point e,
pub upper_finite : (span : Float) (m : List (List Float)) (t e : Float) → Span span → SmallFour m → inside t ≡ true → lt (zero_of binary64) e ≡ true → lt e (one_of binary64) ≡ true → AllFinite (compared span (zero_of binary64) e t (texel_median (get_or m 0 [])) (curve_median m e) (curve_median m t))
upper_finite span m t e s f p q r =
    let w = inside_weight t p in
    let z = strict_weight e q r in
    compared_finite span (zero_of binary64) e t (texel_median (get_or m 0 [])) (curve_median m e) (curve_median m t) s zero_weight z w (median_25 _ f.a) (curve_median_within m e f z) (curve_median_within m t f w)

-- and that with the lower end moved to it.
pub lower_finite : (span : Float) (m : List (List Float)) (t e : Float) → Span span → SmallFour m → inside t ≡ true → lt (zero_of binary64) e ≡ true → lt e (one_of binary64) ≡ true → AllFinite (compared span e (one_of binary64) t (curve_median m e) (texel_median (get_or m 3 [])) (curve_median m t))
lower_finite span m t e s f p q r =
    let w = inside_weight t p in
    let z = strict_weight e q r in
    compared_finite span e (one_of binary64) t (curve_median m e) (texel_median (get_or m 3 [])) (curve_median m t) s z one_weight w (curve_median_within m e f z) (median_25 _ f.d) (curve_median_within m t f w)
