-- The diagonal detector, over four texels of three channels each: a; its two side neighbours b (in the row) and c (in the column); the far one d. Definitions only.
use Rattle.std.specs.Prelude.{ℕ, ◌+◌, Bool, cond, ◌&&◌, ◌||◌, List, [], slice_index_or, Float}
use Rattle.std.specs.Float.{binary32, binary64}
use Rattle.std.specs.Float.Ieee.{lt, neg, add, sub, mul, div}
use Rattle.numbers.specs.Constants.{zero_of, one_of}
use Rattle.ranges.specs.Constants.{half_of}
use Rattle.numbers.specs.Scalar.{median_of}
use Rattle.numbers.specs.Rounding.{narrow_of}
use Rattle.numbers.specs.EquationSolver.{roots_of}
use Rattle.ground.specs.Lists.{any, some, spent, spent_in}
use Rattle.detectors.specs.Texel.{channel, texel_median}
use Rattle.ranges.specs.Classifier.{range_test}
use Rattle.detectors.specs.Pairs.{guard, inside, next, difference}

-- channel i of a, b, c and d
abbrev pub of_a : List (List Float) → ℕ → Float
of_a m i = channel (slice_index_or m 0 []) i

abbrev pub of_b : List (List Float) → ℕ → Float
of_b m i = channel (slice_index_or m 1 []) i

abbrev pub of_c : List (List Float) → ℕ → Float
of_c m i = channel (slice_index_or m 2 []) i

abbrev pub of_d : List (List Float) → ℕ → Float
of_d m i = channel (slice_index_or m 3 []) i

-- abc = a − b − c
unfoldable pub abc : List (List Float) → ℕ → Float
abc m i = sub binary32 (sub binary32 (of_a m i) (of_b m i)) (of_c m i)

-- l = −a − abc, the coefficient of t
unfoldable pub linear_term : List (List Float) → ℕ → Float
linear_term m i = sub binary32 (neg (of_a m i)) (abc m i)

-- q = d + abc, the coefficient of t·t
unfoldable pub square_term : List (List Float) → ℕ → Float
square_term m i = add binary32 (of_d m i) (abc m i)

-- where channel i turns: −0.5·l/q in f64
unfoldable pub turning_point : List (List Float) → ℕ → Float
turning_point m i = div binary64 (mul binary64 (neg (half_of binary64)) (linear_term m i)) (square_term m i)

-- t·(t·q + l) + a in f64, then narrowed
unfoldable pub curve : Float → Float → Float → Float → Float
curve a l q t = narrow_of (add binary64 (mul binary64 t (add binary64 (mul binary64 t q) l)) a)

-- channel i at t
unfoldable pub curve_channel : List (List Float) → Float → ℕ → Float
curve_channel m t i = curve (of_a m i) (linear_term m i) (square_term m i) t

-- the median at t
unfoldable pub curve_median : List (List Float) → Float → Float
curve_median m t = median_of (curve_channel m t 0) (curve_channel m t 1) (curve_channel m t 2)

-- the pair's difference of b and c together: b_j − b_p + c_j − c_p
unfoldable pub middle_difference : List (List Float) → ℕ → Float
middle_difference m p = sub binary32 (add binary32 (sub binary32 (of_b m (next p)) (of_b m p)) (of_c m (next p))) (of_c m p)

-- the pair quadratic's coefficients, from the differences of a, of b and c, and of d: of t·t, and of t; the constant is that of a
abbrev pub square_coefficient : Float → Float → Float → Float
square_coefficient dA dBC dD = add binary32 (sub binary32 dD dBC) dA

abbrev pub linear_coefficient : Float → Float → Float
linear_coefficient dA dBC = sub binary32 (sub binary32 dBC dA) dA

-- its roots
unfoldable pub quadratic_roots : Float → Float → Float → List Float
quadratic_roots dA dBC dD = roots_of (square_coefficient dA dBC dD) (linear_coefficient dA dBC) dA

unfoldable pub pair_roots : List (List Float) → ℕ → List Float
pair_roots m p = quadratic_roots (difference (slice_index_or m 0 []) p) (middle_difference m p) (difference (slice_index_or m 3 []) p)

-- A turning point e adds a range test where it lies strictly inside 0..1:
unfoldable pub turns : Float → Bool
turns e = lt (zero_of binary64) e && lt e (one_of binary64)

-- that with one end moved to it, the upper end if it lies above the root t, else the lower.
unfoldable pub moved_end : Float → Bool → Float → Float → Float → Float → Float → Float → Bool
moved_end span protected am dm em e t xm =
    cond (lt t e) (range_test span protected (zero_of binary64) e t am em xm) (range_test span protected e (one_of binary64) t em dm xm)

unfoldable pub turning_test : Float → Bool → Float → Float → List (List Float) → Float → Float → Float → Bool
turning_test span protected am dm m t xm e = turns e && moved_end span protected am dm (curve_median m e) e t xm

-- the range tests of a root t whose median is xm
unfoldable pub root_tests : Float → Bool → Float → Float → List (List Float) → ℕ → Float → Float → Bool
root_tests span protected am dm m p t xm =
    range_test span protected (zero_of binary64) (one_of binary64) t am dm xm
    || (turning_test span protected am dm m t xm (turning_point m p) || turning_test span protected am dm m t xm (turning_point m (next p)))

-- A root is an artifact if any of its range tests says so.
unfoldable pub diagonal_at : Float → Bool → Float → Float → List (List Float) → ℕ → Float → Bool
diagonal_at span protected am dm m p t = inside t && root_tests span protected am dm m p t (curve_median m t)

-- some root of pair p
unfoldable pub diagonal_pair : Float → Bool → Float → Float → List (List Float) → ℕ → Bool
diagonal_pair span protected am dm m p = some (diagonal_at span protected am dm m p) (pair_roots m p)

-- some pair; am and dm are the medians of a and d
unfoldable pub diagonal_pairs : Float → Bool → Float → Float → List (List Float) → Bool
diagonal_pairs span protected am dm m = guard am dm && any 3 (diagonal_pair span protected am dm m)

-- the detector
unfoldable pub has_diagonal_artifact : Float → Bool → Float → List (List Float) → Bool
has_diagonal_artifact span protected am m = diagonal_pairs span protected am (texel_median (slice_index_or m 3 [])) m

-- ---- how many range tests the detector makes

-- at a root of pair p: one, and one more for each of the two turning points that adds one; all of them are made before the verdict
unfoldable pub root_test_count : List (List Float) → ℕ → ℕ
root_test_count m p = 1 + cond (turns (turning_point m p)) 1 0 + cond (turns (turning_point m (next p))) 1 0

-- at a root t, where it is inside
unfoldable pub diagonal_tests_at : List (List Float) → ℕ → Float → ℕ
diagonal_tests_at m p t = cond (inside t) (root_test_count m p) 0

-- for pair p: its roots in order, up to the first artifact
unfoldable pub diagonal_pair_tests : Float → Bool → Float → Float → List (List Float) → ℕ → ℕ
diagonal_pair_tests span protected am dm m p = spent_in (diagonal_at span protected am dm m p) (diagonal_tests_at m p) (pair_roots m p)

-- for the pairs in order, up to the first artifact
unfoldable pub diagonal_pairs_tests : Float → Bool → Float → Float → List (List Float) → ℕ
diagonal_pairs_tests span protected am dm m = cond (guard am dm) (spent 3 (diagonal_pair span protected am dm m) (diagonal_pair_tests span protected am dm m)) 0

-- of the detector
unfoldable pub diagonal_tests : Float → Bool → Float → List (List Float) → ℕ
diagonal_tests span protected am m = diagonal_pairs_tests span protected am (texel_median (slice_index_or m 3 [])) m
