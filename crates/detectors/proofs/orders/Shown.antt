-- The laws of orders say something: crossings and roots are inside where signs are opposite, and texels of one order exist. By evaluation. Assumes nothing.
use Rattle.std.proofs.Common.{◌≡◌, ℕ, ◌≤◌, Bool, true, false, List, [], ◌∷◌, pos, negsuc, sym, refl, ◌∙◌, subst, inl, inr, lit≤}
use lib.Count.{count_trailing_zeros}
use lib.Ieee.{Float, fin, is_nan, lt, le, ne, eq, neg, add, sum, sub, mul, div, round, units, odd, size, span, climb, of_bits, of_fields, fits}
use Rattle.numbers.specs.Scalar.{min_of, max_of, median_of, abs_of, mix_of}
use Rattle.numbers.specs.Rounding.{narrow_of}
use Rattle.numbers.specs.SquareRoot.{root_by, root, root_of, sqrt_of}
use Rattle.numbers.specs.EquationSolver.{is_linear, linear_roots, discriminant, upper_root, lower_root, square_roots_by, square_roots, roots_of}
use Rattle.ground.specs.Lists.{any, some, spent, spent_in}
use Rattle.ranges.specs.Classifier.{falls_below, rises_above, lies_outside, candidate, within, in_range, range_test}
use Rattle.detectors.specs.Texel.{texel_middle}
use Rattle.detectors.specs.Pairs.{guard, inside, mixed_channel, mixed_median, next, difference}
use Rattle.detectors.specs.Linear.{crossing, linear_at, linear_pair, linear_tests_at, linear_pair_tests, linear_pairs_tests, linear_tests}
use Rattle.detectors.specs.Diagonal.{abc, linear_term, square_term, turning_point, curve, curve_channel, curve_median, middle_difference, quadratic_roots, pair_roots, turns, moved_end, turning_test, root_tests, diagonal_at, diagonal_pair, root_test_count, diagonal_tests_at, diagonal_pair_tests, diagonal_pairs_tests, diagonal_tests}
use Rattle.detectors.specs.Orders.{clear, moderate, sign, ordered, order_code}
use Rattle.detectors.proofs.orders.Pairs.{Sorted}
use Rattle.detectors.proofs.Laws.Orders.{linear_settled, diagonal_settled}

-- 1, −3 and 1: 5·t·t − 5·t + 1 has two roots inside.
other_sign : some inside (quadratic_roots (fin false 1 (pos 0)) (fin true 3 (pos 0)) (fin false 1 (pos 0))) ≡ true
unfolding count_trailing_zeros is_nan lt le eq neg add sum sub mul div round units odd size span climb of_bits of_fields abs_of root_by root root_of sqrt_of is_linear linear_roots discriminant upper_root lower_root square_roots_by square_roots roots_of inside quadratic_roots some
other_sign = refl

-- 1 and −1: the crossing is at 0.5.
other_crossing : inside (crossing (fin false 1 (pos 0)) (fin true 1 (pos 0))) ≡ true
unfolding count_trailing_zeros is_nan lt le eq neg add sum sub mul div round units odd size span climb of_bits of_fields inside crossing
other_crossing = refl

-- 2 ^ -7, the smallest value of binary32, and 2 ^ 12
met : Sorted (fin false 1 (negsuc 6)) (fin false 1 (negsuc 148)) (fin false 1 (pos 12))
unfolding fits le lt eq
met = record { A_fits = tt; B_fits = tt; D_fits = tt; A_sized = inr tt; A_most = tt; B_least = tt; B_most = tt; D_sized = inr tt; D_most = tt; middle = inr (tt, tt) }

-- −0, 0 and 1
met_zeros : Sorted (fin true 0 (pos 0)) (fin false 0 (pos 0)) (fin false 1 (pos 0))
unfolding fits le lt eq
met_zeros = record { A_fits = tt; B_fits = tt; D_fits = tt; A_sized = inl tt; A_most = tt; B_least = tt; B_most = tt; D_sized = inr tt; D_most = tt; middle = inl (inl tt) }

-- ---- texels of three channels
-- 0, 0.5 and 1: two pairs rise and one falls.
abbrev rising : List Float
rising = fin false 0 (pos 0) ∷ fin false 1 (negsuc 0) ∷ fin false 1 (pos 0) ∷ []

-- −2048, −2 ^ -6 and 0: the same, as far and as near as channels may be
abbrev extreme : List Float
extreme = fin true 1 (pos 11) ∷ fin true 1 (negsuc 5) ∷ fin false 0 (pos 0) ∷ []

-- 1, 0.5 and 0
abbrev falling : List Float
falling = fin false 1 (pos 0) ∷ fin false 1 (negsuc 0) ∷ fin false 0 (pos 0) ∷ []

rising_code : order_code rising ≡ 12
unfolding count_trailing_zeros lt le eq neg add sum sub round units odd size span climb of_bits of_fields fits next difference clear moderate sign ordered order_code
rising_code = refl

extreme_code : order_code extreme ≡ 12
unfolding count_trailing_zeros lt le eq neg add sum sub round units odd size span climb of_bits of_fields fits next difference clear moderate sign ordered order_code
extreme_code = refl

falling_code : order_code falling ≡ 11
unfolding count_trailing_zeros lt le eq neg add sum sub round units odd size span climb of_bits of_fields fits next difference clear moderate sign ordered order_code
falling_code = refl

-- 0, 0 and 1: a pair that is level counts as one that rises.
half_level_code : order_code (fin false 0 (pos 0) ∷ fin false 0 (pos 0) ∷ fin false 1 (pos 0) ∷ []) ≡ 12
unfolding count_trailing_zeros lt le eq neg add sum sub round units odd size span climb of_bits of_fields fits next difference clear moderate sign ordered order_code
half_level_code = refl

-- three that are equal
level_code : order_code (fin false 1 (negsuc 1) ∷ fin false 1 (negsuc 1) ∷ fin false 1 (negsuc 1) ∷ []) ≡ 8
unfolding count_trailing_zeros lt le eq neg add sum sub round units odd size span climb of_bits of_fields fits next difference clear moderate sign ordered order_code
level_code = refl

-- Of 0, 2 ^ -7 and 1 nothing is said.
near_code : order_code (fin false 0 (pos 0) ∷ fin false 1 (negsuc 6) ∷ fin false 1 (pos 0) ∷ []) ≡ 0
unfolding count_trailing_zeros lt le eq neg add sum sub round units odd size span climb of_bits of_fields fits next difference clear moderate sign ordered order_code
near_code = refl

-- Texels of one order are settled, whatever the settings.
one_order : (w : Float) (protected : Bool) (am : Float) → linear_tests w protected am rising extreme ≡ 0
one_order w protected am = (linear_settled w protected am rising extreme (rising_code ∙ sym extreme_code) (subst (λ (n : ℕ). 1 ≤ n) (sym rising_code) (lit≤ tt))).1

one_order_of_four : (w : Float) (protected : Bool) (am : Float) → diagonal_tests w protected am (rising ∷ extreme ∷ extreme ∷ rising ∷ []) ≡ 0
one_order_of_four w protected am = (diagonal_settled w protected am (rising ∷ extreme ∷ extreme ∷ rising ∷ []) 12 (lit≤ tt) rising_code extreme_code extreme_code rising_code).1

-- Between texels of two orders each pair crosses, and is tested.
two_orders : linear_tests (fin false 1 (pos 0)) false (fin false 1 (negsuc 0)) rising falling ≡ 3
unfolding count_trailing_zeros is_nan lt le ne eq neg add sum sub mul div round units odd size span climb of_bits of_fields min_of max_of median_of abs_of narrow_of mix_of any spent texel_middle falls_below rises_above lies_outside candidate within in_range range_test guard inside mixed_channel mixed_median next difference crossing linear_at linear_pair linear_tests_at linear_pair_tests linear_pairs_tests linear_tests
two_orders = refl

two_orders_of_four : diagonal_tests (fin false 1 (pos 0)) false (fin false 1 (negsuc 0)) (rising ∷ falling ∷ falling ∷ rising ∷ []) ≡ 7
unfolding count_trailing_zeros is_nan lt le ne eq neg add sum sub mul div round units odd size span climb of_bits of_fields min_of max_of median_of abs_of narrow_of mix_of root_by root root_of sqrt_of is_linear linear_roots discriminant upper_root lower_root square_roots_by square_roots roots_of any some spent spent_in texel_middle falls_below rises_above lies_outside candidate within in_range range_test guard inside next difference abc linear_term square_term turning_point curve curve_channel curve_median middle_difference quadratic_roots pair_roots turns moved_end turning_test root_tests diagonal_at diagonal_pair root_test_count diagonal_tests_at diagonal_pair_tests diagonal_pairs_tests diagonal_tests
two_orders_of_four = refl
