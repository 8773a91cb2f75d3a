-- Of small texels a diagonal pair has as many roots as whole numbers say, and a side pair's crossing is divided by zero only where there is none. Assumes nothing.
-- The count is that of the coefficients as they are stored: they are rounded differences, and where a root lies is rounded too.
--     Coefficients                    the three coefficients of pair p's quadratic are finite values of binary32
--     Small, coefficients_small       those of small texels are at most 2^25, 2^25 and 2^21 in size
--     coefficients_finite             so they are finite
--     pair_roots_true                 and then the number of its roots is the true one
--     side_divisor                    the divisor of a side pair's crossing is zero just where the two differences are equal
--     not_inside                      what is not strictly between 0 and 1 is not inside
--     side_none                       so no crossing is inside there
use Rattle.std.proofs.Common.{◌≡◌, ℕ, zero, suc, ◌<◌, true, false, T, List, [], length, get_or, ap, ◌∙◌, subst, inl, inr, arith}
use lib.Dec.{not_T}
use lib.Ieee.{Float, nan, inf, binary32, binary64, add, sub, div, eq, lt, of_bits}
use lib.Ieee.Fits.{add-fits, sub-fits, and_i, and_l, and_r}
use lib.Ieee.Bits.{is_false}
use Rattle.numbers.specs.Constants.{zero_of, one_of}
use Rattle.numbers.specs.Whole.{Finite}
use Rattle.numbers.proofs.Laws.Order.{IsFinite, lt_trans}
use Rattle.numbers.proofs.Laws.Bounds.{Within, within_finite, within_held, add_within, sub_within}
use Rattle.numbers.proofs.Laws.Exact.{div_by_zero}
use Rattle.numbers.proofs.Laws.Difference.{sub_zero}
use Rattle.numbers.proofs.Laws.RootCount.{count_true}
use Rattle.numbers.proofs.Laws.Beyond.{Outside, nan_outside, inf_outside}
use Rattle.ranges.specs.Constants.{epsilon, one_less_epsilon}
use Rattle.detectors.specs.Texel.{channel}
use Rattle.detectors.specs.Pairs.{inside, next, difference}
use Rattle.detectors.specs.Linear.{crossing}
use Rattle.detectors.specs.Diagonal.{middle_difference, square_coefficient, linear_coefficient, quadratic_roots, pair_roots}
use Rattle.detectors.specs.RootCount.{quadratic_count, pair_count}
use Rattle.detectors.proofs.Laws.Finite.{SmallTexel, SmallFour}

-- ---- a pair's differences
-- both channels of pair p are at most 2 ^ 20 in size
pair_within : (a : List Float) (p : ℕ) → SmallTexel a → p < 3 → Within 20 (channel a (next p)) × Within 20 (channel a p)
unfolding next
pair_within a zero s h = (s.first, s.zeroth)
pair_within a (suc zero) s h = (s.second, s.first)
pair_within a (suc (suc zero)) s h = (s.zeroth, s.second)
pair_within a (suc (suc (suc p))) s h = absurd (omega arith)

difference_within : (a : List Float) (p : ℕ) → SmallTexel a → p < 3 → Within 21 (difference a p)
unfolding difference
difference_within a p s h =
    let w = pair_within a p s h in
    sub_within binary32 20 20 20 (channel a (next p)) (channel a p) (omega arith) (omega arith) (omega arith) w.0 w.1

middle_within : (m : List (List Float)) (p : ℕ) → SmallFour m → p < 3 → Within 23 (middle_difference m p)
unfolding middle_difference
middle_within m p s h =
    let b = get_or m 1 [] in
    let c = get_or m 2 [] in
    let v = pair_within b p s.b h in
    let w = pair_within c p s.c h in
    let d = sub binary32 (channel b (next p)) (channel b p) in
    sub_within binary32 22 20 22 (add binary32 d (channel c (next p))) (channel c p) (omega arith) (omega arith) (omega arith)
    (add_within binary32 21 20 21 d (channel c (next p)) (omega arith) (omega arith) (omega arith) (sub_within binary32 20 20 20 (channel b (next p)) (channel b p) (omega arith) (omega arith) (omega arith) v.0 v.1) w.0) w.1

difference_finite : (a : List Float) (p : ℕ) → SmallTexel a → p < 3 → Finite binary32 (difference a p)
unfolding difference
difference_finite a p s h = within_held 21 binary32 (difference a p) (difference_within a p s h) (sub-fits binary32 (channel a (next p)) (channel a p))

-- ---- the diagonal pair
pub record Coefficients (m : List (List Float)) (p : ℕ) : Type 0 where
  pub square : Finite binary32 (square_coefficient (difference (get_or m 0 []) p) (middle_difference m p) (difference (get_or m 3 []) p))
  pub linear : Finite binary32 (linear_coefficient (difference (get_or m 0 []) p) (middle_difference m p))
  pub constant : Finite binary32 (difference (get_or m 0 []) p)

-- how large they are at most
pub record Small (m : List (List Float)) (p : ℕ) : Type 0 where
  pub square : Within 25 (square_coefficient (difference (get_or m 0 []) p) (middle_difference m p) (difference (get_or m 3 []) p))
  pub linear : Within 25 (linear_coefficient (difference (get_or m 0 []) p) (middle_difference m p))
  pub constant : Within 21 (difference (get_or m 0 []) p)

pub coefficients_small : (m : List (List Float)) (p : ℕ) → SmallFour m → p < 3 → Small m p
coefficients_small m p s h =
    let dA = difference (get_or m 0 []) p in
    let dBC = middle_difference m p in
    let dD = difference (get_or m 3 []) p in
    let u : Within 21 dA = difference_within (get_or m 0 []) p s.a h in
    let v : Within 23 dBC = middle_within m p s h in
    let w : Within 21 dD = difference_within (get_or m 3 []) p s.d h in
    record {
      square = add_within binary32 24 21 24 (sub binary32 dD dBC) dA (omega arith) (omega arith) (omega arith) (sub_within binary32 21 23 23 dD dBC (omega arith) (omega arith) (omega arith) w v) u;
      linear = sub_within binary32 24 21 24 (sub binary32 dBC dA) dA (omega arith) (omega arith) (omega arith) (sub_within binary32 23 21 23 dBC dA (omega arith) (omega arith) (omega arith) v u) u;
      constant = u;
    }

pub coefficients_finite : (m : List (List Float)) (p : ℕ) → SmallFour m → p < 3 → Coefficients m p
coefficients_finite m p s h =
    let dA = difference (get_or m 0 []) p in
    let dBC = middle_difference m p in
    let dD = difference (get_or m 3 []) p in
    let c = coefficients_small m p s h in
    record {
      square = within_held 25 binary32 _ c.square (add-fits binary32 (sub binary32 dD dBC) dA);
      linear = within_held 25 binary32 _ c.linear (sub-fits binary32 (sub binary32 dBC dA) dA);
      constant = difference_finite (get_or m 0 []) p s.a h;
    }

pub pair_roots_true : (m : List (List Float)) (p : ℕ) → Coefficients m p → length (pair_roots m p) ≡ pair_count m p
unfolding pair_roots quadratic_roots pair_count quadratic_count
pair_roots_true m p c = count_true _ _ _ c.square c.linear c.constant

-- ---- the side pair
pub side_divisor : (a b : List Float) (p : ℕ) → SmallTexel a → SmallTexel b → p < 3 → eq (sub binary32 (difference a p) (difference b p)) (zero_of binary64) ≡ eq (difference a p) (difference b p)
unfolding of_bits
side_divisor a b p s t h = sub_zero binary32 (difference a p) (difference b p) (difference_finite a p s h) (difference_finite b p t h)

-- what is not strictly between 0 and 1 is not inside
pub not_inside : (t : Float) → Outside t → inside t ≡ false
unfolding inside
not_inside t o = is_false (inside t) (not_T (inside t) (λ h. subst T o (and_i (lt (zero_of binary64) t) (lt t (one_of binary64))
    (lt_trans (zero_of binary64) epsilon t (unfold lt in unfold of_bits in tt) (and_l (lt epsilon t) (lt t one_less_epsilon) h))
    (lt_trans t one_less_epsilon (one_of binary64) (and_r (lt epsilon t) (lt t one_less_epsilon) h) (unfold lt in unfold of_bits in tt)))))

by_zero : (x d : Float) → IsFinite x → eq d (zero_of binary64) ≡ true → inside (div binary64 x d) ≡ false
unfolding of_bits
by_zero x d i h = elim (div_by_zero binary64 x d i h) [ inl e ↦ ap inside e ∙ not_inside nan nan_outside | inr e ↦ ap inside e.1 ∙ not_inside (inf e.0) (inf_outside e.0) ]

pub side_none : (a b : List Float) (p : ℕ) → SmallTexel a → SmallTexel b → p < 3 → eq (difference a p) (difference b p) ≡ true → inside (crossing (difference a p) (difference b p)) ≡ false
unfolding crossing
side_none a b p s t h e = by_zero (difference a p) (sub binary32 (difference a p) (difference b p)) (within_finite 21 (difference a p) (difference_within a p s h)) (side_divisor a b p s t h ∙ e)
