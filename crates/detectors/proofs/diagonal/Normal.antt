-- A search through a pair's roots by the branchless root finds and spends what one through its roots does, whatever the texels hold. Assumes nothing.
-- Where the two lists differ none of their roots is inside.
--     normal_length   there are at most two
--     normal_some     one of them is an artifact just where one of the pair's roots is
--     normal_spent    and as many tests are made
use Rattle.std.proofs.Common.{◌≡◌, ℕ, ◌≤◌, Bool, false, ◌||◌, T, ◌⊎◌, List, [], ◌∷◌, length, get_or, sym, refl, ap, ◌∙◌, inl, inr}
use lib.Ieee.{Float, binary32, sub, fits}
use lib.Ieee.Fits.{add-fits, sub-fits}
use Rattle.numbers.proofs.Laws.EquationSolver.{normal_at_most_two}
use Rattle.numbers.proofs.Laws.Beyond.{AllOutside, beyond}
use Rattle.ground.specs.Lists.{some, spent_in}
use Rattle.detectors.proofs.Laws.RootCount.{not_inside}
use Rattle.detectors.proofs.orders.Filter.{none_and, spent_and, no_artifact, no_tests}
use Rattle.detectors.specs.Texel.{channel}
use Rattle.detectors.specs.Pairs.{inside, next, difference}
use Rattle.detectors.specs.Diagonal.{middle_difference, curve_median, quadratic_roots, pair_roots, root_tests, diagonal_at, diagonal_pair, root_test_count, diagonal_tests_at, diagonal_pair_tests}
use Rattle.detectors.specs.Discriminant.{normal_quadratic_roots, normal_pair_roots}

pub normal_length : (m : List (List Float)) (p : ℕ) → length (normal_pair_roots m p) ≤ 2
unfolding normal_pair_roots normal_quadratic_roots
normal_length m p = normal_at_most_two _ _ _

-- the coefficients are sums and differences in f32, so values of it
difference_fits : (a : List Float) (p : ℕ) → T (fits binary32 (difference a p))
unfolding difference
difference_fits a p = sub-fits binary32 (channel a (next p)) (channel a p)

normal_or_outside : (m : List (List Float)) (p : ℕ) → (normal_pair_roots m p ≡ pair_roots m p) ⊎ (AllOutside (normal_pair_roots m p) × AllOutside (pair_roots m p))
unfolding normal_pair_roots normal_quadratic_roots pair_roots quadratic_roots
normal_or_outside m p =
    let dA = difference (get_or m 0 []) p in
    let dBC = middle_difference m p in
    beyond _ _ dA (add-fits binary32 (sub binary32 (difference (get_or m 3 []) p) dBC) dA) (sub-fits binary32 (sub binary32 dBC dA) dA) (difference_fits (get_or m 0 []) p)

none_inside : (ts : List Float) → AllOutside ts → some inside ts ≡ false
unfolding some AllOutside
none_inside [] o = refl
none_inside (t ∷ ts) o = λ i. not_inside t o.0 i || none_inside ts o.1 i

module _ (span : Float) (protected : Bool) (am dm : Float) (m : List (List Float)) (p : ℕ) where
  abbrev at : Float → Bool
  at = diagonal_at span protected am dm m p

  abbrev takes : Float → ℕ
  takes = diagonal_tests_at m p

  abbrev tests : Float → Bool
  tests t = root_tests span protected am dm m p t (curve_median m t)

  pub normal_some : some at (normal_pair_roots m p) ≡ diagonal_pair span protected am dm m p
  unfolding diagonal_pair diagonal_at
  normal_some = elim (normal_or_outside m p) [
    | inl e ↦ ap (some at) e
    | inr o ↦ none_and tests (normal_pair_roots m p) (none_inside (normal_pair_roots m p) o.0) ∙ sym (no_artifact span protected am dm m p (none_inside (pair_roots m p) o.1))
  ]

  pub normal_spent : spent_in at takes (normal_pair_roots m p) ≡ diagonal_pair_tests span protected am dm m p
  unfolding diagonal_pair_tests diagonal_at diagonal_tests_at
  normal_spent = elim (normal_or_outside m p) [
    | inl e ↦ ap (spent_in at takes) e
    | inr o ↦ spent_and tests (root_test_count m p) (normal_pair_roots m p) (none_inside (normal_pair_roots m p) o.0) ∙ sym (no_tests span protected am dm m p (none_inside (pair_roots m p) o.1))
  ]
