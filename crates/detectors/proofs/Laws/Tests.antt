-- How many range tests a detector makes, at most and at least. Assumes nothing.
--     linear_at_le          one at a crossing
--     linear_tests_le       three of a side neighbour
--     linear_tests_some     and one where there is an artifact
--     diagonal_at_le        three at a root
--     diagonal_pair_le      six for a pair
--     doubted_le            and for one that may be left out
--     diagonal_tests_le     eighteen of a diagonal neighbour
--     diagonal_tests_some   and one where there is an artifact
use Rattle.std.proofs.Common.{◌≡◌, ℕ, ◌≤◌, Bool, true, List, [], length, get_or, arith}
use lib.Ieee.{Float}
use Rattle.numbers.proofs.Laws.EquationSolver.{at_most_two}
use Rattle.ground.proofs.Laws.Spent.{guard_small, guard_some, spent_small, spent_found, spent_in_small, spent_in_found}
use Rattle.detectors.specs.Texel.{texel_median}
use Rattle.detectors.specs.Pairs.{guard, inside, next, difference}
use Rattle.detectors.specs.Linear.{crossing, linear_at, linear_pair, linear_pairs, has_linear_artifact, linear_tests_at, linear_pair_tests, linear_pairs_tests, linear_tests}
use Rattle.detectors.specs.Diagonal.{turning_point, quadratic_roots, pair_roots, turns, diagonal_at, diagonal_pair, diagonal_pairs, has_diagonal_artifact, root_test_count, diagonal_tests_at, diagonal_pair_tests, diagonal_pairs_tests, diagonal_tests}
use Rattle.detectors.specs.Orders.{doubted, doubted_tests}

pub linear_at_le : (t : Float) → linear_tests_at t ≤ 1
unfolding linear_tests_at
linear_at_le t = guard_small (inside t) 1 1 (omega arith)

pub linear_tests_le : (span : Float) (protected : Bool) (am : Float) (a b : List Float) → linear_tests span protected am a b ≤ 3
unfolding linear_tests linear_pairs_tests linear_pair_tests
linear_tests_le span protected am a b = guard_small (guard am (texel_median b)) _ 3 (spent_small 1 3 _ _ (λ p. linear_at_le (crossing (difference a p) (difference b p))))

pub linear_tests_some : (span : Float) (protected : Bool) (am : Float) (a b : List Float) → has_linear_artifact span protected am a b ≡ true → 1 ≤ linear_tests span protected am a b
unfolding has_linear_artifact linear_pairs linear_pair linear_at linear_tests linear_pairs_tests linear_pair_tests linear_tests_at
linear_tests_some span protected am a b = guard_some (guard am (texel_median b)) _ _ (spent_found _ _ (λ p. guard_some (inside (crossing (difference a p) (difference b p))) _ 1 (λ q. omega arith)) 3)

pub diagonal_at_le : (m : List (List Float)) (p : ℕ) (t : Float) → diagonal_tests_at m p t ≤ 3
unfolding diagonal_tests_at root_test_count
diagonal_at_le m p t =
    guard_small (inside t) _ 3 (omega (arith, guard_small (turns (turning_point m p)) 1 1 (omega arith), guard_small (turns (turning_point m (next p))) 1 1 (omega arith)))

-- A pair has at most two roots.
pub pair_length : (m : List (List Float)) (p : ℕ) → length (pair_roots m p) ≤ 2
unfolding pair_roots quadratic_roots
pair_length m p = at_most_two _ _ _

module _ (span : Float) (protected : Bool) (am : Float) (m : List (List Float)) where
  pub diagonal_pair_le : (dm : Float) (p : ℕ) → diagonal_pair_tests span protected am dm m p ≤ 6
  unfolding diagonal_pair_tests
  diagonal_pair_le dm p = omega (arith, pair_length m p, spent_in_small (diagonal_at span protected am dm m p) (diagonal_tests_at m p) 3 (diagonal_at_le m p) (pair_roots m p))

  pub doubted_le : (bits : ℕ) (dm : Float) (p : ℕ) → doubted_tests bits span protected am dm m p ≤ 6
  unfolding doubted_tests
  doubted_le bits dm p = guard_small (doubted bits p) _ 6 (diagonal_pair_le dm p)

  pub diagonal_tests_le : diagonal_tests span protected am m ≤ 18
  unfolding diagonal_tests diagonal_pairs_tests
  diagonal_tests_le = guard_small (guard am (texel_median (get_or m 3 []))) _ 18 (spent_small 6 3 _ _ (diagonal_pair_le (texel_median (get_or m 3 []))))

  root_some : (dm : Float) (p : ℕ) (t : Float) → diagonal_at span protected am dm m p t ≡ true → 1 ≤ diagonal_tests_at m p t
  unfolding diagonal_at diagonal_tests_at root_test_count
  root_some dm p t = guard_some (inside t) _ _ (λ q. omega arith)

  pair_some : (dm : Float) (p : ℕ) → diagonal_pair span protected am dm m p ≡ true → 1 ≤ diagonal_pair_tests span protected am dm m p
  unfolding diagonal_pair diagonal_pair_tests
  pair_some dm p = spent_in_found _ _ (root_some dm p) (pair_roots m p)

  pub diagonal_tests_some : has_diagonal_artifact span protected am m ≡ true → 1 ≤ diagonal_tests span protected am m
  unfolding has_diagonal_artifact diagonal_pairs diagonal_tests diagonal_pairs_tests
  diagonal_tests_some = guard_some (guard am (texel_median (get_or m 3 []))) _ _ (spent_found _ _ (pair_some (texel_median (get_or m 3 []))) 3)
