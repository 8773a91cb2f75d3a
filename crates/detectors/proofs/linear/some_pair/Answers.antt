-- `detectors::linear::some_pair` meets its contract: the pairs are tried in order, each unless there is an artifact before. Assumes nothing.
use Rattle.std.proofs.Common.{◌≡◌, ℕ, Bool, List, arith}
use lib.Ieee.{Float}
use Rattle.ground.specs.Lists.{any, spent}
use Rattle.detectors.specs.Verdict.{verdict}
use Rattle.detectors.specs.Inner.{or_else}
use Rattle.detectors.specs.Pairs.{difference}
use Rattle.detectors.specs.Linear.{crossing, linear_at, linear_pair, linear_tests_at, linear_pair_tests}
use Rattle.detectors.proofs.Laws.Verdict.{or_three}
use Rattle.detectors.proofs.Laws.Tests.{linear_at_le}
use Rattle.detectors.proofs.linear.some_pair.Goals as goal

module _ (span : Float) (protected : Bool) (am bm : Float) (a b : List Float) where
  abbrev pair : ℕ → ℕ
  pair p = let t = crossing (difference a p) (difference b p) in verdict (linear_at span protected am bm a b t) (linear_tests_at t)

  pairs : or_else (or_else (or_else 0 (pair 0)) (pair 1)) (pair 2) ≡ verdict (any 3 (linear_pair span protected am bm a b)) (spent 3 (linear_pair span protected am bm a b) (linear_pair_tests a b))
  unfolding linear_pair linear_pair_tests
  pairs = or_three _ _ (λ p. omega (arith, linear_at_le (crossing (difference a p) (difference b p))))

pub returns : goal.returns
returns c =
    rw (c.has_linear_artifact_inner.ensures, c.difference-6.ensures, c.difference-5.ensures, c.has_linear_artifact_inner-v.ensures, c.difference-4.ensures, c.difference-3.ensures, c.has_linear_artifact_inner-u.ensures, c.difference-2.ensures, c.difference.ensures)
    (pairs _ _ _ _ _ _)
