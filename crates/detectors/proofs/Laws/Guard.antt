-- The diagonal detector in its two steps: the guard, and what comes once it has passed. Assumes nothing.
--     untested   where the guard keeps a texel back, the verdict is that nothing was tried
--     tested     where it passes, the verdict is that of the pairs
use Rattle.std.proofs.Common.{◌≡◌, Bool, true, false, List, [], get_or}
use lib.Ieee.{Float}
use Rattle.ground.specs.Lists.{any, spent}
use Rattle.detectors.specs.Texel.{texel_median}
use Rattle.detectors.specs.Verdict.{verdict}
use Rattle.detectors.specs.Pairs.{guard}
use Rattle.detectors.specs.Diagonal.{diagonal_pair, diagonal_pairs, has_diagonal_artifact, diagonal_pair_tests, diagonal_pairs_tests, diagonal_tests}
use Rattle.detectors.proofs.Laws.Verdict.{guarded_off, guarded_on}

module _ (span : Float) (protected : Bool) (am dm : Float) (m : List (List Float)) (e : dm ≡ texel_median (get_or m 3 [])) where
  pub untested : guard am dm ≡ false → 0 ≡ verdict (has_diagonal_artifact span protected am m) (diagonal_tests span protected am m)
  unfolding has_diagonal_artifact diagonal_pairs diagonal_tests diagonal_pairs_tests
  untested f = rw (← e) (guarded_off _ _ _ f)

  pub tested : guard am dm ≡ true →
      verdict (any 3 (diagonal_pair span protected am dm m)) (spent 3 (diagonal_pair span protected am dm m) (diagonal_pair_tests span protected am dm m))
      ≡ verdict (has_diagonal_artifact span protected am m) (diagonal_tests span protected am m)
  unfolding has_diagonal_artifact diagonal_pairs diagonal_tests diagonal_pairs_tests
  tested t = rw (← e) (guarded_on _ _ _ t)
