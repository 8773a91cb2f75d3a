-- `detectors::verdict::Verdict::artifact` meets its contract. Assumes nothing.
use Rattle.std.proofs.Common.{refl}
use Rattle.detectors.specs.Verdict.{verdict}
use Rattle.detectors.proofs.verdict.Verdict.artifact.Goals as goal

pub returns : goal.returns
unfolding verdict
returns c = refl
