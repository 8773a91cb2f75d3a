-- `ranges::classifier::within` meets its contract. Assumes nothing.
use Rattle.std.proofs.Common.{refl}
use Rattle.ranges.specs.Classifier.{within}
use Rattle.ranges.proofs.classifier.within.Goals as goal

pub returns : goal.returns
unfolding within
returns c = refl
