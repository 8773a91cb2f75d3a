-- `ranges::classifier::falls_below` meets its contract. Assumes nothing.
use Rattle.std.proofs.Common.{refl}
use Rattle.ranges.specs.Classifier.{falls_below}
use Rattle.ranges.proofs.classifier.falls_below.Goals as goal

pub returns : goal.returns
unfolding falls_below
returns c = refl
