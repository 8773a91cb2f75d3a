-- `ranges::classifier::rises_above` meets its contract. Assumes nothing.
use Rattle.std.proofs.Common.{refl}
use Rattle.ranges.specs.Classifier.{rises_above}
use Rattle.ranges.proofs.classifier.rises_above.Goals as goal

pub returns : goal.returns
unfolding rises_above
returns c = refl
