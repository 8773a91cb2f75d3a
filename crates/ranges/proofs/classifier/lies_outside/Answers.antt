-- `ranges::classifier::lies_outside` meets its contract. Assumes nothing.
use Rattle.ranges.specs.Classifier.{lies_outside}
use Rattle.ranges.proofs.classifier.lies_outside.Goals as goal

pub returns : goal.returns
unfolding lies_outside
returns c = rw c.median_value.ensures
