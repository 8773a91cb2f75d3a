-- `ranges::classifier::candidate` meets its contract. Assumes nothing.
use Rattle.ranges.specs.Classifier.{candidate}
use Rattle.ranges.proofs.classifier.candidate.Goals as goal

pub returns : goal.returns
unfolding candidate
returns c = rw (c.before.before.falls_below.ensures, c.before.rises_above.ensures, c.lies_outside.ensures)
