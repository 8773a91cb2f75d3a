-- `plain::classifier::is_tested` meets its contract. Assumes nothing.
use Rattle.detectors.specs.Pairs.{guard}
use Rattle.plain.proofs.classifier.is_tested.Goals as goal

pub returns : goal.returns
unfolding guard
returns c = cc
