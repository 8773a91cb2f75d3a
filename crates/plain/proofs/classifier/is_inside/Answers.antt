-- `plain::classifier::is_inside` meets its contract. Assumes nothing.
use Rattle.std.proofs.Common.{refl}
use Rattle.detectors.specs.Pairs.{inside}
use Rattle.plain.proofs.classifier.is_inside.Goals as goal

pub returns : goal.returns
unfolding inside
returns c = refl
