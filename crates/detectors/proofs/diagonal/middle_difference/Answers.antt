-- `detectors::diagonal::middle_difference` meets its contract. Assumes nothing.
use Rattle.detectors.specs.Diagonal.{middle_difference}
use Rattle.detectors.proofs.diagonal.middle_difference.Goals as goal

pub returns : goal.returns
unfolding middle_difference
returns c = rw c.before.before.before.before.next-j.ensures.0
