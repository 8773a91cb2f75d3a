-- `detectors::diagonal::difference_in` meets its contract. Assumes nothing.
use Rattle.detectors.specs.Pairs.{difference}
use Rattle.detectors.proofs.diagonal.difference_in.Goals as goal

pub returns : goal.returns
unfolding difference
returns c = rw c.before.before.next-j.ensures.0
