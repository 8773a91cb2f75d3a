-- `detectors::pairs::difference` meets its contract. Assumes nothing.
use Rattle.detectors.specs.Pairs.{difference}
use Rattle.detectors.proofs.pairs.difference.Goals as goal

pub returns : goal.returns
unfolding difference
returns c = rw c.next-j.ensures.0
