-- `detectors::edge::near` meets its contract. Assumes nothing.
use Rattle.detectors.specs.Edge.{near}
use Rattle.detectors.proofs.edge.near.Goals as goal

pub returns : goal.returns
unfolding near
returns c = rw (c.away-2.ensures, c.before.away.ensures)
