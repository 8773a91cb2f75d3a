-- `detectors::edge::candidate` meets its contract. Assumes nothing.
use Rattle.detectors.proofs.edge.candidate.Goals as goal

pub returns : goal.returns
returns c = rw (← c.edge_point-t.ensures)
