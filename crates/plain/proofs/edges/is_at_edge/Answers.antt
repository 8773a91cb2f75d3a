-- `plain::edges::is_at_edge` meets its contract. Assumes nothing.
use Rattle.correction.specs.Edges.{some_edge, edges_protect}
use Rattle.plain.proofs.edges.is_at_edge.Goals as goal

pub returns : goal.returns
unfolding some_edge edges_protect
returns c = rw (c.some_upper-upper.ensures, c.some_lower-lower.ensures)
