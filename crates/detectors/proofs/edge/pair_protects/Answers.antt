-- `detectors::edge::pair_protects` meets its contract. Assumes nothing.
use Rattle.ground.proofs.Laws.Bools.{and_taken, and_left}
use Rattle.detectors.specs.Edge.{pair_protects}
use Rattle.detectors.proofs.edge.pair_protects.Goals as goal

pub returns-then-near : goal.returns-then-near
unfolding pair_protects
returns-then-near c = and_taken c.before.before.near.ensures c.before.if-near.true c.edge_between_texels.ensures

pub returns-else-near : goal.returns-else-near
unfolding pair_protects
returns-else-near c = and_left _ c.before.near.ensures c.if-near.false
