-- `detectors::edge::edge_point` meets its contract. Assumes nothing.
use Rattle.detectors.specs.Edge.{edge_point}
use Rattle.detectors.proofs.edge.edge_point.Goals as goal

pub returns : goal.returns
unfolding edge_point
returns c = rw (c.f32_to_f64_with_nan-2.ensures, c.before.f32_to_f64_with_nan.ensures)
