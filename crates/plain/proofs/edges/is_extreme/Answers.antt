-- `plain::edges::is_extreme` meets its contract. Assumes nothing.
use Rattle.detectors.specs.Pairs.{mixed_channel}
use Rattle.detectors.specs.Edge.{edge_point, edge_at, masked, extreme}
use Rattle.plain.proofs.edges.is_extreme.Goals as goal

pub returns : goal.returns
unfolding mixed_channel edge_point edge_at masked extreme
returns c =
    let m = c.before in
    let d = m.before in
    rw (c.mix.ensures, m.mixed_median.ensures, d.f32_to_f64_with_nan.ensures, d.f32_to_f64_with_nan-n.ensures)
