-- `plain::linear::pair_artifact` meets its contract. Assumes nothing.
use Rattle.detectors.specs.Linear.{crossing, linear_at}
use Rattle.plain.proofs.linear.pair_artifact.Goals as goal

pub returns : goal.returns
unfolding crossing linear_at
returns c =
    let f = c.before in
    let m = f.before in
    let d = m.before in
    rw (c.is_inside.ensures, f.range_test-found.ensures, m.mixed_median-xm.ensures, d.f32_to_f64_with_nan-2.ensures, d.f32_to_f64_with_nan.ensures)
