-- `plain::diagonal::turning_point` meets its contract. Assumes nothing.
use Rattle.detectors.specs.Diagonal.{turning_point}
use Rattle.plain.proofs.diagonal.turning_point.Goals as goal

pub returns : goal.returns
unfolding turning_point
returns c =
    let l = c.before in
    let k = l.curve_of-k.ensures in
    rw (c.f32_to_f64_with_nan-q.ensures, l.f32_to_f64_with_nan-l.ensures, k.1, k.2)
