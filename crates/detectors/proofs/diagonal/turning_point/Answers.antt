-- `detectors::diagonal::turning_point` meets its contract. Assumes nothing.
use Rattle.detectors.specs.Diagonal.{turning_point}
use Rattle.detectors.proofs.diagonal.turning_point.Goals as goal

pub returns : goal.returns
unfolding turning_point
returns c =
    let l = c.before.before in
    rw (c.f32_to_f64_with_nan-q.ensures, c.before.square_term.ensures, l.f32_to_f64_with_nan-l.ensures, l.before.linear_term.ensures)
