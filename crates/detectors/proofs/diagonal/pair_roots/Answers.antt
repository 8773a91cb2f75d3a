-- `detectors::diagonal::pair_roots` meets its contract: a widened number is the number. Assumes nothing.
use Rattle.detectors.specs.Discriminant.{normal_quadratic_roots}
use Rattle.detectors.proofs.diagonal.pair_roots.Goals as goal

pub returns : goal.returns
unfolding normal_quadratic_roots
returns c =
    let b = c.before.before in
    rw (c.before.f32_to_f64_with_nan-c.ensures, b.f32_to_f64_with_nan-b.ensures, b.before.f32_to_f64_with_nan-a.ensures) at c.solve_normal_quadratic.ensures
