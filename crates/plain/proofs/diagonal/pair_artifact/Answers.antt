-- `plain::diagonal::pair_artifact` meets its contract: both roots are tried, and one that is not there is not inside. Assumes nothing.
use Rattle.numbers.proofs.Laws.EquationSolver.{listed_own}
use Rattle.detectors.specs.Pairs.{difference}
use Rattle.detectors.specs.Diagonal.{middle_difference, quadratic_roots, pair_roots, root_tests, diagonal_at}
use Rattle.plain.proofs.diagonal.Chosen.{of_pair}
use Rattle.plain.proofs.diagonal.pair_artifact.Goals as goal

pub returns : goal.returns
unfolding pair_roots quadratic_roots middle_difference difference root_tests diagonal_at
returns c =
    let n = c.requires.2 in
    of_pair _ _ _ _ _ _ (listed_own _ _ (rw (c.f32_to_f64_with_nan-c.ensures, c.f32_to_f64_with_nan-b.ensures, c.f32_to_f64_with_nan-a.ensures, n) at c.solve_quadratic.ensures))
    (rw (c.or_zero.ensures, c.turning_point-e.ensures, c.turning_point-f.ensures, n) at c.root_artifact-first.ensures) (rw (c.or_zero.ensures, c.turning_point-e.ensures, c.turning_point-f.ensures, n) at c.root_artifact-second.ensures)
