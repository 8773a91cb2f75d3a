-- `numbers::equation_solver::two_roots` meets its contract. Assumes nothing.
use Rattle.std.proofs.Common.{refl}
use Rattle.numbers.specs.EquationSolver.{upper_root, lower_root}
use Rattle.numbers.proofs.equation_solver.two_roots.Goals as goal

pub returns : goal.returns
unfolding upper_root lower_root
returns c = refl
