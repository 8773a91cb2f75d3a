-- `numbers::equation_solver::discriminant` meets its contract. Assumes nothing.
use Rattle.std.proofs.Common.{refl}
use Rattle.numbers.specs.EquationSolver.{discriminant}
use Rattle.numbers.proofs.equation_solver.discriminant.Goals as goal

pub returns : goal.returns
unfolding discriminant
returns c = refl
