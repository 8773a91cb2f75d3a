-- `numbers::equation_solver::is_positive` meets its contract. Assumes nothing.
use Rattle.std.proofs.Common.{refl}
use Rattle.numbers.proofs.equation_solver.is_positive.Goals as goal

pub returns : goal.returns
returns c = refl
