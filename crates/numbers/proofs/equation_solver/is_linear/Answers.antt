-- `numbers::equation_solver::is_linear` meets its contract. Assumes nothing.
use Rattle.std.proofs.Common.{refl}
use lib.Ieee.{binary64, lt, mul}
use Rattle.ground.proofs.Laws.Bools.{or_taken, or_left}
use Rattle.numbers.specs.Constants.{dominance}
use Rattle.numbers.specs.EquationSolver.{is_linear}
use Rattle.numbers.proofs.equation_solver.is_linear.Goals as goal

pub returns-then-a : goal.returns-then-a
unfolding is_linear
returns-then-a c = or_taken _ refl c.if-a.true

pub returns-else-a : goal.returns-else-a
unfolding is_linear
returns-else-a c = or_left refl c.before.before.if-a.false (λ i. lt (mul binary64 dominance (c.abs64-else-a.ensures i)) (c.before.abs64.ensures i))
