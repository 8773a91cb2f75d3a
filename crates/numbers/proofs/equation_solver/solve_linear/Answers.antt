-- `numbers::equation_solver::solve_linear` meets its contract. Assumes nothing.
use Rattle.std.proofs.Common.{sym}
use Rattle.numbers.proofs.Laws.EquationSolver.{linear_none, linear_one}
use Rattle.numbers.proofs.equation_solver.solve_linear.Goals as goal

pub returns-then-b : goal.returns-then-b
returns-then-b c = sym (linear_none c.args.b c.args.c c.if-b.true)

pub returns : goal.returns
returns c = sym (linear_one c.args.b c.args.c c.if-b.false)
