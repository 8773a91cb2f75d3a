-- `correction::cells::bad_runs` meets its contract. Assumes nothing.
use Rattle.std.proofs.Common.{rules, tests}
use Rattle.correction.specs.Sheet.{bad_runs}
use Rattle.correction.proofs.cells.bad_runs.Goals as goal

pub returns-then-bad_run-2 : goal.returns-then-bad_run-2
unfolding bad_runs
returns-then-bad_run-2 c = search (tests, rules)

pub returns-else-bad_run-2 : goal.returns-else-bad_run-2
unfolding bad_runs
returns-else-bad_run-2 c = search (tests, rules)
