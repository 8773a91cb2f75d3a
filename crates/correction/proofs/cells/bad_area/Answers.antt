-- `correction::cells::bad_area` meets its contract. Assumes nothing.
use Rattle.std.proofs.Common.{rules, tests}
use Rattle.correction.specs.Sheet.{bad_area}
use Rattle.correction.proofs.cells.bad_area.Goals as goal

pub returns-then-beyond : goal.returns-then-beyond
unfolding bad_area
returns-then-beyond c = search (tests, rules)

pub returns-else-beyond : goal.returns-else-beyond
unfolding bad_area
returns-else-beyond c = search (tests, rules)
