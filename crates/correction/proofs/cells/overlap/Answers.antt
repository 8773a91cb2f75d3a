-- `correction::cells::overlap` meets its contract. Assumes nothing.
use Rattle.std.proofs.Common.{rules, tests}
use Rattle.correction.specs.Sheet.{overlap}
use Rattle.correction.proofs.cells.overlap.Goals as goal

pub returns-then-a-b-2 : goal.returns-then-a-b-2
unfolding overlap
returns-then-a-b-2 c = search (tests, rules)

pub returns-else-a-b-2 : goal.returns-else-a-b-2
unfolding overlap
returns-else-a-b-2 c = search (tests, rules)
