-- `correction::window::count_cells` meets its contract: the cells of the rows before the loop's are counted. Assumes nothing.
use Rattle.correction.proofs.window.Rows.{Counted}
use Rattle.correction.proofs.window.count_cells.Given as goal

abbrev pub invariant-loop-y : goal.invariant-loop-y
invariant-loop-y l = Counted l.b l.stencil l.y l.sum
