-- `correction::window::paint_row` meets its contract: the row is painted up to column x. Assumes nothing.
use Rattle.correction.specs.Inner.{RowPainted}
use Rattle.correction.proofs.window.paint_row.Given as goal

abbrev pub invariant-loop-x : goal.invariant-loop-x
invariant-loop-x g l = RowPainted (goal.F-post g l.paint) l.b l.y l.x l.initial.stencil l.stencil
