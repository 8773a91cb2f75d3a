-- `correction::orders::write_orders` meets its contract: row by row, and the rows to come are as they were. Assumes nothing.
use Rattle.correction.proofs.bitmap.Stretch.{Rowed}
use Rattle.correction.proofs.orders.Above.{above}
use Rattle.correction.proofs.orders.write_orders.Given as goal

abbrev pub invariant-loop-y : goal.invariant-loop-y
invariant-loop-y l = Rowed (above l.b l.xs) l.b l.initial.stencil l.y l.stencil
