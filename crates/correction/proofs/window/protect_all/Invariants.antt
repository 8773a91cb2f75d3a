-- `correction::window::protect_all` meets its contract: row by row. Assumes nothing.
use Rattle.correction.proofs.bitmap.Stretch.{Rowed}
use Rattle.correction.proofs.window.Rows.{alone}
use Rattle.correction.proofs.window.protect_all.Given as goal

abbrev pub invariant-loop-y : goal.invariant-loop-y
invariant-loop-y l = Rowed alone l.b l.initial.stencil l.y l.stencil
