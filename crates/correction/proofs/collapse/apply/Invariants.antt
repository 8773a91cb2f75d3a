-- `correction::collapse::apply` meets its contract: row by row. Assumes nothing.
use Prim.Native.Nat.{◌*◌}
use Rattle.inputs.specs.Window.{cut_cells}
use Rattle.correction.proofs.bitmap.Stretch.{Rowed}
use Rattle.correction.proofs.collapse.Turns.{flags, bare, Turning}
use Rattle.correction.proofs.collapse.apply.Given as goal

abbrev pub invariant-loop-y : goal.invariant-loop-y
invariant-loop-y l = Turning (flags (cut_cells l.b l.initial.stencil)) l.b l.initial.xs (l.y * l.b.width) l.xs × Rowed bare l.b l.initial.stencil l.y l.stencil
