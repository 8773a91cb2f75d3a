-- `correction::edges::protect_row` meets its contract: the row is given up to column x. Assumes nothing.
use Prim.Native.Nat.{◌≤◌}
use Rattle.inputs.specs.Window.{cut_samples}
use Rattle.correction.proofs.bitmap.Stretch.{Stretched}
use Rattle.correction.proofs.edges.Byte.{byte}
use Rattle.correction.proofs.edges.protect_row.Given as goal

abbrev pub invariant-loop-x : goal.invariant-loop-x
invariant-loop-x l = (l.x ≤ l.b.width) × Stretched (byte (cut_samples l.b l.xs) l.b l.r) l.b l.initial.stencil l.y l.x l.stencil
