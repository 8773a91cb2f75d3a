-- `correction::collapse::collapse_row` meets its contract: the texels of the row are collapsed up to column x. Assumes nothing.
use Rattle.inputs.specs.Window.{cut_cells}
use Rattle.correction.specs.Bitmap.{cell}
use Rattle.correction.proofs.collapse.Turns.{flags, in_row, Turning}
use Rattle.correction.proofs.collapse.collapse_row.Given as goal

abbrev pub invariant-loop-x : goal.invariant-loop-x
invariant-loop-x l = Turning (in_row l.b.width l.y (flags (cut_cells l.b l.stencil))) l.b l.initial.xs (cell l.b.width l.x l.y) l.xs
