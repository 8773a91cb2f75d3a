-- `correction::sheet::check_cells` meets its contract: the cells before the loop's pass their checks. Assumes nothing.
use mathlib.Core.List.{[]}
use Rattle.correction.specs.Sheet.{sheet}
use Rattle.correction.proofs.sheet.Contents.{Passing}
use Rattle.correction.proofs.sheet.check_cells.Given as goal

abbrev pub invariant-loop-c : goal.invariant-loop-c
invariant-loop-c l = Passing (sheet l.b.width l.b.height l.b.channels l.xs [] [] l.cells l.modes l.settings l.outline.colours.now l.outline.coords.now l.outline.ends.now) l.c
