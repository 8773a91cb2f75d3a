-- `correction::sheet::correct_cells` meets its contract: the cells before the loop's are corrected, and counted. Assumes nothing.
use mathlib.Core.Path.{◌≡◌}
use mathlib.Core.List.{[]}
use Prim.Native.Nat.{◌≤◌}
use lib.ListN.{length}
use Rattle.correction.specs.Sheet.{sheet}
use Rattle.correction.proofs.sheet.Corrected.{Corrected}
use Rattle.correction.proofs.sheet.Summed.{Summed}
use Rattle.correction.proofs.sheet.correct_cells.Given as goal

abbrev pub invariant-loop-c : goal.invariant-loop-c
invariant-loop-c l =
    let s = sheet l.b.width l.b.height l.b.channels l.initial.xs l.initial.stencil [] l.cells l.modes l.settings l.outline.colours.now l.outline.coords.now l.outline.ends.now in
    Corrected s l.c l.stencil l.xs × Summed s l.c l.sum × (l.c ≤ length l.modes) × (length l.room ≡ length l.initial.room)
