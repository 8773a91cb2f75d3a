-- `correction::cells::overlaps_earlier` meets its contract: no cell before the loop's overlaps the cell. Assumes nothing.
use Rattle.ground.proofs.Laws.Search.{Searched}
use Rattle.correction.specs.Sheet.{area_at, overlap}
use Rattle.correction.proofs.cells.overlaps_earlier.Given as goal

abbrev pub invariant-loop-d : goal.invariant-loop-d
invariant-loop-d l = Searched (λ d. overlap (area_at l.cells d) (area_at l.cells l.c)) l.c l.d
