-- `correction::corners::mark_around` meets its contract. Assumes nothing.
use native.Mathlib.Nat.{le_trans}
use Rattle.correction.proofs.corners.Around.{next_fits, marked_around}
use Rattle.correction.proofs.corners.Strokes.{stroke_still}
use Rattle.correction.proofs.corners.mark_around.Goals as goal
use Rattle.correction.proofs.corners.mark_around.Goals.{After-mark-arg-2-1, After-mark-arg-3-1}

-- what each mark leaves has its cells still
pub mark-requires-2 : goal.mark-requires-2
mark-requires-2 c =
    stroke_still _ _ _ c.requires c.mark.ensures

pub mark-requires-3 : goal.mark-requires-3
mark-requires-3 c =
    stroke_still _ _ _ (mark-requires-2 (goal.at.mark-requires-3 c).After-mark-arg-2-1) c.mark-2.ensures

pub mark-requires-4 : goal.mark-requires-4
mark-requires-4 c =
    stroke_still _ _ _ (mark-requires-3 (goal.at.mark-requires-4 c).After-mark-arg-3-1) c.mark-3.ensures

pub returns : goal.returns
returns c =
    marked_around _ _ _ _ _ c.requires.fits.any c.lower-left.ensures c.lower-bottom.ensures
    c.mark.ensures c.mark-2.ensures c.mark-3.ensures c.mark-4.ensures

pub overflow_add-right : goal.overflow_add-right
overflow_add-right c = next_fits _ c.lower-left.ensures (let f = c.requires.fits in le_trans f.wide f.broad)

pub overflow_add-top : goal.overflow_add-top
overflow_add-top c = next_fits _ c.lower-bottom.ensures c.requires.fits.high
