-- `correction::corners::protect_corner` meets its contract. Assumes nothing.
use Rattle.correction.proofs.corners.Contours.{hit, miss}
use Rattle.correction.proofs.corners.protect_corner.Goals as goal

pub returns-then-is_corner : goal.returns-then-is_corner
returns-then-is_corner c =
    hit _ _ _ _ _ _ _ _ c.previous-j.ensures.0 c.is_corner.ensures c.if-is_corner.true c.mark_around.ensures

pub returns-else-is_corner : goal.returns-else-is_corner
returns-else-is_corner c = miss _ _ _ _ _ _ _ _ c.previous-j.ensures.0 c.is_corner.ensures c.if-is_corner.false _
