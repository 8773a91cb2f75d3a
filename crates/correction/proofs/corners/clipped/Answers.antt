-- `correction::corners::clipped` meets its contract. Assumes nothing.
use Rattle.correction.proofs.corners.Clips.{at_far, at_near, cast, at_in, at_out}
use Rattle.correction.proofs.corners.clipped.Goals as goal

pub overflow_cast-k : goal.overflow_cast-k
overflow_cast-k c = cast _ c.ranges.l c.if-l-lt0.false

pub returns-then-k-n : goal.returns-then-k-n
returns-then-k-n c = at_in _ c.ranges.l _ c.if-l-lt0.false c.if-k-n.true

pub returns-else-k-n : goal.returns-else-k-n
returns-else-k-n c = at_out _ c.ranges.l _ c.if-l-lt0.false c.if-k-n.false

pub returns-then-l-ltminus1 : goal.returns-then-l-ltminus1
returns-then-l-ltminus1 c = at_far _ c.ranges.l _ c.if-l-ltminus1.true

pub returns-then-l-lt0 : goal.returns-then-l-lt0
returns-then-l-lt0 c = at_near _ c.ranges.l _ c.if-l-ltminus1.false c.if-l-lt0.true
