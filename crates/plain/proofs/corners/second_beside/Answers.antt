-- `plain::corners::second_beside` meets its contract. Assumes nothing.
use Rattle.plain.proofs.corners.Columns.{second_far, second_near, second_in, second_out}
use Rattle.plain.proofs.corners.second_beside.Goals as goal

pub returns-then-l-ltminus1 : goal.returns-then-l-ltminus1
returns-then-l-ltminus1 c = second_far _ c.ranges.l _ c.if-l-ltminus1.true

pub returns-then-l-lt0 : goal.returns-then-l-lt0
returns-then-l-lt0 c = second_near _ c.ranges.l _ c.if-l-ltminus1.false c.if-l-lt0.true

pub returns-then-k-n : goal.returns-then-k-n
returns-then-k-n c = second_in _ c.ranges.l _ c.if-l-lt0.false c.if-k-n.true

pub returns-else-k-n : goal.returns-else-k-n
returns-else-k-n c = second_out _ c.ranges.l _ c.if-l-lt0.false c.if-k-n.false
