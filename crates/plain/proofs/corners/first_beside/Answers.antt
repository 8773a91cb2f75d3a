-- `plain::corners::first_beside` meets its contract. Assumes nothing.
use Rattle.plain.proofs.corners.Columns.{first_left, first_in, first_out}
use Rattle.plain.proofs.corners.first_beside.Goals as goal

pub returns-then-l-lt0 : goal.returns-then-l-lt0
returns-then-l-lt0 c = first_left _ c.ranges.l _ c.if-l-lt0.true

pub returns-then-k-n : goal.returns-then-k-n
returns-then-k-n c = first_in _ c.ranges.l _ c.if-l-lt0.false c.if-k-n.true

pub returns-else-k-n : goal.returns-else-k-n
returns-else-k-n c = first_out _ c.ranges.l _ c.if-k-n.false
