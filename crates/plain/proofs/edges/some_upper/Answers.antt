-- `plain::edges::some_upper` meets its contract. Assumes nothing.
use Rattle.plain.proofs.texels.Counted.{four_upper}
use Rattle.plain.proofs.edges.some_upper.Goals as goal

pub returns : goal.returns
returns c =
    four_upper _ _ _ _ _ c.args.t.now.of.sized.wide c.args.t.now.of.sized.high c.args.t.now.inside.0 c.args.t.now.inside.1 c.previous-left.ensures c.previous-below.ensures _ _ _
    (rw c.radius.ensures at c.in_pair-side.ensures) (rw c.radius-2.ensures at c.in_pair-lower.ensures) (rw c.radius-across.ensures at c.in_pair-lower_left.ensures) (rw c.radius-across.ensures at c.in_pair-lower_right.ensures)
