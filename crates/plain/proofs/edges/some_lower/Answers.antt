-- `plain::edges::some_lower` meets its contract. Assumes nothing.
use Rattle.std.proofs.Common.{refl}
use Rattle.plain.proofs.texels.Counted.{four_lower}
use Rattle.plain.proofs.edges.some_lower.Goals as goal

pub returns : goal.returns
returns c =
    four_lower _ _ _ _ _ c.args.t.now.of.sized.wide c.args.t.now.of.sized.high c.args.t.now.inside.0 c.args.t.now.inside.1 c.previous.ensures refl _ _ _
    (rw c.radius.ensures at c.in_pair-right.ensures) (rw c.radius-2.ensures at c.in_pair-upper.ensures) (rw c.radius-across.ensures at c.in_pair-upper_right.ensures) (rw c.radius-across.ensures at c.in_pair-upper_left.ensures)
