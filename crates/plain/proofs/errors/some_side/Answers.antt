-- `plain::errors::some_side` meets its contract. Assumes nothing.
use Rattle.ranges.specs.Config.{side_span}
use Rattle.plain.proofs.texels.Counted.{four_sides}
use Rattle.plain.proofs.errors.some_side.Goals as goal

pub returns : goal.returns
unfolding side_span
returns c =
    four_sides _ _ _ _ _ c.args.t.now.of.sized.wide c.args.t.now.of.sized.high c.args.t.now.inside.0 c.args.t.now.inside.1 c.previous.ensures c.previous-2.ensures _ _ _ c.towards_side-left.ensures c.towards_side-below.ensures c.towards_side-right.ensures c.towards_side-above.ensures
