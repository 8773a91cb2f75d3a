-- `plain::errors::some_across` meets its contract. Assumes nothing.
use Rattle.ranges.specs.Config.{diagonal_span}
use Rattle.plain.proofs.texels.Counted.{four_across}
use Rattle.plain.proofs.errors.some_across.Goals as goal

pub returns : goal.returns
unfolding diagonal_span
returns c =
    four_across _ _ _ _ _ c.args.t.now.of.sized.wide c.args.t.now.of.sized.high c.args.t.now.inside.0 c.args.t.now.inside.1 c.previous-left.ensures c.previous-below.ensures _ _ c.towards_across-lower_left.ensures c.towards_across-lower_right.ensures c.towards_across-upper_left.ensures c.towards_across-upper_right.ensures
