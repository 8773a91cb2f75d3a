-- `plain::linear::median` meets its contract. Assumes nothing.
use Rattle.detectors.specs.Texel.{texel_middle}
use Rattle.plain.proofs.linear.median.Goals as goal

pub returns : goal.returns
unfolding texel_middle
returns c = c.median_value.ensures
