-- `plain::linear::mixed_median` meets its contract. Assumes nothing.
use Rattle.detectors.specs.Pairs.{mixed_channel, mixed_median}
use Rattle.plain.proofs.linear.mixed_median.Goals as goal

pub returns : goal.returns
unfolding mixed_channel mixed_median
returns c = cc
