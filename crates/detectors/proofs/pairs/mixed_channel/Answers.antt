-- `detectors::pairs::mixed_channel` meets its contract. Assumes nothing.
use Rattle.detectors.specs.Pairs.{mixed_channel}
use Rattle.detectors.proofs.pairs.mixed_channel.Goals as goal

pub returns : goal.returns
unfolding mixed_channel
returns c = c.mix.ensures
