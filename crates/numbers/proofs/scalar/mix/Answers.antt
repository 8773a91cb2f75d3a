-- `numbers::scalar::mix` meets its contract: what its three calls ensure, put together. Assumes nothing.
use Rattle.numbers.specs.Scalar.{mix_of}
use Rattle.numbers.proofs.scalar.mix.Goals as goal

pub returns : goal.returns
unfolding mix_of
returns c = cc
