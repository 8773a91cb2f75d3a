-- `detectors::texel::guard` meets its contract. Assumes nothing.
use Rattle.detectors.specs.Pairs.{guard}
use Rattle.detectors.proofs.texel.guard.Goals as goal

pub returns : goal.returns
unfolding guard
returns c = cc
