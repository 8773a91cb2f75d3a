-- `detectors::diagonal::abc` meets its contract. Assumes nothing.
use Rattle.std.proofs.Common.{refl}
use Rattle.detectors.specs.Diagonal.{abc}
use Rattle.detectors.proofs.diagonal.abc.Goals as goal

pub returns : goal.returns
unfolding abc
returns c = refl
