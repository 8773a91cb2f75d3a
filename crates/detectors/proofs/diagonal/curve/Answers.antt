-- `detectors::diagonal::curve` meets its contract. Assumes nothing.
use Rattle.detectors.specs.Diagonal.{curve}
use Rattle.detectors.proofs.diagonal.curve.Goals as goal

pub returns : goal.returns
unfolding curve
returns c = cc
