-- `detectors::linear::crossing` meets its contract: a widened number is the number. Assumes nothing.
use Rattle.detectors.specs.Linear.{crossing}
use Rattle.detectors.proofs.linear.crossing.Goals as goal

pub returns : goal.returns
unfolding crossing
returns c = cc
