-- `detectors::diagonal::linear_term` meets its contract. Assumes nothing.
use Rattle.detectors.specs.Diagonal.{linear_term}
use Rattle.detectors.proofs.diagonal.linear_term.Goals as goal

pub returns : goal.returns
unfolding linear_term
returns c = rw c.abc.ensures
