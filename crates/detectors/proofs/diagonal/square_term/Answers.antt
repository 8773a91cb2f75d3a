-- `detectors::diagonal::square_term` meets its contract. Assumes nothing.
use Rattle.detectors.specs.Diagonal.{square_term}
use Rattle.detectors.proofs.diagonal.square_term.Goals as goal

pub returns : goal.returns
unfolding square_term
returns c = rw c.abc.ensures
