-- `detectors::diagonal::has_guarded_artifact` meets its contract. Assumes nothing.
use Rattle.detectors.proofs.diagonal.has_guarded_artifact.Goals as goal

pub returns : goal.returns
returns c = rw c.before.before.diagonal_span.ensures at c.some_pair.ensures
