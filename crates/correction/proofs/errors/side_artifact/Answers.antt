-- `correction::errors::side_artifact` meets its contract. Assumes nothing.
use Rattle.correction.proofs.errors.side_artifact.Goals as goal

pub returns : goal.returns
returns c = rw c.samples_at.ensures at c.has_linear_artifact.ensures
