-- `plain::errors::has_artifact` meets its contract. Assumes nothing.
use Rattle.correction.specs.Errors.{some_artifact, has_artifact}
use Rattle.plain.proofs.errors.has_artifact.Goals as goal

pub returns : goal.returns
unfolding some_artifact has_artifact
returns c = rw (c.some_across-across.ensures, c.some_side-sides.ensures)
