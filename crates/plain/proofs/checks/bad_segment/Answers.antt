-- `plain::checks::bad_segment` meets its contract. Assumes nothing.
use Rattle.inputs.specs.Checks.{bad_segment}
use Rattle.plain.proofs.checks.bad_segment.Goals as goal

pub returns : goal.returns
unfolding bad_segment
returns c = rw (c.bad_coordinate-y.ensures, c.bad_coordinate-x.ensures)
