-- `plain::checks::bad_end` meets its contract. Assumes nothing.
use Rattle.inputs.specs.Checks.{bad_end}
use Rattle.plain.proofs.checks.bad_end.Goals as goal

pub returns : goal.returns
unfolding bad_end
returns c = rw c.end_before.ensures
