-- `plain::checks::bad_length` meets its contract. Assumes nothing.
use Rattle.std.proofs.Common.{refl}
use Rattle.inputs.specs.Checks.{bad_length}
use Rattle.plain.proofs.checks.bad_length.Goals as goal

pub returns : goal.returns
unfolding bad_length
returns c = refl
