-- `plain::checks::bad_size` meets its contract. Assumes nothing.
use Rattle.std.proofs.Common.{refl}
use Rattle.inputs.specs.Checks.{bad_side, bad_size}
use Rattle.plain.proofs.checks.bad_size.Goals as goal

pub returns : goal.returns
unfolding bad_side bad_size
returns c = refl
