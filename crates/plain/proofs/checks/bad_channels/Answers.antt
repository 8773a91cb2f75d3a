-- `plain::checks::bad_channels` meets its contract. Assumes nothing.
use Rattle.std.proofs.Common.{refl}
use Rattle.inputs.specs.Checks.{bad_channels}
use Rattle.plain.proofs.checks.bad_channels.Goals as goal

pub returns : goal.returns
unfolding bad_channels
returns c = refl
