-- `plain::checks::bad_coordinate` meets its contract. Assumes nothing.
use Rattle.std.proofs.Common.{refl}
use Rattle.inputs.specs.Checks.{oversize}
use Rattle.plain.proofs.checks.bad_coordinate.Goals as goal

pub returns : goal.returns
unfolding oversize
returns c = refl
