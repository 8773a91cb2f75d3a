-- `plain::checks::bad_sample` meets its contract. Assumes nothing.
use Rattle.std.proofs.Common.{refl}
use Rattle.inputs.specs.Checks.{oversize}
use Rattle.plain.proofs.checks.bad_sample.Goals as goal

pub returns : goal.returns
unfolding oversize
returns c = refl
