-- `inputs::checks::bad_sample_count` meets its contract. Assumes nothing.
use mathlib.Core.Path.{refl}
use Rattle.inputs.specs.Checks.{bad_sample_count}
use Rattle.inputs.proofs.checks.bad_sample_count.Goals as goal

pub returns : goal.returns
unfolding bad_sample_count
returns c = refl
