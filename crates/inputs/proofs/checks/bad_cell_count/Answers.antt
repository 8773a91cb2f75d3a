-- `inputs::checks::bad_cell_count` meets its contract. Assumes nothing.
use mathlib.Core.Path.{refl}
use Rattle.inputs.specs.Checks.{bad_cell_count}
use Rattle.inputs.proofs.checks.bad_cell_count.Goals as goal

pub returns : goal.returns
unfolding bad_cell_count
returns c = refl
