-- `plain::collapse::is_flagged` meets its contract. Assumes nothing.
use Rattle.std.proofs.Common.{refl}
use Rattle.inputs.specs.Stencil.{is_error}
use Rattle.plain.proofs.collapse.is_flagged.Goals as goal

pub returns : goal.returns
unfolding is_error
returns c = refl
