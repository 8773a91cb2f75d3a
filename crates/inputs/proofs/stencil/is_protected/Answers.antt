-- `inputs::stencil::is_protected` meets its contract. Assumes nothing.
use mathlib.Core.Path.{refl}
use Rattle.inputs.specs.Stencil.{is_protected}
use Rattle.inputs.proofs.stencil.is_protected.Goals as goal

pub returns : goal.returns
unfolding is_protected
returns c = refl
