-- `inputs::stencil::has_corner` meets its contract. Assumes nothing.
use mathlib.Core.Path.{refl}
use Rattle.inputs.specs.Stencil.{has_corner}
use Rattle.inputs.proofs.stencil.has_corner.Goals as goal

pub returns : goal.returns
unfolding has_corner
returns c = refl
