-- `inputs::stencil::set_both` meets its contract. Assumes nothing.
use mathlib.Core.Path.{◌∙◌, ap}
use Rattle.inputs.specs.Stencil.{set_corner}
use Rattle.inputs.proofs.stencil.set_both.Goals as goal

pub returns : goal.returns
returns c = c.set_corner.ensures ∙ ap set_corner c.before.set_protected-u.ensures
