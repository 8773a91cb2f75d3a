-- `inputs::stencil::is_error` meets its contract. Assumes nothing.
use native.Mathlib.Nat.{div-one}
use Rattle.inputs.specs.Stencil.{is_error}
use Rattle.inputs.proofs.stencil.is_error.Goals as goal

pub returns : goal.returns
unfolding is_error
returns c = rw div-one
