-- `inputs::stencil::set_corner` meets its contract: a byte whose bit is not set is small enough. Assumes nothing.
use mathlib.Core.Path.{sym, ◌∙◌}
use Prim.Native.Nat.{◌/◌, ◌%◌}
use native.Mathlib.Omega.{arith}
use borrow.Author.Tests.{eqb-false}
use Rattle.inputs.specs.Stencil.{has_corner, set_corner}
use Rattle.inputs.proofs.stencil.set_corner.Goals as goal

pub with_bit-requires : goal.with_bit-requires
unfolding has_corner
with_bit-requires c = λ f. let n = eqb-false (c.before.args.v / 4 % 2) 1 (sym c.has_corner.ensures ∙ f) in omega (arith, n)

pub returns : goal.returns
unfolding set_corner
returns c = c.with_bit.ensures ∙ rw c.before.has_corner.ensures
