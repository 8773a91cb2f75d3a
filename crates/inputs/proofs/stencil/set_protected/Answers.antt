-- `inputs::stencil::set_protected` meets its contract: a byte whose bit is not set is small enough. Assumes nothing.
use mathlib.Core.Path.{sym, ◌∙◌}
use Prim.Native.Nat.{◌/◌, ◌%◌}
use native.Mathlib.Omega.{arith}
use borrow.Author.Tests.{eqb-false}
use Rattle.inputs.specs.Stencil.{is_protected, set_protected}
use Rattle.inputs.proofs.stencil.set_protected.Goals as goal

pub with_bit-requires : goal.with_bit-requires
unfolding is_protected
with_bit-requires c = λ f. let n = eqb-false (c.before.args.v / 2 % 2) 1 (sym c.is_protected.ensures ∙ f) in omega (arith, n)

pub returns : goal.returns
unfolding set_protected
returns c = c.with_bit.ensures ∙ rw c.before.is_protected.ensures
