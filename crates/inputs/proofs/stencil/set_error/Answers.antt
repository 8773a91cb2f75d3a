-- `inputs::stencil::set_error` meets its contract: a byte whose bit is not set is small enough. Assumes nothing.
use mathlib.Core.Path.{sym, ◌∙◌}
use Prim.Native.Nat.{◌%◌}
use native.Mathlib.Omega.{arith}
use borrow.Author.Tests.{eqb-false}
use Rattle.inputs.specs.Stencil.{is_error, set_error}
use Rattle.inputs.proofs.stencil.set_error.Goals as goal

pub with_bit-requires : goal.with_bit-requires
unfolding is_error
with_bit-requires c = λ f. let n = eqb-false (c.before.args.v % 2) 1 (sym c.is_error.ensures ∙ f) in omega (arith, n)

pub returns : goal.returns
unfolding set_error
returns c = c.with_bit.ensures ∙ rw c.before.is_error.ensures
