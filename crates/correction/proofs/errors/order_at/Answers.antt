-- `correction::errors::order_at` meets its contract. Assumes nothing.
use mathlib.Core.Path.{sym, subst}
use Prim.Native.Nat.{ℕ, ◌<◌}
use lib.ListN.{length}
use Rattle.correction.proofs.errors.order_at.Goals as goal

pub bounds-stencil-k : goal.bounds-stencil-k
bounds-stencil-k c =
    subst (λ (k : ℕ). k < length c.args.stencil.now) (sym c.cell-k.ensures) (c.requires.stencilled.held _ _ c.requires.x_lt_width.0 c.requires.x_lt_width.1)

pub returns : goal.returns
returns c = rw c.cell-k.ensures
