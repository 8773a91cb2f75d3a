-- `correction::errors::step` meets its contract. Assumes nothing.
use mathlib.Core.Path.{refl, sym, subst}
use Prim.Native.Nat.{ℕ, ◌<◌}
use Rattle.correction.proofs.errors.Nearby.{next_inside}
use Rattle.correction.proofs.errors.step.Goals as goal

pub column-requires : goal.column-requires
column-requires c = record { stencilled = c.requires.stencilled; x_lt_width = (subst (λ (u : ℕ). u < c.args.b.width) (sym c.after-n.ensures) (next_inside _ _ c.requires.x_lt_width.0), c.requires.x_lt_width.1) }

pub returns : goal.returns
returns c = (refl, refl, rw c.after-n.ensures at c.column.ensures)
