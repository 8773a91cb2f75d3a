-- `correction::errors::column` meets its contract. Assumes nothing.
use mathlib.Core.Path.{◌≡◌, sym, subst}
use mathlib.Core.Bool.{Bool, true, false, cond, ◌&&◌}
use Prim.Native.Nat.{ℕ, ◌<◌}
use lib.Dec.{eqb}
use Rattle.correction.specs.Inner.{column_in}
use Rattle.correction.proofs.errors.Nearby.{next_inside, column_seen}
use Rattle.correction.proofs.errors.column.Goals as goal
use Rattle.correction.proofs.errors.column.Goals.{After-order_at-u}

pub order_at-u-requires : goal.order_at-u-requires
order_at-u-requires c = record { stencilled = c.requires.stencilled; x_lt_width = (c.requires.x_lt_width.0, subst (λ (v : ℕ). v < c.args.b.height) (sym c.after.ensures) (next_inside _ _ c.requires.x_lt_width.1)) }

-- what was read, as the order of the column
seen : (c : After-order_at-u) (t : Bool) → (eqb c.order_at-d.result c.order_at-o.result && eqb c.order_at-u.result c.order_at-o.result) ≡ t
    → let a = c.args in cond t c.order_at-o.result 0 ≡ column_in a.b a.stencil.now a.x a.y
seen c t e =
    let a = c.args in
    column_seen a.b a.stencil.now _ _ _ _ c.order_at-o.ensures c.before-2.ensures c.order_at-d.ensures c.after.ensures c.order_at-u.ensures t e

pub returns-then-d-o : goal.returns-then-d-o
returns-then-d-o c = seen (goal.at.returns-then-d-o c).After-order_at-u true c.if-d-o.true

pub returns-else-d-o : goal.returns-else-d-o
returns-else-d-o c = seen (goal.at.returns-else-d-o c).After-order_at-u false c.if-d-o.false
