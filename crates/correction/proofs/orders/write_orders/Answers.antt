-- `correction::orders::write_orders` meets its contract: row by row, and the rows to come are as they were. Assumes nothing.
use mathlib.Core.Path.{sym, subst}
use Prim.Native.Nat.{ℕ, ◌<◌}
use native.Mathlib.Omega.{arith}
use Rattle.inputs.proofs.Laws.Windows.{still_stencilled}
use Rattle.correction.specs.Inner.{row_orders, with_orders}
use Rattle.correction.proofs.bitmap.Stretch.{rows_none, rows_next, rows_all, upto_long, upto_at}
use Rattle.correction.proofs.orders.Above.{above}
use Rattle.correction.proofs.orders.write_orders.Goals as goal

pub loop-y-init : goal.loop-y-init
loop-y-init c =
    let a = c.args in
    rows_none (above a.b a.xs.now) _ _

pub write_row-requires : goal.write_row-requires
write_row-requires c =
    let p = c.requires in
    let i = c.loop-y.invariant in record { sampled = p.sampled; stencilled = (still_stencilled _ p.stencilled.0 _ (upto_long _ _ _ i), λ x m. subst (λ (v : ℕ). v < 8) (sym (upto_at _ _ _ i x _ m c.loop-y-test.true (omega arith))) (p.stencilled.1 x _ m c.loop-y-test.true)); y_lt_height = c.loop-y-test.true }

pub loop-y-preserved : goal.loop-y-preserved
unfolding row_orders
loop-y-preserved c =
    rows_next (above c.args.b c.args.xs.now) _ _ c.loop-y.invariant c.requires.stencilled.0 c.loop-y-test.true c.write_row.ensures

pub returns : goal.returns
unfolding with_orders
returns c =
    let a = c.args in
    rows_all (above a.b a.xs.now) _ _ c.loop-y.invariant c.loop-y-test.false

pub shape_of-stencil : goal.shape_of-stencil
shape_of-stencil c = upto_long _ _ _ c.loop-y.invariant
