-- `correction::orders::write_row` meets its contract: each cell of the row has its texel's order. Assumes nothing.
use mathlib.Core.Path.{◌≡◌}
use native.Mathlib.Omega.{arith}
use Rattle.std.proofs.Common.{rules, tests}
use Rattle.correction.specs.Inner.{row_orders}
use Rattle.correction.proofs.window.Painting.{painted_row}
use Rattle.correction.proofs.orders.Above.{above, order_made}
use Rattle.correction.proofs.orders.write_row.Goals as goal

pub returns-then-b-eq3 : goal.returns-then-b-eq3
unfolding row_orders
returns-then-b-eq3 c =
    let p = c.requires in
    painted_row _ _ _ _ (above c.args.b c.args.xs.now) p.stencilled.0 p.y_lt_height c.paint_row.ensures (λ x r l h. order_made _ _ p.sampled l p.y_lt_height c.if-b-eq3.true _ (search (rules, tests)))

pub returns-else-b-eq3 : goal.returns-else-b-eq3
unfolding row_orders
returns-else-b-eq3 c =
    let p = c.requires in
    let four : c.args.b.channels ≡ 4 = omega (arith, c.if-b-eq3.false, p.sampled.some, p.sampled.few) in
    painted_row _ _ _ _ (above c.args.b c.args.xs.now) p.stencilled.0 p.y_lt_height c.paint_row-else-b-eq3.ensures (λ x r l h. order_made _ _ p.sampled l p.y_lt_height four _ (search (rules, tests)))
