-- `detectors::orders::order_code` meets its contract. Assumes nothing.
use Rattle.std.proofs.Common.{sym, arith}
use Rattle.detectors.specs.Orders.{order_code}
use Rattle.detectors.proofs.orders.order_code.Goals as goal

pub returns-then-ordered : goal.returns-then-ordered
unfolding order_code
returns-then-ordered c =
    let d2 = c.before in
    let s1 = d2.before in
    let d1 = s1.before in
    let s0 = d1.before in
    let d0 = s0.before in
    let o = d0.before in (
      rw (sym o.before.ordered.ensures, o.if-ordered.true, s0.sign.ensures.0, d0.difference.ensures, s1.sign-then-ordered.ensures.0, d1.difference-then-ordered.ensures, c.sign-then-ordered-2.ensures.0, d2.difference-then-ordered-2.ensures),
      omega (arith, s0.sign.ensures.1, s1.sign-then-ordered.ensures.1, c.sign-then-ordered-2.ensures.1),
    )

pub returns-else-ordered : goal.returns-else-ordered
unfolding order_code
returns-else-ordered c = (rw (sym c.before.ordered.ensures, c.if-ordered.false), omega arith)
