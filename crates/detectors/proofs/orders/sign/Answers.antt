-- `detectors::orders::sign` meets its contract. Assumes nothing.
use Rattle.std.proofs.Common.{arith}
use Rattle.detectors.specs.Orders.{sign}
use Rattle.detectors.proofs.orders.sign.Goals as goal

pub returns-then-d : goal.returns-then-d
unfolding sign
returns-then-d c = (simp c.if-d.true, omega arith)

pub returns-else-d : goal.returns-else-d
unfolding sign
returns-else-d c = (simp c.if-d.false, omega arith)
