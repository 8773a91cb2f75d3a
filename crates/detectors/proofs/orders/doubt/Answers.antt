-- `detectors::orders::doubt` meets its contract. Assumes nothing.
use Rattle.std.proofs.Common.{◌≡◌, ℕ, ◌≤◌, Bool, true, false, ◌&&◌, ltb, arith, ltb-true}
use mathlib.Core.Bool.{false≢true}
use Rattle.detectors.specs.Orders.{doubt}
use Rattle.detectors.proofs.orders.doubt.Goals as goal

small : (b : Bool) (n : ℕ) → (b && ltb n 8) ≡ true → n ≤ 7
small true n h = let l = ltb-true n 8 h in omega arith
small false n h = absurd (false≢true h)

pub returns-then-a-x : goal.returns-then-a-x
unfolding doubt
returns-then-a-x c = (rw c.if-a-x.true, small (ltb 0 c.before.args.a) _ c.if-a-x.true)

pub returns-else-a-x : goal.returns-else-a-x
unfolding doubt
returns-else-a-x c = (rw c.if-a-x.false, omega arith)
