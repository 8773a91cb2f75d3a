-- `inputs::checks::bad_side` meets its contract. Assumes nothing.
use mathlib.Core.Path.{◌≡◌}
use mathlib.Core.Bool.{not}
use mathlib.Core.Logic.{dite}
use Prim.Native.Nat.{ℕ, ◌≤◌}
use native.Mathlib.Decide.{dec_lt}
use native.Mathlib.Omega.{arith}
use lib.Dec.{ltb, leb}
use borrow.Author.Tests.{le-ltb, lt-ltb, le-leb, lt-leb}
use Rattle.inputs.specs.Checks.{bad_side}
use Rattle.inputs.proofs.checks.bad_side.Goals as goal

above : (n m : ℕ) → ltb m n ≡ not (leb n m)
above n m = dite (dec_lt m n) (λ l. rw (lt-ltb m n l, lt-leb n m l)) (λ h. let l : n ≤ m = omega arith in rw (le-ltb m n l, le-leb n m l))

pub returns-then-n-lt1 : goal.returns-then-n-lt1
unfolding bad_side
returns-then-n-lt1 c = simp (lt-ltb _ _ c.if-n-lt1.true, lt-leb _ _ c.if-n-lt1.true)

pub returns-else-n-lt1 : goal.returns-else-n-lt1
unfolding bad_side
returns-else-n-lt1 c = simp (le-leb _ _ c.if-n-lt1.false) (above c.args.n 4096)
