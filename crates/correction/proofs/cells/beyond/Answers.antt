-- `correction::cells::beyond` meets its contract. Assumes nothing.
use mathlib.Core.Path.{◌≡◌, sym}
use mathlib.Core.Bool.{true}
use Prim.Native.Nat.{ℕ, ◌+◌, ◌-◌, ◌<◌, ◌≤◌}
use native.Mathlib.Omega.{arith}
use lib.Dec.{ltb}
use borrow.Author.Tests.{ltb-true, lt-ltb}
use Rattle.ground.proofs.Laws.Bools.{both_ways}
use Rattle.correction.proofs.cells.beyond.Goals as goal

too_many : (from count end : ℕ) → end < count → true ≡ ltb end (from + count)
too_many from count end l = sym (lt-ltb end (from + count) (omega arith))

not_too_many : (from count end : ℕ) → count ≤ end → ltb (end - count) from ≡ ltb end (from + count)
not_too_many from count end l =
    both_ways (ltb (end - count) from) (ltb end (from + count))
    (λ p. lt-ltb end (from + count) (omega (arith, ltb-true (end - count) from p)))
    (λ p. lt-ltb (end - count) from (omega (arith, ltb-true end (from + count) p)))

pub returns-then-count-end : goal.returns-then-count-end
returns-then-count-end c = too_many _ _ _ c.if-count-end.true

pub returns : goal.returns
returns c = not_too_many _ _ _ c.if-count-end.false
