-- `correction::errors::settle` meets its contract: a turn that goes on has three columns of one order. Assumes nothing.
use Prim.Native.Nat.{ℕ, ◌-◌, ◌<◌, ◌≤◌}
use Rattle.correction.specs.Inner.{Settled, Scanned}
use Rattle.correction.proofs.errors.settle.Given as goal

abbrev pub invariant-loop-at : goal.invariant-loop-at
invariant-loop-at l = Scanned l.b l.stencil l.y l.at × (l.initial.at.x ≤ l.at.x) × ((x : ℕ) → l.initial.at.x ≤ x → x < l.at.x → Settled l.b l.stencil x l.y)

abbrev pub decreases-loop-at : goal.decreases-loop-at
decreases-loop-at l = l.b.width - l.at.x
