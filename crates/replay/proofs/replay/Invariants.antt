-- The next case begins within the list's room, and at most as many cases differ as were run.
use Rattle.std.proofs.Common.{◌-◌, ◌≤◌}
use Rattle.replay.proofs.replay.Given as goal

abbrev pub invariant-loop-number : goal.invariant-loop-number
invariant-loop-number g l = (l.at ≤ 262144) × (l.number ≤ l.cases) × (l.differ ≤ l.number)

abbrev pub decreases-loop-number : goal.decreases-loop-number
decreases-loop-number g l = l.cases - l.number
