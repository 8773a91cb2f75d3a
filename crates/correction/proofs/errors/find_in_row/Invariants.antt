-- `correction::errors::find_in_row` meets its contract: a turn stores at one texel and passes over the settled ones behind it. Assumes nothing.
use Prim.Native.Nat.{◌-◌}
use Rattle.correction.specs.Inner.{Scanned}
use Rattle.correction.proofs.errors.Rows.{Found}
use Rattle.correction.proofs.errors.find_in_row.Given as goal

abbrev pub invariant-loop-at : goal.invariant-loop-at
invariant-loop-at l = Found l.b l.xs l.s l.initial.stencil l.y l.at.x l.stencil l.tests × Scanned l.b l.initial.stencil l.y l.at

abbrev pub decreases-loop-at : goal.decreases-loop-at
decreases-loop-at l = l.b.width - l.at.x
