-- `detectors::diagonal::in_doubt` meets its contract. Assumes nothing.
use Rattle.std.proofs.Common.{eq-eqb, ne_eqb}
use Rattle.detectors.specs.Orders.{doubted}
use Rattle.detectors.proofs.diagonal.in_doubt.Goals as goal

pub returns-then-p-eq0 : goal.returns-then-p-eq0
unfolding doubted
returns-then-p-eq0 c = simp (eq-eqb _ _ c.if-p-eq0.true)

pub returns-then-p-eq1 : goal.returns-then-p-eq1
unfolding doubted
returns-then-p-eq1 c = simp (ne_eqb _ _ c.before.if-p-eq0.false, eq-eqb _ _ c.if-p-eq1.true)

pub returns : goal.returns
unfolding doubted
returns c = simp (ne_eqb _ _ c.before.if-p-eq0.false, ne_eqb _ _ c.if-p-eq1.false)
