-- `detectors::diagonal::turns` meets its contract. Assumes nothing.
use Rattle.detectors.specs.Diagonal.{turns}
use Rattle.detectors.proofs.diagonal.turns.Goals as goal

pub returns-then-e : goal.returns-then-e
unfolding turns
returns-then-e c = simp c.if-e.true

pub returns-else-e : goal.returns-else-e
unfolding turns
returns-else-e c = simp c.if-e.false
