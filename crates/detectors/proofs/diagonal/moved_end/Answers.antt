-- `detectors::diagonal::moved_end` meets its contract. Assumes nothing.
use Rattle.detectors.specs.Diagonal.{moved_end}
use Rattle.detectors.proofs.diagonal.moved_end.Goals as goal

pub returns-then-e-t : goal.returns-then-e-t
unfolding moved_end
returns-then-e-t c = rw (c.before.if-e-t.true, c.range_test.ensures)

pub returns-else-e-t : goal.returns-else-e-t
unfolding moved_end
returns-else-e-t c = rw (c.before.if-e-t.false, c.range_test-else-e-t.ensures)
