-- `detectors::diagonal::turning_test` meets its contract. Assumes nothing.
use Rattle.detectors.specs.Diagonal.{turning_test}
use Rattle.ground.proofs.Laws.Bools.{and_taken, and_left}
use Rattle.detectors.proofs.diagonal.turning_test.Goals as goal

pub returns-then-turns : goal.returns-then-turns
unfolding turning_test
returns-then-turns c =
    let m = c.before in
    and_taken m.before.before.turns.ensures m.before.if-turns.true (rw m.interpolated_median_quad.ensures at c.moved_end.ensures)

pub returns-else-turns : goal.returns-else-turns
unfolding turning_test
returns-else-turns c = and_left _ c.before.turns.ensures c.if-turns.false
