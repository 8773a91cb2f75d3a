-- `detectors::diagonal::root_tests` meets its contract. Assumes nothing.
use Rattle.ground.proofs.Laws.Bools.{or_taken, or_left}
use Rattle.detectors.proofs.diagonal.root_tests.Goals as goal

pub returns-then-range_test : goal.returns-then-range_test
returns-then-range_test c = or_taken _ c.before.range_test.ensures c.if-range_test.true

pub returns-then-turning_test : goal.returns-then-turning_test
returns-then-turning_test c =
    let e = c.before.before in
    or_left e.before.range_test.ensures e.if-range_test.false (or_taken _ c.before.turning_test.ensures c.if-turning_test.true)

pub returns-else-turning_test : goal.returns-else-turning_test
returns-else-turning_test c =
    let first = c.before.before in
    let e = first.before in
    or_left e.before.range_test.ensures e.if-range_test.false (or_left first.turning_test.ensures c.before.if-turning_test.false c.turning_test-else-turning_test.ensures)
