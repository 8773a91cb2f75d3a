-- `ranges::classifier::Classifier::range_test` meets its contract. Assumes nothing.
use Rattle.std.proofs.Common.{not, ap}
use Rattle.ranges.specs.Classifier.{range_test}
use Rattle.ground.proofs.Laws.Bools.{and_taken, and_left}
use Rattle.ranges.proofs.classifier.Classifier.range_test.Goals as goal

pub returns-then-candidate : goal.returns-then-candidate
unfolding range_test
returns-then-candidate c = and_taken c.candidate.ensures c.if-candidate.true (ap not c.in_range.ensures)

pub returns-else-candidate : goal.returns-else-candidate
unfolding range_test
returns-else-candidate c = and_left _ c.candidate.ensures c.if-candidate.false
