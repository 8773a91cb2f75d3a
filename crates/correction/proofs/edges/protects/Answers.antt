-- `correction::edges::protects` meets its contract. Assumes nothing.
use Rattle.detectors.specs.Edge.{protects_lower, protects_upper}
use Rattle.correction.specs.Inner.{protects_as}
use Rattle.correction.proofs.edges.protects.Goals as goal

pub returns-then-lower : goal.returns-then-lower
unfolding protects_as protects_lower
returns-then-lower c = let s = c.before.before.before in rw (c.if-lower.true, c.pair_protects.ensures, s.requires.1, s.requires.0)

pub returns-else-lower : goal.returns-else-lower
unfolding protects_as protects_upper
returns-else-lower c = let s = c.before.before.before in rw (c.if-lower.false, c.pair_protects-else-lower.ensures, s.requires.1, s.requires.0)
