-- `detectors::pairs::inside` meets its contract. Assumes nothing.
use Rattle.detectors.specs.Pairs.{inside}
use Rattle.detectors.proofs.pairs.inside.Goals as goal

pub returns-then-t : goal.returns-then-t
unfolding inside
returns-then-t c = simp c.if-t.true

pub returns-else-t : goal.returns-else-t
unfolding inside
returns-else-t c = simp c.if-t.false
