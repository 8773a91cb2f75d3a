-- `detectors::pairs::next` meets its contract. Assumes nothing.
use Rattle.std.proofs.Common.{arith, le-ltb, lt-ltb}
use Rattle.detectors.specs.Pairs.{next}
use Rattle.detectors.proofs.pairs.next.Goals as goal

pub returns-then-p-lt2 : goal.returns-then-p-lt2
unfolding next
returns-then-p-lt2 c = (simp (lt-ltb _ _ c.if-p-lt2.true), omega arith)

pub returns-else-p-lt2 : goal.returns-else-p-lt2
unfolding next
returns-else-p-lt2 c = (simp (le-ltb _ _ c.if-p-lt2.false), omega arith)
