-- `numbers::scalar::lesser` meets its contract. Assumes nothing.
use Rattle.numbers.specs.Inner.{lesser_of}
use Rattle.numbers.proofs.scalar.lesser.Goals as goal

pub returns-then-y-x : goal.returns-then-y-x
unfolding lesser_of
returns-then-y-x c = rw c.if-y-x.true

pub returns-else-y-x : goal.returns-else-y-x
unfolding lesser_of
returns-else-y-x c = rw c.if-y-x.false
