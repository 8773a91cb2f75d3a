-- `numbers::scalar::greater` meets its contract. Assumes nothing.
use Rattle.numbers.specs.Inner.{greater_of}
use Rattle.numbers.proofs.scalar.greater.Goals as goal

pub returns-then-x-y : goal.returns-then-x-y
unfolding greater_of
returns-then-x-y c = rw c.if-x-y.true

pub returns-else-x-y : goal.returns-else-x-y
unfolding greater_of
returns-else-x-y c = rw c.if-x-y.false
