-- `numbers::scalar::equal_or` meets its contract. Assumes nothing.
use Rattle.numbers.proofs.scalar.equal_or.Goals as goal

pub returns-then-x-m : goal.returns-then-x-m
returns-then-x-m c = rw c.if-x-m.true

pub returns-else-x-m : goal.returns-else-x-m
returns-else-x-m c = rw c.if-x-m.false
