-- `numbers::scalar::zero` meets its contract. Assumes nothing.
use lib.Ieee.{neg, of_bits, of_fields, odd}
use Rattle.numbers.proofs.scalar.zero.Goals as goal

pub returns-then-minus : goal.returns-then-minus
unfolding neg of_bits of_fields odd
returns-then-minus c = rw c.if-minus.true

pub returns-else-minus : goal.returns-else-minus
unfolding neg of_bits of_fields odd
returns-else-minus c = rw c.if-minus.false
