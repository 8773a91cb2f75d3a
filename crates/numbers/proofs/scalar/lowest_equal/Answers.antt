-- `numbers::scalar::lowest_equal` meets its contract. Assumes nothing.
use Rattle.numbers.specs.Scalar.{lowest_equal}
use Rattle.numbers.proofs.scalar.lowest_equal.Goals as goal

pub returns : goal.returns
unfolding lowest_equal
returns c = rw (c.equal_or-3.ensures, c.before.equal_or-2.ensures, c.before.before.equal_or.ensures)
