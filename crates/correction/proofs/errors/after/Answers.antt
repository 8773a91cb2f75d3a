-- `correction::errors::after` meets its contract. Assumes nothing.
use borrow.Author.Tests.{lt-ltb, le-ltb}
use Rattle.correction.proofs.errors.after.Goals as goal

pub returns-then-x-n : goal.returns-then-x-n
returns-then-x-n c = rw (lt-ltb _ _ c.if-x-n.true)

pub returns-else-x-n : goal.returns-else-x-n
returns-else-x-n c = rw (le-ltb _ _ c.if-x-n.false)
