-- `inputs::checks::bad_outlines` meets its contract. Assumes nothing.
use borrow.Author.Tests.{lt-ltb, le-ltb}
use Rattle.inputs.specs.Checks.{bad_outlines}
use Rattle.inputs.proofs.checks.bad_outlines.Goals as goal

pub returns-then-colours-gt65536 : goal.returns-then-colours-gt65536
unfolding bad_outlines
returns-then-colours-gt65536 c = simp (lt-ltb _ _ c.if-colours-gt65536.true)

pub returns-else-colours-gt65536 : goal.returns-else-colours-gt65536
unfolding bad_outlines
returns-else-colours-gt65536 c = simp (le-ltb _ _ c.if-colours-gt65536.false)
