-- `plain::checks::bad_outlines` meets its contract. Assumes nothing.
use Rattle.std.proofs.Common.{le-ltb, lt-ltb}
use Rattle.inputs.specs.Checks.{bad_outlines}
use Rattle.plain.proofs.checks.bad_outlines.Goals as goal

pub returns-then-colours-gt65536 : goal.returns-then-colours-gt65536
unfolding bad_outlines
returns-then-colours-gt65536 c = simp (lt-ltb _ _ c.if-colours-gt65536.true)

pub returns : goal.returns
unfolding bad_outlines
returns c = simp (le-ltb _ _ c.if-colours-gt65536.false)
