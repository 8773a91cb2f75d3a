-- `signs::checks::bad_filled` meets its contract. Assumes nothing.
use borrow.Author.Tests.{eq-eqb, ne_eqb}
use Rattle.signs.specs.Checks.{bad_filled}
use Rattle.signs.proofs.checks.bad_filled.Goals as goal

pub returns-then-filled-n : goal.returns-then-filled-n
unfolding bad_filled
returns-then-filled-n c = simp (ne_eqb _ _ c.if-filled-n.true)

pub returns-else-filled-n : goal.returns-else-filled-n
unfolding bad_filled
returns-else-filled-n c = simp (eq-eqb _ _ c.if-filled-n.false) c.some_above.ensures
