-- `signs::checks::bad_channels` meets its contract. Assumes nothing.
use borrow.Author.Tests.{eq-eqb, ne_eqb}
use Rattle.signs.specs.Checks.{bad_channels}
use Rattle.signs.proofs.checks.bad_channels.Goals as goal

pub returns-then-ch-ne1 : goal.returns-then-ch-ne1
unfolding bad_channels
returns-then-ch-ne1 c = simp (ne_eqb _ _ c.if-ch-ne1.true) c.bad_channels.ensures

pub returns-else-ch-ne1 : goal.returns-else-ch-ne1
unfolding bad_channels
returns-else-ch-ne1 c = simp (eq-eqb _ _ c.if-ch-ne1.false)
