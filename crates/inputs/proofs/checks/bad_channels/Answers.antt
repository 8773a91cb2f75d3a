-- `inputs::checks::bad_channels` meets its contract. Assumes nothing.
use borrow.Author.Tests.{eq-eqb, ne_eqb}
use Rattle.inputs.specs.Checks.{bad_channels}
use Rattle.inputs.proofs.checks.bad_channels.Goals as goal

pub returns-then-ch-ne3 : goal.returns-then-ch-ne3
unfolding bad_channels
returns-then-ch-ne3 c = simp (ne_eqb _ _ c.if-ch-ne3.true)

pub returns-else-ch-ne3 : goal.returns-else-ch-ne3
unfolding bad_channels
returns-else-ch-ne3 c = simp (eq-eqb _ _ c.if-ch-ne3.false)
