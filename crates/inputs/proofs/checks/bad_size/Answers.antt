-- `inputs::checks::bad_size` meets its contract. Assumes nothing.
use Rattle.ground.proofs.Laws.Bools.{or_taken, or_left}
use Rattle.inputs.specs.Checks.{bad_size}
use Rattle.inputs.proofs.checks.bad_size.Goals as goal

pub returns-then-bad_side : goal.returns-then-bad_side
unfolding bad_size
returns-then-bad_side c = or_taken _ c.before.bad_side.ensures c.if-bad_side.true

pub returns-else-bad_side : goal.returns-else-bad_side
unfolding bad_size
returns-else-bad_side c = or_left c.before.before.bad_side.ensures c.before.if-bad_side.false c.bad_side-else-bad_side.ensures
