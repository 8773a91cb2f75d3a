-- `correction::cells::bad_run` meets its contract. Assumes nothing.
use Rattle.correction.specs.Sheet.{bad_run}
use Rattle.correction.proofs.cells.bad_run.Goals as goal

pub returns : goal.returns
unfolding bad_run
returns c = c.beyond.ensures
