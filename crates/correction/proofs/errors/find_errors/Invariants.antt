-- `correction::errors::find_errors` meets its contract: row by row. Assumes nothing.
use Rattle.correction.proofs.errors.Rows.{FoundRows}
use Rattle.correction.proofs.errors.find_errors.Given as goal

abbrev pub invariant-loop-y : goal.invariant-loop-y
invariant-loop-y l = FoundRows l.b l.xs l.s l.initial.stencil l.y l.stencil l.tests
