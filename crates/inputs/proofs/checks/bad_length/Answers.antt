-- `inputs::checks::bad_length` meets its contract. Assumes nothing.
use Rattle.inputs.specs.Checks.{bad_length}
use Rattle.inputs.proofs.checks.bad_length.Goals as goal
use Rattle.inputs.proofs.checks.bad_length.Goals.{then-v, else-v}

pub returns : goal.returns
unfolding bad_length
returns c = elim c.if-v.branch [ then-v w ↦ simp (w.result-is, w.if-v.true) | else-v w ↦ simp (w.result-is, w.if-v.false) ]
