-- `inputs::checks::bad_sample` meets its contract. Assumes nothing.
use Rattle.inputs.specs.Checks.{oversize}
use Rattle.inputs.proofs.checks.bad_sample.Goals as goal
use Rattle.inputs.proofs.checks.bad_sample.Goals.{then-v, else-v}

pub returns : goal.returns
unfolding oversize
returns c = elim c.if-v.branch [ then-v w ↦ simp (w.result-is, w.if-v.true) | else-v w ↦ simp (w.result-is, w.if-v.false) ]
