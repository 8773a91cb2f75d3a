-- `plain::texels::previous` meets its contract. Assumes nothing.
use Rattle.std.proofs.Common.{eq-eqb, ne_eqb}
use Rattle.plain.specs.Inner.{previous}
use Rattle.plain.proofs.texels.previous.Goals as goal

pub returns-then-x-eq0 : goal.returns-then-x-eq0
unfolding previous
returns-then-x-eq0 c = simp (eq-eqb _ _ c.if-x-eq0.true)

pub returns-else-x-eq0 : goal.returns-else-x-eq0
unfolding previous
returns-else-x-eq0 c = simp (ne_eqb _ _ c.if-x-eq0.false)
