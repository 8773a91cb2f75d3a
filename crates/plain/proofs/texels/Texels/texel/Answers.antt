-- `plain::texels::Texels::texel` meets its contract. Assumes nothing.
use Rattle.std.proofs.Common.{ap}
use Rattle.std.specs.Prelude.{Some}
use Rattle.plain.specs.Inner.{is_texel}
use Rattle.plain.proofs.texels.Texels.texel.Goals as goal

pub returns-then-x-self : goal.returns-then-x-self
unfolding is_texel
returns-then-x-self c = simp c.if-x-self.true (ap Some c.channels.ensures)

pub returns : goal.returns
unfolding is_texel
returns c = simp c.if-x-self.false
