-- `numbers::square_root::newton` meets its contract. Assumes nothing.
use Rattle.std.proofs.Common.{refl}
use Rattle.numbers.specs.Inner.{newton_step}
use Rattle.numbers.proofs.square_root.newton.Goals as goal

pub returns : goal.returns
unfolding newton_step
returns c = refl
