-- `signs::rasterization::two_of` meets its contract. Assumes nothing.
use mathlib.Core.Path.{refl}
use Rattle.signs.specs.Inner.{two_of}
use Rattle.signs.proofs.rasterization.two_of.Goals as goal

pub returns : goal.returns
unfolding two_of
returns c = refl
