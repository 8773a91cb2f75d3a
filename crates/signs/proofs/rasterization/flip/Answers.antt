-- `signs::rasterization::flip` meets its contract. Assumes nothing.
use mathlib.Core.Path.{refl}
use Rattle.signs.specs.Flip.{double_of, flip_of}
use Rattle.signs.proofs.rasterization.flip.Goals as goal

pub returns : goal.returns
unfolding flip_of double_of
returns c = refl
