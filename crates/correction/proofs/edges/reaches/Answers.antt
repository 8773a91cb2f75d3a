-- `correction::edges::reaches` meets its contract. Assumes nothing.
use mathlib.Core.Path.{refl}
use Rattle.correction.proofs.edges.reaches.Goals as goal

pub returns : goal.returns
returns c = refl
