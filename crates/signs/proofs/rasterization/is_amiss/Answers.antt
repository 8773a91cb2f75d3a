-- `signs::rasterization::is_amiss` meets its contract. Assumes nothing.
use mathlib.Core.Path.{◌≡◌, refl}
use mathlib.Core.Bool.{Bool, true, false, not, cond, beq}
use lib.Ieee.{lt}
use Rattle.signs.specs.Flip.{is_amiss}
use Rattle.signs.proofs.rasterization.is_amiss.Goals as goal

differ : (a b : Bool) → not (beq a b) ≡ cond b (not a) a
differ true true = refl
differ true false = refl
differ false true = refl
differ false false = refl

pub returns : goal.returns
unfolding is_amiss
returns c = differ (lt c.args.zero c.args.v) c.args.filled
