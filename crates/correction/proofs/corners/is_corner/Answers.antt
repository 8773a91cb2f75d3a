-- `correction::corners::is_corner` meets its contract. Assumes nothing.
use mathlib.Core.Path.{ap}
use Prim.Native.Nat.{ℕ}
use lib.Dec.{ltb}
use Rattle.correction.proofs.corners.is_corner.Goals as goal

pub returns : goal.returns
returns c = ap (λ (s : ℕ). ltb s 2) c.shared.ensures
