-- `correction::corners::lower` meets its contract. Assumes nothing.
use mathlib.Core.Path.{◌∙◌, ap}
use lib.IntN.{ℤ}
use mir.ValLaws.{to_z-of_z}
use mir.Syntax.{w64}
use Rattle.correction.specs.Corners.{lower}
use Rattle.correction.specs.Inner.{clip}
use Rattle.correction.proofs.corners.lower.Goals as goal

pub returns : goal.returns
unfolding lower
returns c =
    let f = c.floor_to_i64 in
    c.clipped.ensures
    ∙ ap (λ (z : ℤ). clip z c.args.n) (to_z-of_z w64 f.result (record { sfits = f.type_inv }) ∙ f.ensures)
