-- `plain::corners::mark_around` meets its contract. Assumes nothing.
use Rattle.std.proofs.Common.{◌∙◌, w64}
use mir.ValLaws.{to_z-of_z}
use Rattle.correction.specs.Corners.{lower}
use Rattle.plain.proofs.corners.Around.{marked_around}
use Rattle.plain.proofs.corners.mark_around.Goals as goal

pub returns : goal.returns
unfolding lower
returns c =
    let l = c.floor_to_i64-l in
    let u = c.floor_to_i64-u in
    marked_around _ _ _ _ _ _ _ _ _ _ _ _ _ _ _ c.requires.any c.requires.long
    (to_z-of_z w64 l.result (record { sfits = l.type_inv }) ∙ l.ensures)
    (to_z-of_z w64 u.result (record { sfits = u.type_inv }) ∙ u.ensures)
    c.first_beside-left.ensures c.second_beside-right.ensures c.first_beside-below.ensures c.second_beside-above.ensures
    c.mark.ensures c.mark-2.ensures c.mark-3.ensures c.mark-4.ensures
