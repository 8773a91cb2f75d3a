-- `plain::corners::mark_segment` meets its contract. Assumes nothing.
use Rattle.std.proofs.Common.{ℕ, ltb, sym, ap, ◌∙◌, le-ltb}
use Rattle.ground.proofs.Laws.Painted.{painted_left}
use Rattle.plain.specs.Inner.{corner}
use Rattle.plain.proofs.corners.mark_segment.Goals as goal

pub returns-else-shared-lt2 : goal.returns-else-shared-lt2
returns-else-shared-lt2 c = painted_left corner _ _ (ap (λ (n : ℕ). ltb n 2) (sym c.shared.ensures) ∙ le-ltb _ 2 c.if-shared-lt2.false) _
