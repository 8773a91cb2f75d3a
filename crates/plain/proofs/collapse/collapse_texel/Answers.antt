-- `plain::collapse::collapse_texel` meets its contract. Assumes nothing.
use Rattle.detectors.specs.Texel.{texel_middle}
use Rattle.plain.proofs.collapse.collapse_texel.Goals as goal

pub returns-then-flagged : goal.returns-then-flagged
unfolding texel_middle
returns-then-flagged c = simp c.if-flagged.true (rw c.median_value-m.ensures)
