-- `signs::rasterization::corrected` meets its contract. Assumes nothing.
use mathlib.Core.Path.{sym, ◌∙◌}
use Rattle.signs.specs.Flip.{flipped_if}
use Rattle.signs.proofs.rasterization.corrected.Goals as goal

pub returns-then-is_amiss : goal.returns-then-is_amiss
unfolding flipped_if
returns-then-is_amiss c = let a = c.before in simp (sym a.is_amiss.ensures ∙ a.if-is_amiss.true) c.flip.ensures

pub returns-else-is_amiss : goal.returns-else-is_amiss
unfolding flipped_if
returns-else-is_amiss c = simp (sym c.is_amiss.ensures ∙ c.if-is_amiss.false)
