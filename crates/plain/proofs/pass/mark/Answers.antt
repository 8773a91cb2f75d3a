-- `plain::pass::mark` meets its contract. Assumes nothing.
use mathlib.Core.Path.{◌∙◌}
use Rattle.inputs.proofs.Laws.Filled.{replicate_tab}
use Rattle.plain.proofs.pass.Whole.{marks, no_marks}
use Rattle.plain.proofs.pass.mark.Goals as goal

pub returns-then-mode-eq-EDGE_PRIORITY : goal.returns-then-mode-eq-EDGE_PRIORITY
returns-then-mode-eq-EDGE_PRIORITY c =
    marks _ _ _ _ _ c.if-mode-eq-EDGE_PRIORITY.true (c.fill.ensures.after (λ y e. e) ∙ replicate_tab _ _) c.mark_corners.ensures

pub returns-else-mode-eq-EDGE_PRIORITY : goal.returns-else-mode-eq-EDGE_PRIORITY
returns-else-mode-eq-EDGE_PRIORITY c = no_marks _ _ _ _ c.if-mode-eq-EDGE_PRIORITY.false (c.fill.ensures.after (λ y e. e) ∙ replicate_tab _ _)
