-- `signs::rasterization::clear_matches` meets its contract, by what the library's `fill` ensures. Assumes nothing.
use mathlib.Core.Path.{◌∙◌}
use Rattle.inputs.proofs.Laws.Filled.{replicate_tab}
use Rattle.signs.proofs.rasterization.clear_matches.Goals as goal

pub returns : goal.returns
returns c = c.fill.ensures.after (λ y e. e) ∙ replicate_tab _ _
