-- `inputs::outline::Outline::check` meets its contract: what checks 7 and 8 let through is outlined. Assumes nothing.
use mathlib.Core.Path.{sym}
use Rattle.inputs.proofs.checks.Passed.{outline_outlined}
use Rattle.inputs.proofs.outline.Outline.check.Goals as goal

pub invariant_of-result : goal.invariant_of-result
invariant_of-result c = record { outlined = outline_outlined _ _ _ (sym c.in_ok-check_outline.ensures.numbers) }
