-- `correction::errors::diagonal_artifact` meets its contract. Assumes nothing.
use mathlib.Core.Path.{◌≡◌, sym, ◌∙◌, ap}
use Rattle.numbers.specs.declared.scalar.Middle.{Middle}
use Rattle.detectors.specs.Texel.{texel_median}
use Rattle.detectors.proofs.Laws.Guard.{untested, tested}
use Rattle.detectors.proofs.Laws.Orders.{doubted_all}
use Rattle.correction.specs.Inner.{samples_at}
use Rattle.correction.proofs.errors.diagonal_artifact.Goals as goal
use Rattle.correction.proofs.errors.diagonal_artifact.Goals.{After-median-far}

-- the median of the texel across
far : (c : After-median-far) → let a = c.args in c.median-far.result.value ≡ texel_median (samples_at a.xs.now a.across)
far c = rw c.samples_at-d.ensures at (ap (λ (m : Middle). m.value) c.median-far.ensures)

pub returns-then-guard : goal.returns-then-guard
returns-then-guard c =
    (rw (c.samples_at-d.ensures, c.samples_at.ensures, c.samples_at-then-guard.ensures) at c.has_guarded_artifact.ensures)
    ∙ doubted_all _ _ c.requires.doubts _ _ _ _
    ∙ tested _ _ _ _ _ (far (goal.at.returns-then-guard c).After-median-far) (sym c.guard.ensures ∙ c.if-guard.true)

pub returns : goal.returns
returns c =
    untested _ _ _ _ _ (far (goal.at.returns c).After-median-far) (sym c.guard.ensures ∙ c.if-guard.false)
