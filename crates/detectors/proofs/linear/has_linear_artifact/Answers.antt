-- `detectors::linear::has_linear_artifact` meets its contract. Assumes nothing.
use Rattle.std.proofs.Common.{sym, ap, ◌∙◌}
use Rattle.numbers.specs.declared.scalar.Middle.{Middle}
use Rattle.detectors.specs.Linear.{linear_pairs, has_linear_artifact, linear_pairs_tests, linear_tests}
use Rattle.detectors.proofs.Laws.Verdict.{guarded_off, guarded_on}
use Rattle.detectors.proofs.linear.has_linear_artifact.Goals as goal

pub returns-then-guard : goal.returns-then-guard
unfolding has_linear_artifact linear_pairs linear_tests linear_pairs_tests
returns-then-guard c =
    rw (← ap (λ (m : Middle). m.value) c.median-bm.ensures, ← c.side_span.ensures) (c.some_pair.ensures ∙ guarded_on _ _ _ (sym c.guard.ensures ∙ c.if-guard.true))

pub returns : goal.returns
unfolding has_linear_artifact linear_pairs linear_tests linear_pairs_tests
returns c = rw (← ap (λ (m : Middle). m.value) c.median-bm.ensures) (guarded_off _ _ _ (sym c.guard.ensures ∙ c.if-guard.false))
