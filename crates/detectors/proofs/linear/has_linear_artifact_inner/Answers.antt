-- `detectors::linear::has_linear_artifact_inner` meets its contract. Assumes nothing.
use Rattle.std.proofs.Common.{◌≡◌, ℕ, ◌+◌, ◌%◌, ◌^◌, ◌<◌, Bool, sym, ap, ◌∙◌, arith}
use borrow.Author.Tests.{leb-true, leb-false, not-true}
use Rattle.detectors.specs.Verdict.{verdict}
use Rattle.detectors.specs.Linear.{crossing, linear_at, linear_tests_at}
use Rattle.detectors.specs.Inner.{or_else}
use Rattle.detectors.proofs.Laws.Verdict.{verdict_le, artifact_adds, then_adds, or_ended, or_off, or_on}
use Rattle.detectors.proofs.linear.has_linear_artifact_inner.Goals as goal
use Rattle.detectors.proofs.linear.has_linear_artifact_inner.Goals.{Else-is_artifact, After-range_test}

-- nothing found before
none : (c : Else-is_artifact) → c.args.before < 128
none c = leb-false _ _ (sym c.is_artifact.ensures ∙ c.if-is_artifact.false)

pub returns-then-is_artifact : goal.returns-then-is_artifact
returns-then-is_artifact c = or_ended _ _ (leb-true _ _ (sym c.is_artifact.ensures ∙ c.if-is_artifact.true))

pub returns-then-not-crosses : goal.returns-then-not-crosses
unfolding linear_at linear_tests_at
returns-then-not-crosses c =
    or_off _ _ _ _ (none (goal.at.returns-then-not-crosses c).Else-is_artifact) (c.crosses.ensures (not-true _ c.if-not-crosses.true-raw))

-- what one test of a root that is inside says, added to what was before
tested : (c : After-range_test) (k r : ℕ) → k ≡ verdict c.range_test.result 1 → r ≡ (c.args.before + k) % 2 ^ 64 → let a = c.args in
    r ≡ or_else a.before (verdict (linear_at a.k.span a.k.protected a.am a.bm a.a a.b (crossing a.da a.db)) (linear_tests_at (crossing a.da a.db)))
unfolding linear_at linear_tests_at
tested c k r e f =
    let few = none (goal.at.After-range_test c).Else-is_artifact in
    then_adds _ _ _ f (omega (arith, few, e, verdict_le c.range_test.result 1))
    ∙ or_on _ _ _ _ _ few (sym (rw c.crossing-t.ensures at c.inside.ensures) ∙ c.if-inside.true)
    (e ∙ ap (λ (b : Bool). verdict b 1) (rw (c.interpolated_median_linear-xm.ensures, c.crossing-t.ensures) at c.range_test.ensures))

pub returns-then-range_test : goal.returns-then-range_test
returns-then-range_test c =
    tested (goal.at.returns-then-range_test c).After-range_test _ _ (artifact_adds _ _ c.artifact.ensures (omega arith) ∙ ap (λ (b : Bool). verdict b 1) (sym c.if-range_test.true)) c.then.ensures

pub returns-then-inside : goal.returns-then-inside
returns-then-inside c =
    tested (goal.at.returns-then-inside c).After-range_test _ _ (c.clear.ensures ∙ ap (λ (b : Bool). verdict b 1) (sym c.if-range_test.false)) c.then-then-inside.ensures

pub returns : goal.returns
unfolding linear_at linear_tests_at
returns c = or_off _ _ _ _ (none (goal.at.returns c).Else-is_artifact) (sym (rw c.crossing-t.ensures at c.inside.ensures) ∙ c.if-inside.false)
