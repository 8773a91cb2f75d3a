-- `detectors::diagonal::diagonal_at` meets its contract. Assumes nothing.
use Rattle.std.proofs.Common.{◌≡◌, Bool, sym, ap, ◌∙◌, arith}
use Rattle.detectors.specs.Verdict.{verdict}
use Rattle.detectors.specs.Diagonal.{root_tests, diagonal_at, root_test_count, diagonal_tests_at}
use Rattle.detectors.proofs.Laws.Verdict.{artifact_adds, guarded_off, guarded_on}
use Rattle.detectors.proofs.diagonal.diagonal_at.Goals as goal
use Rattle.detectors.proofs.diagonal.diagonal_at.Goals.{After-root_tests}

-- the verdict by what the tests said and how many they are
whole : (c : After-root_tests) → let a = c.args in
    verdict c.root_tests.result c.root_test_count-n.result ≡ verdict (diagonal_at a.k.span a.k.protected a.am a.dm a.m.now a.p a.t) (diagonal_tests_at a.m.now a.p a.t)
unfolding diagonal_at root_tests diagonal_tests_at root_test_count
whole c =
    rw (c.root_tests.ensures, c.root_test_count-n.ensures.0, c.interpolated_median_quad-xm.ensures, c.turning_point-f.ensures, c.next.ensures.0, c.turning_point-e.ensures)
    (guarded_on _ _ _ (sym c.inside.ensures ∙ c.if-inside.true))

pub returns-then-root_tests : goal.returns-then-root_tests
returns-then-root_tests c = artifact_adds _ _ c.artifact.ensures (omega (arith, c.root_test_count-n.ensures.1)) ∙ ap (λ (b : Bool). verdict b c.root_test_count-n.result) (sym c.if-root_tests.true) ∙ whole (goal.at.returns-then-root_tests c).After-root_tests

pub returns-then-inside : goal.returns-then-inside
returns-then-inside c = c.clear.ensures ∙ ap (λ (b : Bool). verdict b c.root_test_count-n.result) (sym c.if-root_tests.false) ∙ whole (goal.at.returns-then-inside c).After-root_tests

pub returns : goal.returns
unfolding diagonal_at diagonal_tests_at
returns c = guarded_off _ _ _ (sym c.inside.ensures ∙ c.if-inside.false)
