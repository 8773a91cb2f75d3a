-- `correction::errors::some_artifact` meets its contract: after each neighbour the verdict is that of all up to it. Assumes nothing.
use mathlib.Core.Path.{◌≡◌, sym, ◌∙◌}
use mathlib.Core.Bool.{Bool, true, false}
use mathlib.Core.List.{List}
use Prim.Native.Nat.{ℕ, zero, suc, ◌+◌, ◌≤◌}
use native.Mathlib.Omega.{arith}
use borrow.Author.Tests.{leb-true, leb-false}
use lib.Ieee.{Float}
use Rattle.ranges.specs.declared.config.Settings.{Settings}
use Rattle.ranges.specs.Config.{side_span, diagonal_span}
use Rattle.detectors.specs.Verdict.{verdict}
use Rattle.inputs.specs.Window.{cut_samples}
use Rattle.correction.specs.Bitmap.{texel}
use Rattle.correction.specs.Errors.{side_artifact, some_side, diagonal_artifact, some_diagonal, some_artifact, side_tests, across_tests, linear_made, diagonal_made, some_made}
use Rattle.correction.proofs.Laws.Tests.{side_tests_le, side_few, across_tests_le, across_few, linear_made_le}
use Rattle.correction.proofs.errors.Tried.{up_to, up_to_first, up_to_then, up_to_ended, eight}
use Rattle.correction.proofs.errors.some_artifact.Goals as goal
use Rattle.correction.proofs.errors.some_artifact.Goals.{After-row_artifact-v1, After-then-v2, After-then-v3, After-then-v4, After-then-v5, After-then-v6, After-then-v7, After-then, Start}

module _ (tex : ℕ → ℕ → List Float) (w h : ℕ) (s : Settings) (protected : Bool) (m : Float) (a : List Float) (x y : ℕ) where
  -- neighbour k: whether there is an artifact, and the tests that it takes
  abbrev artifact : ℕ → Bool
  artifact zero = side_artifact tex w h (side_span s false) protected m a x (y + 1)
  artifact (suc zero) = side_artifact tex w h (side_span s true) protected m a (x + 1) y
  artifact (suc (suc zero)) = side_artifact tex w h (side_span s false) protected m a (x + 2) (y + 1)
  artifact (suc (suc (suc zero))) = side_artifact tex w h (side_span s true) protected m a (x + 1) (y + 2)
  artifact (suc (suc (suc (suc zero)))) = diagonal_artifact tex w h (diagonal_span s) protected m a x y x y
  artifact (suc (suc (suc (suc (suc zero))))) = diagonal_artifact tex w h (diagonal_span s) protected m a x y (x + 2) y
  artifact (suc (suc (suc (suc (suc (suc zero)))))) = diagonal_artifact tex w h (diagonal_span s) protected m a x y x (y + 2)
  artifact (suc (suc (suc (suc (suc (suc (suc zero))))))) = diagonal_artifact tex w h (diagonal_span s) protected m a x y (x + 2) (y + 2)
  artifact (suc (suc (suc (suc (suc (suc (suc (suc k)))))))) = false

  abbrev tests : ℕ → ℕ
  tests zero = side_tests tex w h (side_span s false) protected m a x (y + 1)
  tests (suc zero) = side_tests tex w h (side_span s true) protected m a (x + 1) y
  tests (suc (suc zero)) = side_tests tex w h (side_span s false) protected m a (x + 2) (y + 1)
  tests (suc (suc (suc zero))) = side_tests tex w h (side_span s true) protected m a (x + 1) (y + 2)
  tests (suc (suc (suc (suc zero)))) = across_tests tex w h (diagonal_span s) protected m a x y x y
  tests (suc (suc (suc (suc (suc zero))))) = across_tests tex w h (diagonal_span s) protected m a x y (x + 2) y
  tests (suc (suc (suc (suc (suc (suc zero)))))) = across_tests tex w h (diagonal_span s) protected m a x y x (y + 2)
  tests (suc (suc (suc (suc (suc (suc (suc zero))))))) = across_tests tex w h (diagonal_span s) protected m a x y (x + 2) (y + 2)
  tests (suc (suc (suc (suc (suc (suc (suc (suc k)))))))) = 0

  abbrev towards : ℕ → ℕ
  towards k = verdict (artifact k) (tests k)

  few : (k : ℕ) → tests k ≤ 31
  few zero = omega (arith, side_tests_le tex w h (side_span s false) protected m a x (y + 1))
  few (suc zero) = omega (arith, side_tests_le tex w h (side_span s true) protected m a (x + 1) y)
  few (suc (suc zero)) = omega (arith, side_tests_le tex w h (side_span s false) protected m a (x + 2) (y + 1))
  few (suc (suc (suc zero))) = omega (arith, side_tests_le tex w h (side_span s true) protected m a (x + 1) (y + 2))
  few (suc (suc (suc (suc zero)))) = omega (arith, across_tests_le tex w h (diagonal_span s) protected m a x y x y)
  few (suc (suc (suc (suc (suc zero))))) = omega (arith, across_tests_le tex w h (diagonal_span s) protected m a x y (x + 2) y)
  few (suc (suc (suc (suc (suc (suc zero)))))) = omega (arith, across_tests_le tex w h (diagonal_span s) protected m a x y x (y + 2))
  few (suc (suc (suc (suc (suc (suc (suc zero))))))) = omega (arith, across_tests_le tex w h (diagonal_span s) protected m a x y (x + 2) (y + 2))
  few (suc (suc (suc (suc (suc (suc (suc (suc k)))))))) = omega arith

  whole : up_to 8 towards ≡ verdict (some_artifact tex w h s protected m a x y) (some_made tex w h s protected m a x y)
  unfolding some_artifact some_side some_diagonal some_made linear_made diagonal_made
  whole = eight artifact tests few (omega (arith, linear_made_le tex w h protected m a x y (side_span s false) (side_span s true)))

-- the neighbours of the texel that is given
abbrev of : Start → ℕ → ℕ
of c = let a = c.args in towards (texel (cut_samples a.b a.xs.now) a.b.width a.b.channels) a.b.width a.b.height a.s.now a.protected a.t.median a.t.texel a.t.x a.t.y

-- the verdict after each of them
after1 : (c : After-row_artifact-v1) → c.row_artifact-v1.result ≡ up_to 1 (of (goal.at.After-row_artifact-v1 c).Start)
after1 c = up_to_first (of (goal.at.After-row_artifact-v1 c).Start) c.row_artifact-v1.ensures

after2 : (c : After-then-v2) → c.then-v2.result ≡ up_to 2 (of (goal.at.After-then-v2 c).Start)
after2 c = up_to_then 1 (of (goal.at.After-then-v2 c).Start) c.then-v2.ensures (after1 (goal.at.After-then-v2 c).After-row_artifact-v1) (leb-false _ _ (sym c.is_artifact.ensures ∙ c.if-is_artifact.false)) c.column_artifact.ensures (omega (arith, side_few _ _ _ _ _ _ _ _ _ c.column_artifact.ensures))

after3 : (c : After-then-v3) → c.then-v3.result ≡ up_to 3 (of (goal.at.After-then-v3 c).Start)
after3 c = up_to_then 2 (of (goal.at.After-then-v3 c).Start) c.then-v3.ensures (after2 (goal.at.After-then-v3 c).After-then-v2) (leb-false _ _ (sym c.is_artifact-2.ensures ∙ c.if-is_artifact-2.false)) c.row_artifact.ensures (omega (arith, side_few _ _ _ _ _ _ _ _ _ c.row_artifact.ensures))

after4 : (c : After-then-v4) → c.then-v4.result ≡ up_to 4 (of (goal.at.After-then-v4 c).Start)
after4 c = up_to_then 3 (of (goal.at.After-then-v4 c).Start) c.then-v4.ensures (after3 (goal.at.After-then-v4 c).After-then-v3) (leb-false _ _ (sym c.is_artifact-3.ensures ∙ c.if-is_artifact-3.false)) c.column_artifact-2.ensures (omega (arith, side_few _ _ _ _ _ _ _ _ _ c.column_artifact-2.ensures))

after5 : (c : After-then-v5) → c.then-v5.result ≡ up_to 5 (of (goal.at.After-then-v5 c).Start)
after5 c = up_to_then 4 (of (goal.at.After-then-v5 c).Start) c.then-v5.ensures (after4 (goal.at.After-then-v5 c).After-then-v4) (leb-false _ _ (sym c.is_artifact-4.ensures ∙ c.if-is_artifact-4.false)) c.lower_artifact.ensures (omega (arith, across_few _ _ _ _ _ _ _ _ _ _ _ c.lower_artifact.ensures))

after6 : (c : After-then-v6) → c.then-v6.result ≡ up_to 6 (of (goal.at.After-then-v6 c).Start)
after6 c = up_to_then 5 (of (goal.at.After-then-v6 c).Start) c.then-v6.ensures (after5 (goal.at.After-then-v6 c).After-then-v5) (leb-false _ _ (sym c.is_artifact-5.ensures ∙ c.if-is_artifact-5.false)) c.lower_artifact-2.ensures (omega (arith, across_few _ _ _ _ _ _ _ _ _ _ _ c.lower_artifact-2.ensures))

after7 : (c : After-then-v7) → c.then-v7.result ≡ up_to 7 (of (goal.at.After-then-v7 c).Start)
after7 c = up_to_then 6 (of (goal.at.After-then-v7 c).Start) c.then-v7.ensures (after6 (goal.at.After-then-v7 c).After-then-v6) (leb-false _ _ (sym c.is_artifact-6.ensures ∙ c.if-is_artifact-6.false)) c.upper_artifact.ensures (omega (arith, across_few _ _ _ _ _ _ _ _ _ _ _ c.upper_artifact.ensures))

after8 : (c : After-then) → c.then.result ≡ up_to 8 (of (goal.at.After-then c).Start)
after8 c = up_to_then 7 (of (goal.at.After-then c).Start) c.then.ensures (after7 (goal.at.After-then c).After-then-v7) (leb-false _ _ (sym c.is_artifact-7.ensures ∙ c.if-is_artifact-7.false)) c.upper_artifact-2.ensures (omega (arith, across_few _ _ _ _ _ _ _ _ _ _ _ c.upper_artifact-2.ensures))

pub returns-then-is_artifact : goal.returns-then-is_artifact
returns-then-is_artifact c = let s = goal.at.returns-then-is_artifact c in up_to_ended 1 7 (of s.Start) (after1 s.After-row_artifact-v1) (leb-true _ _ (sym c.is_artifact.ensures ∙ c.if-is_artifact.true)) ∙ whole _ _ _ _ _ _ _ _ _

pub returns-then-is_artifact-2 : goal.returns-then-is_artifact-2
returns-then-is_artifact-2 c = let s = goal.at.returns-then-is_artifact-2 c in up_to_ended 2 6 (of s.Start) (after2 s.After-then-v2) (leb-true _ _ (sym c.is_artifact-2.ensures ∙ c.if-is_artifact-2.true)) ∙ whole _ _ _ _ _ _ _ _ _

pub returns-then-is_artifact-3 : goal.returns-then-is_artifact-3
returns-then-is_artifact-3 c = let s = goal.at.returns-then-is_artifact-3 c in up_to_ended 3 5 (of s.Start) (after3 s.After-then-v3) (leb-true _ _ (sym c.is_artifact-3.ensures ∙ c.if-is_artifact-3.true)) ∙ whole _ _ _ _ _ _ _ _ _

pub returns-then-is_artifact-4 : goal.returns-then-is_artifact-4
returns-then-is_artifact-4 c = let s = goal.at.returns-then-is_artifact-4 c in up_to_ended 4 4 (of s.Start) (after4 s.After-then-v4) (leb-true _ _ (sym c.is_artifact-4.ensures ∙ c.if-is_artifact-4.true)) ∙ whole _ _ _ _ _ _ _ _ _

pub returns-then-is_artifact-5 : goal.returns-then-is_artifact-5
returns-then-is_artifact-5 c = let s = goal.at.returns-then-is_artifact-5 c in up_to_ended 5 3 (of s.Start) (after5 s.After-then-v5) (leb-true _ _ (sym c.is_artifact-5.ensures ∙ c.if-is_artifact-5.true)) ∙ whole _ _ _ _ _ _ _ _ _

pub returns-then-is_artifact-6 : goal.returns-then-is_artifact-6
returns-then-is_artifact-6 c = let s = goal.at.returns-then-is_artifact-6 c in up_to_ended 6 2 (of s.Start) (after6 s.After-then-v6) (leb-true _ _ (sym c.is_artifact-6.ensures ∙ c.if-is_artifact-6.true)) ∙ whole _ _ _ _ _ _ _ _ _

pub returns-then-is_artifact-7 : goal.returns-then-is_artifact-7
returns-then-is_artifact-7 c = let s = goal.at.returns-then-is_artifact-7 c in up_to_ended 7 1 (of s.Start) (after7 s.After-then-v7) (leb-true _ _ (sym c.is_artifact-7.ensures ∙ c.if-is_artifact-7.true)) ∙ whole _ _ _ _ _ _ _ _ _

pub returns : goal.returns
returns c = after8 c ∙ whole _ _ _ _ _ _ _ _ _
