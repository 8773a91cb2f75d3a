-- `detectors::diagonal::some_pair` meets its contract: no pair below p and no root of pair p before t is an artifact, and the tests are those of all of them. Assumes nothing.
use Rattle.std.proofs.Common.{◌≡◌, ℕ, ◌+◌, ◌<◌, ◌≤◌, Bool, true, false, List, [], ◌∷◌, ◌++◌, length, leb, sym, ap, ◌∙◌, subst, arith}
use mathlib.Core.List.{append-nil}
use borrow.Author.Tests.{leb-true, leb-false}
use lib.Ieee.{Float}
use lib.ListN.{length-append}
use Rattle.std.specs.Iterator.{Yields, YieldsFirst}
use Rattle.numbers.specs.EquationSolver.{listed}
use Rattle.numbers.specs.declared.equation_solver.Roots.{Roots}
use Rattle.ground.specs.Lists.{any, some, spent, spent_in}
use Rattle.ground.proofs.Laws.Search.{none_zero, none_more, any_at}
use Rattle.ground.proofs.Laws.Spent.{spent_none, spent_more, spent_ended, spent_small, spent_in_small}
use Rattle.detectors.specs.Inner.{Tried}
use Rattle.detectors.specs.Verdict.{verdict}
use Rattle.detectors.specs.Diagonal.{diagonal_at, diagonal_tests_at}
use Rattle.detectors.specs.Orders.{doubted_pair, doubted_tests}
use Rattle.detectors.proofs.Laws.Verdict.{as_found, as_clear, verdict_le, then_adds, found, clear}
use Rattle.detectors.proofs.Laws.Tests.{diagonal_at_le, doubted_le}
use Rattle.detectors.proofs.diagonal.Searched.{tried_few, tried_some, tried_spent, none_yet, nothing_spent, none_last, some_last, last_spent, ended}
use Rattle.detectors.proofs.diagonal.some_pair.Goals as goal
use Rattle.detectors.proofs.diagonal.some_pair.Goals.{After-diagonal_at, After-is_artifact}

-- the roots that have come and those that are left
parted : (ts : List Float) (s t : Roots) → Yields (YieldsFirst listed) s ts t → listed s ≡ ts ++ listed t
parted [] s t y = ap listed y
parted (x ∷ ts) s t y = y.1 ∙ ap (λ (us : List Float). x ∷ us) (parted ts y.0 t y.2)

-- the pairs in order, of which t tests are those before pair p, with its roots ts
module _ (bits : ℕ) (span : Float) (protected : Bool) (am dm : Float) (m : List (List Float)) (p t : ℕ) (ts : List Float) (tried : Tried bits m p ts) where
  abbrev ones : ℕ → Bool
  ones = doubted_pair bits span protected am dm m

  abbrev cost : ℕ → ℕ
  cost = doubted_tests bits span protected am dm m

  abbrev at : Float → Bool
  at = diagonal_at span protected am dm m p

  abbrev takes : Float → ℕ
  takes = diagonal_tests_at m p

  module _ (before : t ≡ spent p ones cost) (none : any p ones ≡ false) (b : p < 3) (seen : List Float) (k : ℕ) (so : k ≡ t + spent_in at takes seen) where
    -- all tests up to a root x are too few for an artifact
    room : (x : Float) (left : List Float) → ts ≡ seen ++ x ∷ left → k + takes x < 128
    room x left e =
        let two : length seen + length (x ∷ left) ≤ 2 = subst (λ (n : ℕ). n ≤ 2) (ap length e ∙ length-append seen (x ∷ left)) (tried_few bits m p ts tried) in
        omega (arith, so, before, b, two, spent_small 6 p ones cost (doubted_le span protected am m bits dm), spent_in_small at takes 3 (λ y. diagonal_at_le m p y) seen, diagonal_at_le m p x)

    -- where the roots have come to an end
    next_pair : ts ≡ seen → some at seen ≡ false → (any (p + 1) ones ≡ false) × (k ≡ spent (p + 1) ones cost)
    next_pair e s =
        let pair : ones p ≡ false = sym (tried_some bits m p ts tried span protected am dm) ∙ ap (some at) e ∙ s in
        let tests : spent_in at takes seen ≡ cost p = ap (spent_in at takes) (sym e) ∙ tried_spent bits m p ts tried span protected am dm in
        (none_more _ _ none pair, so ∙ spent_more ones cost p t (spent_in at takes seen) before none tests)

    -- where the search ends with an artifact
    last_pair : (x : Float) (left : List Float) → ts ≡ seen ++ x ∷ left → some at seen ≡ false → at x ≡ true → k + (128 + takes x) ≡ verdict (any 3 ones) (spent 3 ones cost)
    last_pair x left e s h =
        let pair : ones p ≡ true = sym (tried_some bits m p ts tried span protected am dm) ∙ ap (some at) e ∙ some_last at seen x left h in
        let tests : spent_in at takes seen + takes x ≡ cost p = sym (ended at takes seen x left s h) ∙ ap (spent_in at takes) (sym e) ∙ tried_spent bits m p ts tried span protected am dm in
        let all : k + takes x ≡ spent 3 ones cost = omega (arith, so, spent_more ones cost p t (spent_in at takes seen + takes x) before none tests, spent_ended ones cost 3 p b pair) in
        omega arith ∙ as_found (k + takes x) (any_at ones 3 p b pair) ∙ ap (verdict (any 3 ones)) all

pub loop-p-init : goal.loop-p-init
loop-p-init c = (none_zero _, sym (spent_none _ _))

pub loop-t-init : goal.loop-t-init
loop-t-init c = (none_yet _, nothing_spent _ _ _)

-- a root that comes, behind those that have come
comes : (c : After-diagonal_at) → listed c.roots_tried-t-items.result ≡ c.loop-t.yielded ++ c.in-Some.t ∷ listed c.next.new.self
comes c = sym (ap listed c.into_iter-t-iterator.ensures.into_iter_gives) ∙ parted _ _ _ c.loop-t.yielded_by ∙ ap (λ (us : List Float). c.loop-t.yielded ++ us) c.in-Some.ensures.steps

few : (c : After-diagonal_at) → c.loop-t.all + diagonal_tests_at c.args.m.now c.loop-p.p c.in-Some.t < 128
few c = room _ _ _ _ _ _ _ _ _ c.roots_tried-t-items.ensures c.loop-p.invariant.1 c.loop-p.invariant.0 c.loop-p-test.true _ _ c.loop-t.invariant.1 _ _ (comes c)

-- the number of the root's verdict, added to those before
added : (c : After-is_artifact) → c.then-all.result ≡ c.loop-t.all + c.diagonal_at.result
added c =
    let v = verdict_le (diagonal_at c.args.k.span c.args.k.protected c.args.am c.args.dm c.args.m.now c.loop-p.p c.in-Some.t) (diagonal_tests_at c.args.m.now c.loop-p.p c.in-Some.t) in
    then_adds _ _ _ c.then-all.ensures (omega (arith, few (goal.at.After-is_artifact c).After-diagonal_at, c.diagonal_at.ensures, v))

sum : (c : After-is_artifact) → c.is_artifact.result ≡ leb 128 (c.loop-t.all + c.diagonal_at.result)
sum c = c.is_artifact.ensures ∙ ap (leb 128) (added c)

pub returns-then-is_artifact : goal.returns-then-is_artifact
returns-then-is_artifact c =
    let d = goal.at.returns-then-is_artifact c in
    let one = found _ _ _ _ c.diagonal_at.ensures (few d.After-diagonal_at) (leb-true _ _ (sym (sum d.After-is_artifact) ∙ c.if-is_artifact.true)) in
    added d.After-is_artifact
    ∙ ap (λ (n : ℕ). c.loop-t.all + n) one.1
    ∙ last_pair _ _ _ _ _ _ _ _ _ c.roots_tried-t-items.ensures c.loop-p.invariant.1 c.loop-p.invariant.0 c.loop-p-test.true _ _ c.loop-t.invariant.1 _ _ (comes d.After-diagonal_at) c.loop-t.invariant.0 one.0

pub loop-t-preserved : goal.loop-t-preserved
loop-t-preserved c =
    let d = goal.at.loop-t-preserved c in
    let none = clear _ _ _ _ c.diagonal_at.ensures (leb-false _ _ (sym (sum d.After-is_artifact) ∙ c.if-is_artifact.false)) in
    (none_last _ _ _ c.loop-t.invariant.0 none.0, added d.After-is_artifact ∙ omega (arith, c.loop-t.invariant.1, none.1, last_spent _ (diagonal_tests_at c.args.m.now c.loop-p.p) c.loop-t.yielded c.in-Some.t c.loop-t.invariant.0))

pub loop-p-preserved : goal.loop-p-preserved
loop-p-preserved c =
    let all = sym (ap listed c.into_iter-t-iterator.ensures.into_iter_gives) ∙ parted _ _ _ c.loop-t.yielded_by ∙ ap (λ (us : List Float). c.loop-t.yielded ++ us) c.in-None.ensures.steps.0 ∙ append-nil _ in
    next_pair _ _ _ _ _ _ _ _ _ c.roots_tried-t-items.ensures c.loop-p.invariant.1 c.loop-p.invariant.0 c.loop-p-test.true _ _ c.loop-t.invariant.1 all c.loop-t.invariant.0

pub returns : goal.returns
returns c =
    let three : c.loop-p.p ≡ 3 = omega (arith, c.loop-p.auto.p-end, c.loop-p-test.false) in
    rw (← three) (c.loop-p.invariant.1 ∙ as_clear _ c.loop-p.invariant.0)
