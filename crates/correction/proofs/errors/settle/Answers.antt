-- `correction::errors::settle` meets its contract: a turn that goes on has three columns of one order. Assumes nothing.
use mathlib.Core.Path.{◌≡◌, sym, ◌∙◌, subst}
use mathlib.Core.Bool.{true, ◌&&◌}
use mathlib.Core.List.{List}
use mathlib.Core.Logic.{dite}
use Prim.Native.Nat.{ℕ, ◌+◌, ◌<◌, ◌≤◌}
use native.Mathlib.Nat.{le_refl}
use native.Mathlib.Decide.{dec_lt}
use native.Mathlib.Omega.{arith}
use lib.Dec.{eqb, ltb}
use borrow.Author.Tests.{ltb-true, eqb-true, not-false}
use Rattle.ground.proofs.Laws.Bools.{both_hold}
use Rattle.inputs.specs.declared.sizes.Window.{Window}
use Rattle.correction.specs.declared.errors.Scan.{Scan}
use Rattle.correction.specs.Inner.{Settled, Scanned, next_in, column_in}
use Rattle.correction.proofs.errors.Nearby.{turn_settled, scan_next}
use Rattle.correction.proofs.errors.settle.Goals as goal

-- a turn that goes on
module _ (g : Window) (st : List ℕ) (y : ℕ) (from at to : Scan) (h : y < g.height) (l : at.x < g.width) where
  on : Scanned g st y at → (to.x ≡ at.x + 1) × (to.left ≡ at.here) × (to.here ≡ column_in g st (next_in at.x g.width) y)
      → (ltb 0 at.here && eqb at.left at.here && eqb to.here at.here) ≡ true → Settled g st at.x y
  on i p t =
      let b = both_hold _ _ t in
      let a = both_hold _ _ b.0 in
      turn_settled g st at.x y at.here l h (ltb-true 0 at.here a.0) (sym (i.left l) ∙ eqb-true _ _ a.1) (sym (i.here l)) (sym p.2 ∙ eqb-true _ _ b.1)

  longer : Settled g st at.x y → to.x ≡ at.x + 1 → ((x : ℕ) → from.x ≤ x → x < at.x → Settled g st x y) → (x : ℕ) → from.x ≤ x → x < to.x → Settled g st x y
  longer s e f x m n =
      dite (dec_lt x at.x) (λ o. f x m o) (λ o. let q : at.x ≡ x = omega (arith, e) in subst (λ (u : ℕ). Settled g st u y) q s)

pub loop-at-init : goal.loop-at-init
loop-at-init c = (c.requires.y_lt_height.1, le_refl _, λ x l m. absurd (omega arith))

pub step-next-requires : goal.step-next-requires
step-next-requires c = record { stencilled = c.requires.stencilled; x_lt_width = (c.loop-at-test.true, c.requires.y_lt_height.0) }

pub returns-then-not-at-next : goal.returns-then-not-at-next
returns-then-not-at-next c = c.loop-at.invariant

pub loop-at-smaller : goal.loop-at-smaller
loop-at-smaller c =
    omega (arith, c.step-next.ensures.0, c.loop-at-test.true)

pub loop-at-preserved : goal.loop-at-preserved
loop-at-preserved c =
    let a = c.args in
    let i = c.loop-at.invariant in
    let h = c.requires.y_lt_height.0 in
    let p = c.step-next.ensures in
    let settled = on a.b a.stencil.now a.y a.from c.loop-at.at c.step-next.result h c.loop-at-test.true i.0 p (not-false _ c.if-not-at-next.false-raw) in (
      scan_next a.b a.stencil.now a.y c.loop-at.at c.step-next.result i.0 c.loop-at-test.true p,
      omega (arith, i.1, p.0),
      longer a.b a.stencil.now a.y a.from c.loop-at.at c.step-next.result h c.loop-at-test.true settled p.0 i.2,
    )

pub returns : goal.returns
returns c = c.loop-at.invariant
