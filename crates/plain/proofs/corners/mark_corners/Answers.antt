-- `plain::corners::mark_corners` meets its contract: after each turn the stencil is painted by the contours before c. Assumes nothing.
use Rattle.std.proofs.Common.{◌≡◌, ℕ, zero, suc, ◌-◌, List, length, refl, ◌∙◌, arith, ne_eqb}
use Rattle.ground.proofs.Laws.Painted.{painted_zero, painted_same, painted_turn}
use Rattle.inputs.specs.Checks.{end_before}
use Rattle.correction.specs.Numbered.{start_at}
use Rattle.correction.proofs.Laws.Contours.{start_le, corners_at}
use Rattle.plain.specs.Inner.{corner}
use Rattle.plain.proofs.corners.mark_corners.Goals as goal
use Rattle.plain.proofs.corners.mark_corners.Invariants.{nth}

-- a contour starts at the end before its own
starts : (ends : List ℕ) (c : ℕ) → end_before ends c ≡ start_at ends c
unfolding end_before
starts ends zero = refl
starts ends (suc c) = let e : suc c - 1 ≡ c = omega arith in rw (ne_eqb (suc c) 0 (omega arith), e)

pub loop-c-init : goal.loop-c-init
loop-c-init c =
    let a = c.args in
    record { high = omega arith; done = painted_zero corner (nth a.b.width a.all.now.colours.now a.all.now.coords.now a.all.now.ends.now) a.stencil.now }

pub mark_contour-requires-clause-within : goal.mark_contour-requires-clause-within
mark_contour-requires-clause-within c =
    let l = c.loop-c in
    let o = c.args.all.now.outlined in
    let from = c.end_before-from.ensures ∙ starts _ _ in
    (omega (arith, from, start_le o l.c c.loop-c-test.true), o.within l.c c.loop-c-test.true)

pub loop-c-preserved : goal.loop-c-preserved
loop-c-preserved c =
    let l = c.loop-c in
    record { high = omega (arith, c.loop-c-test.true); done = painted_turn corner (λ v. refl) _ _ _ _ l.invariant.done _ _ (λ k. rw (c.end_before-from.ensures ∙ starts _ _)) c.mark_contour.ensures }

pub returns : goal.returns
returns c =
    let v = c.loop-c.invariant in
    let e : c.loop-c.c ≡ length c.args.all.now.ends.now = omega (arith, v.high) in
    rw e at v.done
    ∙ painted_same corner _ _ _ (λ k. corners_at _ _ _ c.args.all.now.outlined _ _)
