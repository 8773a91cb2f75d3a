-- `correction::corners::protect_corners` meets its contract: after each turn the stencil is painted by the contours before the next. Assumes nothing.
use mathlib.Core.Path.{◌≡◌, refl}
use native.Mathlib.Omega.{arith}
use lib.ListN.{length}
use Rattle.correction.specs.Inner.{at_corner}
use Rattle.inputs.proofs.Laws.Stencil.{both_again}
use Rattle.correction.proofs.Laws.Contours.{start_next, start_le, corners_at}
use Rattle.correction.proofs.corners.Strokes.{stroke_same, stroke_still, stroke_zero, stroke_turn}
use Rattle.correction.proofs.corners.protect_corners.Goals as goal
use Rattle.correction.proofs.corners.protect_corners.Invariants.{nth}

pub loop-end-init : goal.loop-end-init
loop-end-init c =
    let a = c.args in
    let o = a.contours.now.outline in
    record { high = omega arith; start = refl; done = stroke_zero at_corner a.b (nth a.b.width o.colours.now o.coords.now o.ends.now) a.stencil.now }

pub protect_contour-requires : goal.protect_contour-requires
protect_contour-requires c =
    let l = c.loop-end in
    let o = c.args.contours.now.outlined in
    let s = start_le o l.end-index c.loop-end-test.true in record { stencilled = stroke_still at_corner _ _ c.requires l.invariant.done; from_le_end = (omega (arith, l.invariant.start, s), o.within l.end-index c.loop-end-test.true) }

pub loop-end-preserved : goal.loop-end-preserved
loop-end-preserved c =
    let l = c.loop-end in
    record {
      high = omega (arith, c.loop-end-test.true);
      start = start_next c.args.contours.now.outline.ends.now l.end-index;
      done = stroke_turn at_corner _ both_again _ _ _ l.invariant.done (λ k. rw l.invariant.start) c.protect_contour.ensures;
    }

pub returns : goal.returns
returns c =
    let v = c.loop-end.invariant in
    let e : c.loop-end.end-index ≡ length c.args.contours.now.outline.ends.now = omega (arith, v.high) in
    stroke_same at_corner _ _ _ (λ k l. corners_at _ _ _ c.args.contours.now.outlined _ _) (rw e at v.done)

pub shape_of-stencil : goal.shape_of-stencil
shape_of-stencil c = c.loop-end.invariant.done.long
