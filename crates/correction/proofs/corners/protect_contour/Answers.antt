-- `correction::corners::protect_contour` meets its contract: after each turn the stencil is painted by the segments before i. Assumes nothing.
use mathlib.Core.Path.{◌≡◌}
use mathlib.Core.Bool.{Bool}
use Prim.Native.Nat.{ℕ, ◌+◌, ◌-◌}
use native.Mathlib.Nat.{sub_self}
use native.Mathlib.Omega.{arith}
use Rattle.correction.specs.Inner.{at_corner}
use Rattle.correction.specs.Numbered.{contour_hits}
use Rattle.inputs.proofs.Laws.Stencil.{both_again}
use Rattle.correction.proofs.corners.Strokes.{stroke_still, stroke_zero, stroke_turn}
use Rattle.correction.proofs.corners.protect_contour.Goals as goal
use Rattle.correction.proofs.corners.protect_contour.Invariants.{nth}

pub loop-i-init : goal.loop-i-init
loop-i-init c =
    let a = c.args in
    let o = a.contours.now.outline in
    let f : ℕ → ℕ → Bool = nth a.b.width o.colours.now o.coords.now a.c.from a.c.end in
    record { low = omega arith; high = c.requires.from_le_end.0; done = rw (sub_self a.c.from) (stroke_zero at_corner a.b f a.stencil.now) }

pub protect_corner-requires : goal.protect_corner-requires
protect_corner-requires c =
    let r = c.requires in record { stencilled = stroke_still at_corner _ _ r.stencilled c.loop-i.invariant.done; from_le_i = (c.loop-i.invariant.low, c.loop-i-test.true, r.from_le_end.1) }

pub loop-i-preserved : goal.loop-i-preserved
loop-i-preserved c =
    let from = c.args.c.from in
    let i = c.loop-i.i in
    let v = c.loop-i.invariant in
    let here : from + (i - from) ≡ i = omega (arith, v.low) in
    let next : i + 1 - from ≡ i - from + 1 = omega (arith, v.low) in
    record { low = omega (arith, v.low); high = omega arith; done = rw next (stroke_turn at_corner _ both_again _ _ _ v.done (λ k. rw here) c.protect_corner.ensures) }

pub returns : goal.returns
unfolding contour_hits
returns c =
    let e : c.loop-i.i ≡ c.args.c.end = omega (arith, c.loop-i.invariant.high) in
    rw e at c.loop-i.invariant.done

pub shape_of-stencil : goal.shape_of-stencil
shape_of-stencil c = c.loop-i.invariant.done.long
