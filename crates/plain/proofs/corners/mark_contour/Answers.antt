-- `plain::corners::mark_contour` meets its contract: after each turn the stencil is painted by the segments before i, and `last` is the colour of the one that comes before i, cyclic. Assumes nothing.
use Rattle.std.proofs.Common.{◌≡◌, ℕ, ◌+◌, ◌-◌, Bool, refl, ◌∙◌, arith, lt-ltb, eq-eqb, ne_eqb}
use native.Mathlib.Nat.{sub_self}
use Rattle.ground.proofs.Laws.Painted.{painted_zero, painted_turn}
use Rattle.correction.specs.Numbered.{corner_hits, contour_hits}
use Rattle.plain.specs.Inner.{corner}
use Rattle.plain.proofs.corners.mark_contour.Goals as goal
use Rattle.plain.proofs.corners.mark_contour.Invariants.{nth}

pub loop-i-init : goal.loop-i-init
loop-i-init c =
    let a = c.args in
    let f : ℕ → ℕ → Bool = nth a.b.width a.all.now.colours.now a.all.now.coords.now a.from a.end in
    record {
      low = omega arith;
      high = c.requires.within.0;
      known = λ l. c.last_colour-last.ensures ∙ simp (lt-ltb a.from a.end l, eq-eqb a.from a.from refl);
      done = rw (sub_self a.from) (painted_zero corner f a.stencil.now);
    }

pub loop-i-preserved : goal.loop-i-preserved
unfolding corner_hits
loop-i-preserved c =
    let from = c.args.from in
    let i = c.loop-i.i in
    let v = c.loop-i.invariant in
    let here : from + (i - from) ≡ i = omega (arith, v.low) in
    let next : i + 1 - from ≡ i - from + 1 = omega (arith, v.low) in
    let back : i + 1 - 1 ≡ i = omega arith in
    record {
      low = omega (arith, v.low);
      high = omega (arith, c.loop-i-test.true);
      known = λ p. simp (ne_eqb (i + 1) from (omega (arith, v.low)), back);
      done = rw next (painted_turn corner (λ v. refl) _ _ _ _ v.done _ _ (λ k. rw (here, v.known c.loop-i-test.true)) c.mark_segment.ensures);
    }

pub returns : goal.returns
unfolding contour_hits
returns c =
    let e : c.loop-i.i ≡ c.args.end = omega (arith, c.loop-i.invariant.high) in
    rw e at c.loop-i.invariant.done
