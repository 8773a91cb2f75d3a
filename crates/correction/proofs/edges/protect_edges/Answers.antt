-- `correction::edges::protect_edges` meets its contract: before row y the rows below it are given, and its medians are in the room. Assumes nothing.
use mathlib.Core.Path.{◌≡◌, refl, sym, ◌∙◌, subst}
use mathlib.Core.List.{List}
use Prim.Native.Nat.{ℕ, ◌*◌, ◌<◌, ◌≤◌}
use native.Mathlib.Omega.{arith}
use lib.ListN.{length}
use lib.Ieee.{Float}
use Rattle.ground.proofs.Laws.Picked.{pasted_as}
use Rattle.inputs.specs.Window.{cell_shown, cut_cells, cut_samples}
use Rattle.inputs.proofs.Laws.Windows.{still_stencilled}
use Rattle.correction.specs.declared.edges.Radii.{Radii}
use Rattle.correction.specs.Inner.{Medians, Rows}
use Rattle.correction.proofs.bitmap.Stretch.{rows_none, rows_next, rows_all, upto_long}
use Rattle.correction.proofs.edges.Room.{row_kept}
use Rattle.correction.proofs.edges.Byte.{byte, row_painted, all_painted}
use Rattle.correction.proofs.edges.protect_edges.Goals as goal
use Rattle.correction.proofs.edges.protect_edges.Goals.{After-radius-3, At-loop-y, Joined-b-gt0, Joined-y-b, then-b-gt0, else-b-gt0, then-y-b, else-y-b}

-- the radii of the three lengths
abbrev radii : After-radius-3 → Radii
radii c = record { horizontal = c.radius.result; vertical = c.radius-2.result; diagonal = c.radius-3.result }

pub write_medians-requires : goal.write_medians-requires
write_medians-requires c =
    let p = c.requires in record { sampled = p.sampled; y_lt_height = c.if-b-gt0.true }

-- the room before the loop
first : (c : Joined-b-gt0) → let a = c.args in (length c.if-b-gt0.room ≡ length a.room.now) × (0 < a.b.height → Medians a.b a.xs.now c.if-b-gt0.room 0)
first c =
    let a = c.args in
    let g : List Float → Type 0 = λ (room : List Float). (length room ≡ length a.room.now) × (0 < a.b.height → Medians a.b a.xs.now room 0) in
    elim c.if-b-gt0.branch [
      | then-b-gt0 w ↦ subst g (sym w.room-is) (w.write_medians.auto.room, λ h. w.write_medians.ensures.here)
      | else-b-gt0 w ↦ subst g (sym w.room-is) (refl, λ h. absurd (omega (arith, w.if-b-gt0.false)))
    ]

pub loop-y-init : goal.loop-y-init
loop-y-init c =
    let a = c.args in
    record { few = omega arith; long = refl; there = (first c).1; done = rows_none (byte (cut_samples a.b a.xs.now) a.b (radii (goal.at.loop-y-init c).After-radius-3)) _ _ }

-- the room is long enough all the time
ample : (c : At-loop-y) → let a = c.args in 2 * a.b.width ≤ length c.loop-y.room
ample c =
    omega (arith, c.loop-y.invariant.long, (first (goal.at.At-loop-y c).Joined-b-gt0).0, c.requires.sampled.1)

pub write_medians-requires-then-y-b : goal.write_medians-requires-then-y-b
write_medians-requires-then-y-b c =
    let p = c.requires in record { sampled = (p.sampled.0, ample (goal.at.write_medians-requires-then-y-b c).At-loop-y); y_lt_height = c.if-y-b.true }

-- the room in a turn
second : (c : Joined-y-b) → let a = c.args in (length c.if-y-b.room ≡ length c.loop-y.room) × Rows a.b a.xs.now c.if-y-b.room c.loop-y.y
second c =
    let a = c.args in
    let g : List Float → Type 0 = λ (room : List Float). (length room ≡ length c.loop-y.room) × Rows a.b a.xs.now room c.loop-y.y in
    let own = c.loop-y.invariant.there c.loop-y-test.true in
    elim c.if-y-b.branch [
      | then-y-b w ↦ subst g (sym w.room-is) (w.write_medians-then-y-b.auto.room, record { own = row_kept a.b a.xs.now c.loop-y.room w.write_medians-then-y-b.new.room _ own w.write_medians-then-y-b.ensures.there; next = λ h. w.write_medians-then-y-b.ensures.here })
      | else-y-b w ↦ subst g (sym w.room-is) (refl, record { own = own; next = λ h. absurd (omega (arith, w.if-y-b.false)) })
    ]

pub protect_row-requires : goal.protect_row-requires
protect_row-requires c =
    let p = c.requires in record { sampled = (p.sampled.0, omega (arith, ample (goal.at.protect_row-requires c).At-loop-y, (second (goal.at.protect_row-requires c).Joined-y-b).0)); stencilled = still_stencilled _ p.stencilled _ (upto_long _ _ _ c.loop-y.invariant.done); y_lt_height = (c.loop-y-test.true, (second (goal.at.protect_row-requires c).Joined-y-b).1) }

pub loop-y-preserved : goal.loop-y-preserved
loop-y-preserved c =
    let a = c.args in
    let n : ℕ = a.b.height * a.b.width in
    let v = c.loop-y.invariant in
    record {
      few = omega (arith, c.loop-y-test.true);
      long = (second (goal.at.loop-y-preserved c).Joined-y-b).0 ∙ v.long;
      there = (second (goal.at.loop-y-preserved c).Joined-y-b).1.next;
      done = rows_next (byte (cut_samples a.b a.xs.now) a.b (radii (goal.at.loop-y-preserved c).After-radius-3)) _ _ v.done c.requires.stencilled c.loop-y-test.true (pasted_as 0 n (cell_shown a.b) c.protect_row.ensures (sym (row_painted (cut_samples a.b a.xs.now) a.b _ c.loop-y.y (cut_cells a.b c.loop-y.stencil))));
    }

pub shape_of-room : goal.shape_of-room
shape_of-room c = c.loop-y.invariant.long ∙ (first (goal.at.shape_of-room c).Joined-b-gt0).0

pub returns : goal.returns
returns c =
    let a = c.args in
    let n : ℕ = a.b.height * a.b.width in
    pasted_as 0 n (cell_shown a.b) (rows_all (byte (cut_samples a.b a.xs.now) a.b (radii (goal.at.returns c).After-radius-3)) _ _ c.loop-y.invariant.done c.loop-y-test.false)
    (all_painted (cut_samples a.b a.xs.now) a.b a.s _ _ _ c.radius.ensures c.radius-2.ensures c.radius-3.ensures (cut_cells a.b a.stencil.now))

pub radius-requires : goal.radius-requires
radius-requires c = tt

pub radius-requires-2 : goal.radius-requires-2
radius-requires-2 c = tt

pub radius-requires-3 : goal.radius-requires-3
radius-requires-3 c = tt

pub overflow_add-y : goal.overflow_add-y
overflow_add-y c = omega (arith, c.loop-y-test.true, c.requires.stencilled.fits.high)

pub overflow_add-y-then-y-b : goal.overflow_add-y-then-y-b
overflow_add-y-then-y-b c = omega (arith, c.loop-y-test.true, c.requires.stencilled.fits.high)

pub shape_of-stencil : goal.shape_of-stencil
shape_of-stencil c = upto_long _ _ _ c.loop-y.invariant.done
