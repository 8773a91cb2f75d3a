-- `correction::errors::upper_artifact` meets its contract: where the orders leave no pair in doubt there is nothing to find. Assumes nothing.
use mathlib.Core.Path.{◌≡◌, refl, sym, ◌∙◌}
use mathlib.Core.Bool.{◌&&◌}
use Prim.Native.Nat.{◌+◌, ◌-◌, ◌<◌, ◌≤◌}
use native.Mathlib.Omega.{arith}
use lib.Dec.{leb, ltb}
use borrow.Author.Tests.{ltb-true, leb-true, lt-ltb, le-ltb}
use Rattle.ground.proofs.Laws.Bools.{and_taken, and_left, both_hold}
use Rattle.detectors.specs.Orders.{doubt, Doubts, order_code}
use Rattle.inputs.specs.Window.{cut_samples}
use Rattle.correction.specs.Bitmap.{texel}
use Rattle.correction.specs.Inner.{four_at, four_of}
use Rattle.correction.proofs.bitmap.Centres.{texel_held}
use Rattle.correction.proofs.errors.Beside.{in_bounds_law, past_row, outside_column, known_doubt, four_read, across_on, across_off, across_clear}
use Rattle.correction.proofs.errors.upper_artifact.Goals as goal
use Rattle.correction.proofs.errors.upper_artifact.Goals.{After-doubt_towards-q, After-place-across, Joined-nx-gt0, Then-nx-b, then-nx-gt0, else-nx-gt0, then-t-b+then-nx-b+else-q-gt0, else-t-b, else-t-b-via-then-t-b+else-nx-b, else-t-b-via-else-t-b}

-- the test of the column
flag : (c : Joined-nx-gt0) → let a = c.args in c.if-nx-gt0.t-16 ≡ (ltb 0 a.nx && leb a.nx a.b.width)
flag c = elim c.if-nx-gt0.branch [ then-nx-gt0 w ↦ and_taken refl (lt-ltb _ _ w.if-nx-gt0.true) w.t-16-is | else-nx-gt0 w ↦ w.t-16-is ∙ and_left _ refl (le-ltb _ _ w.if-nx-gt0.false) ]

-- where the neighbour lies that is inside
first : (c : Then-nx-b) → 0 < c.args.nx
first c = ltb-true _ _ (both_hold _ _ (sym (flag (goal.at.Then-nx-b c).Joined-nx-gt0) ∙ c.if-nx-b.true-raw)).0

last : (c : Then-nx-b) → c.args.nx ≤ c.args.b.width
last c = leb-true _ _ (both_hold (ltb 0 c.args.nx) _ (sym (flag (goal.at.Then-nx-b c).Joined-nx-gt0) ∙ c.if-nx-b.true-raw)).1

across : (c : Then-nx-b) → c.args.nx - 1 < c.args.b.width
across c = omega (arith, first c, last c)

row : (c : Then-nx-b) → c.args.t.y + 1 < c.args.b.height
row c = c.if-t-b.true

-- the pairs in doubt
known : (c : After-doubt_towards-q) → let a = c.args in let tex = texel (cut_samples a.b a.xs.now) a.b.width a.b.channels in
    (c.doubt_towards-q.result ≡ doubt (order_code a.t.texel) (order_code (tex (a.nx - 1) a.t.y)) (order_code (tex a.t.x (a.t.y + 1))) (order_code (tex (a.nx - 1) (a.t.y + 1))))
    × Doubts c.doubt_towards-q.result (four_of tex a.t.texel a.t.x a.t.y (a.nx - 1) (a.t.y + 1))
known c =
    let p = c.requires in
    let a = c.args in
    known_doubt a.b a.xs.now a.stencil.now p.stencilled.1 a.t.texel a.o a.t.x a.t.y (a.nx - 1) (a.t.y + 1) p.x_lt_width.2 p.x_lt_width.0 p.x_lt_width.1 (across (goal.at.After-doubt_towards-q c).Then-nx-b) (row (goal.at.After-doubt_towards-q c).Then-nx-b) c.doubt_towards-q.ensures

pub doubt_towards-q-requires : goal.doubt_towards-q-requires
doubt_towards-q-requires c =
    let p = c.requires in record { stencilled = p.stencilled.0; x_lt_width = (across (goal.at.doubt_towards-q-requires c).Then-nx-b, row (goal.at.doubt_towards-q-requires c).Then-nx-b, p.x_lt_width.0, p.x_lt_width.1) }

pub place-row-requires : goal.place-row-requires
place-row-requires c = let p = c.requires in record { fits = p.sampled.fits; x_lt_width = (across (goal.at.place-row-requires c).Then-nx-b, p.x_lt_width.1, p.sampled.few) }

pub place-column-requires : goal.place-column-requires
place-column-requires c = let p = c.requires in record { fits = p.sampled.fits; x_lt_width = (p.x_lt_width.0, row (goal.at.place-column-requires c).Then-nx-b, p.sampled.few) }

pub place-across-requires : goal.place-across-requires
place-across-requires c = let p = c.requires in record { fits = p.sampled.fits; x_lt_width = (across (goal.at.place-across-requires c).Then-nx-b, row (goal.at.place-across-requires c).Then-nx-b, p.sampled.few) }

-- the four texels are those that are read
read : (c : After-place-across) → let a = c.args in
    four_at a.xs.now a.t.texel c.place-row.result c.place-column.result c.place-across.result
    ≡ four_of (texel (cut_samples a.b a.xs.now) a.b.width a.b.channels) a.t.texel a.t.x a.t.y (a.nx - 1) (a.t.y + 1)
read c =
    let p = c.requires in
    four_read _ _ p.sampled _ _ _ _ _ p.x_lt_width.0 p.x_lt_width.1 (across (goal.at.After-place-across c).Then-nx-b) (row (goal.at.After-place-across c).Then-nx-b) c.place-row.ensures c.place-column.ensures c.place-across.ensures

pub diagonal_artifact-requires : goal.diagonal_artifact-requires
diagonal_artifact-requires c =
    let p = c.requires in record { row_in_bounds = (texel_held _ _ _ (across (goal.at.diagonal_artifact-requires c).Then-nx-b) p.x_lt_width.1 _ p.sampled c.place-row.ensures, texel_held _ _ _ p.x_lt_width.0 (row (goal.at.diagonal_artifact-requires c).Then-nx-b) _ p.sampled c.place-column.ensures, texel_held _ _ _ (across (goal.at.diagonal_artifact-requires c).Then-nx-b) (row (goal.at.diagonal_artifact-requires c).Then-nx-b) _ p.sampled c.place-across.ensures); doubts = rw (read c) (known (goal.at.diagonal_artifact-requires c).After-doubt_towards-q).1 }

pub returns-then-q-gt0 : goal.returns-then-q-gt0
returns-then-q-gt0 c =
    (rw (read (goal.at.returns-then-q-gt0 c).After-place-across) at c.diagonal_artifact.ensures)
    ∙ across_on _ _ _ _ _ _ _ _ _ _ _ _ _ (in_bounds_law _ _ _ _ (first (goal.at.returns-then-q-gt0 c).Then-nx-b) (last (goal.at.returns-then-q-gt0 c).Then-nx-b) (omega arith) (omega (arith, row (goal.at.returns-then-q-gt0 c).Then-nx-b))) refl (omega arith)

pub overflow_sub-nx : goal.overflow_sub-nx
overflow_sub-nx c = first c

pub overflow_sub-nx-then-q-gt0 : goal.overflow_sub-nx-then-q-gt0
overflow_sub-nx-then-q-gt0 c = first (goal.at.overflow_sub-nx-then-q-gt0 c).Then-nx-b

pub overflow_sub-nx-then-q-gt0-2 : goal.overflow_sub-nx-then-q-gt0-2
overflow_sub-nx-then-q-gt0-2 c = first (goal.at.overflow_sub-nx-then-q-gt0-2 c).Then-nx-b

pub returns : goal.returns
returns c =
    let p = c.requires in
    let a = c.args in
    elim c.if-t-b.branch [
      | then-t-b+then-nx-b+else-q-gt0 w ↦
          let test : w.if-nx-gt0.t-16 ≡ (ltb 0 a.nx && leb a.nx a.b.width) = elim w.if-nx-gt0.branch [ then-nx-gt0 v ↦ and_taken refl (lt-ltb _ _ v.if-nx-gt0.true) v.t-16-is | else-nx-gt0 v ↦ v.t-16-is ∙ and_left _ refl (le-ltb _ _ v.if-nx-gt0.false) ] in
          let both = both_hold (ltb 0 a.nx) _ (sym test ∙ w.if-nx-b.true-raw) in
          let from_left : 0 < a.nx = ltb-true _ _ both.0 in
          let from_right : a.nx ≤ a.b.width = leb-true _ _ both.1 in
          let k = known_doubt a.b a.xs.now a.stencil.now p.stencilled.1 a.t.texel a.o a.t.x a.t.y (a.nx - 1) (a.t.y + 1) p.x_lt_width.2 p.x_lt_width.0 p.x_lt_width.1 (omega (arith, from_left, from_right)) (w.if-t-b.true) w.doubt_towards-q.ensures in
          let z : w.doubt_towards-q.result ≡ 0 = omega (arith, w.if-q-gt0.false) in
          across_clear _ _ _ _ _ _ _ _ _ _ _ _ _ (in_bounds_law _ _ _ _ from_left from_right (omega arith) (omega (arith, w.if-t-b.true))) refl (omega arith) (sym k.0 ∙ z)
      | else-t-b u ↦
          elim u.else-t-b.branch [
            | else-t-b-via-then-t-b+else-nx-b w ↦
                let test : w.if-nx-gt0.t-16 ≡ (ltb 0 a.nx && leb a.nx a.b.width) = elim w.if-nx-gt0.branch [ then-nx-gt0 v ↦ and_taken refl (lt-ltb _ _ v.if-nx-gt0.true) v.t-16-is | else-nx-gt0 v ↦ v.t-16-is ∙ and_left _ refl (le-ltb _ _ v.if-nx-gt0.false) ] in
                across_off _ _ _ _ _ _ _ _ _ _ _ (outside_column _ _ _ _ (sym test ∙ w.if-nx-b.false-raw))
            | else-t-b-via-else-t-b w ↦ across_off _ _ _ _ _ _ _ _ _ _ _ (past_row _ _ _ _ (omega arith) (omega (arith, w.if-t-b.false)))
          ]
    ]
