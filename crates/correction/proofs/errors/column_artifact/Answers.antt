-- `correction::errors::column_artifact` meets its contract. Assumes nothing.
use mathlib.Core.Path.{◌≡◌, refl, sym, ◌∙◌}
use Prim.Native.Nat.{◌-◌, ◌*◌, ◌<◌, ◌≤◌}
use native.Mathlib.Omega.{arith}
use borrow.Author.Tests.{leb-true, leb-false, not-false}
use Rattle.inputs.specs.Window.{cell_in}
use Rattle.correction.proofs.bitmap.Centres.{texel_read, texel_held}
use Rattle.correction.proofs.errors.Beside.{in_bounds_law, before_row, past_row, known_alike, side_on, side_off, side_alike}
use Rattle.correction.proofs.errors.column_artifact.Goals as goal
use Rattle.correction.proofs.errors.column_artifact.Goals.{After-place-at, Then-ny-b, then-ny-gt0+then-ny-b+else-not-alike, else-ny-gt0, else-ny-gt0-via-then-ny-gt0+else-ny-b, else-ny-gt0-via-else-ny-gt0}

first : (c : Then-ny-b) → 0 < c.args.ny
first c = c.if-ny-gt0.true

last : (c : Then-ny-b) → c.args.ny ≤ c.args.b.height
last c = leb-true _ _ c.if-ny-b.true-raw

inside : (c : Then-ny-b) → c.args.ny - 1 < c.args.b.height
inside c = omega (arith, first c, last c)

pub alike-requires : goal.alike-requires
alike-requires c = let p = c.requires in record { stencilled = p.stencilled.0; x_lt_width = (p.x_lt_width.0, inside c) }

pub place-at-requires : goal.place-at-requires
place-at-requires c =
    let p = c.requires in record { fits = p.sampled.fits; x_lt_width = (p.x_lt_width.0, inside (goal.at.place-at-requires c).Then-ny-b, p.sampled.few) }

-- where the samples of the neighbour stand
placed : (c : After-place-at) → let a = c.args in c.place-at.result ≡ cell_in a.b a.t.x (a.ny - 1) * a.b.channels
placed c = c.place-at.ensures

pub side_artifact-requires : goal.side_artifact-requires
side_artifact-requires c =
    let p = c.requires in
    texel_held _ _ _ p.x_lt_width.0 (inside (goal.at.side_artifact-requires c).Then-ny-b) _ p.sampled (placed c)

pub returns-then-not-alike : goal.returns-then-not-alike
returns-then-not-alike c =
    let p = c.requires in
    (rw (texel_read _ _ _ p.x_lt_width.0 (inside (goal.at.returns-then-not-alike c).Then-ny-b) _ p.sampled (placed (goal.at.returns-then-not-alike c).After-place-at)) at c.side_artifact.ensures)
    ∙ side_on _ _ _ _ _ _ _ _ _ _ _ (in_bounds_law _ _ _ _ (omega arith) (omega (arith, p.x_lt_width.0)) (first (goal.at.returns-then-not-alike c).Then-ny-b) (last (goal.at.returns-then-not-alike c).Then-ny-b)) (omega arith) refl

pub overflow_sub-ny : goal.overflow_sub-ny
overflow_sub-ny c = first c

pub overflow_sub-ny-then-not-alike : goal.overflow_sub-ny-then-not-alike
overflow_sub-ny-then-not-alike c = first (goal.at.overflow_sub-ny-then-not-alike c).Then-ny-b

pub returns : goal.returns
returns c =
    let p = c.requires in
    let a = c.args in
    elim c.if-ny-gt0.branch [
      | then-ny-gt0+then-ny-b+else-not-alike w ↦
          let high : a.ny ≤ a.b.height = leb-true _ _ w.if-ny-b.true-raw in
          let l : a.ny - 1 < a.b.height = omega (arith, w.if-ny-gt0.true, high) in
          let k = known_alike a.b a.xs.now a.stencil.now _ _ _ _ p.stencilled.1 p.x_lt_width.1 p.x_lt_width.0 l (sym w.alike.ensures ∙ not-false _ w.if-not-alike.false-raw) in
          side_alike _ _ _ _ _ _ _ _ _ _ _ (in_bounds_law _ _ _ _ (omega arith) (omega (arith, p.x_lt_width.0)) w.if-ny-gt0.true high) (omega arith) refl k.0 k.1
      | else-ny-gt0 v ↦
          elim v.else-ny-gt0.branch [
            | else-ny-gt0-via-then-ny-gt0+else-ny-b w ↦ side_off _ _ _ _ _ _ _ _ _ (past_row _ _ _ _ w.if-ny-gt0.true (leb-false _ _ w.if-ny-b.false-raw))
            | else-ny-gt0-via-else-ny-gt0 w ↦ side_off _ _ _ _ _ _ _ _ _ (before_row _ _ _ _ w.if-ny-gt0.false)
          ]
    ]
