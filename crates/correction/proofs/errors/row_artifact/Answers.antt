-- `correction::errors::row_artifact` meets its contract. Assumes nothing.
use mathlib.Core.Path.{◌≡◌, refl, sym, ◌∙◌}
use Prim.Native.Nat.{◌-◌, ◌*◌, ◌<◌, ◌≤◌}
use native.Mathlib.Omega.{arith}
use borrow.Author.Tests.{leb-true, leb-false, not-false}
use Rattle.inputs.specs.Window.{cell_in}
use Rattle.correction.proofs.bitmap.Centres.{texel_read, texel_held}
use Rattle.correction.proofs.errors.Beside.{in_bounds_law, before_column, past_column, known_alike, side_on, side_off, side_alike}
use Rattle.correction.proofs.errors.row_artifact.Goals as goal
use Rattle.correction.proofs.errors.row_artifact.Goals.{After-place-at, Then-nx-b, then-nx-gt0+then-nx-b+else-not-alike, else-nx-gt0, else-nx-gt0-via-then-nx-gt0+else-nx-b, else-nx-gt0-via-else-nx-gt0}

first : (c : Then-nx-b) → 0 < c.args.nx
first c = c.if-nx-gt0.true

last : (c : Then-nx-b) → c.args.nx ≤ c.args.b.width
last c = leb-true _ _ c.if-nx-b.true-raw

inside : (c : Then-nx-b) → c.args.nx - 1 < c.args.b.width
inside c = omega (arith, first c, last c)

pub alike-requires : goal.alike-requires
alike-requires c = let p = c.requires in record { stencilled = p.stencilled.0; x_lt_width = (inside c, p.y_lt_height.0) }

pub place-at-requires : goal.place-at-requires
place-at-requires c =
    let p = c.requires in record { fits = p.sampled.fits; x_lt_width = (inside (goal.at.place-at-requires c).Then-nx-b, p.y_lt_height.0, p.sampled.few) }

-- where the samples of the neighbour stand
placed : (c : After-place-at) → let a = c.args in c.place-at.result ≡ cell_in a.b (a.nx - 1) a.t.y * a.b.channels
placed c = c.place-at.ensures

pub side_artifact-requires : goal.side_artifact-requires
side_artifact-requires c =
    let p = c.requires in
    texel_held _ _ _ (inside (goal.at.side_artifact-requires c).Then-nx-b) p.y_lt_height.0 _ p.sampled (placed c)

pub returns-then-not-alike : goal.returns-then-not-alike
returns-then-not-alike c =
    let p = c.requires in
    (rw (texel_read _ _ _ (inside (goal.at.returns-then-not-alike c).Then-nx-b) p.y_lt_height.0 _ p.sampled (placed (goal.at.returns-then-not-alike c).After-place-at)) at c.side_artifact.ensures)
    ∙ side_on _ _ _ _ _ _ _ _ _ _ _ (in_bounds_law _ _ _ _ (first (goal.at.returns-then-not-alike c).Then-nx-b) (last (goal.at.returns-then-not-alike c).Then-nx-b) (omega arith) (omega (arith, p.y_lt_height.0))) refl (omega arith)

pub overflow_sub-nx : goal.overflow_sub-nx
overflow_sub-nx c = first c

pub overflow_sub-nx-then-not-alike : goal.overflow_sub-nx-then-not-alike
overflow_sub-nx-then-not-alike c = first (goal.at.overflow_sub-nx-then-not-alike c).Then-nx-b

pub returns : goal.returns
returns c =
    let p = c.requires in
    let a = c.args in
    elim c.if-nx-gt0.branch [
      | then-nx-gt0+then-nx-b+else-not-alike w ↦
          let high : a.nx ≤ a.b.width = leb-true _ _ w.if-nx-b.true-raw in
          let l : a.nx - 1 < a.b.width = omega (arith, w.if-nx-gt0.true, high) in
          let k = known_alike a.b a.xs.now a.stencil.now _ _ _ _ p.stencilled.1 p.y_lt_height.1 l p.y_lt_height.0 (sym w.alike.ensures ∙ not-false _ w.if-not-alike.false-raw) in
          side_alike _ _ _ _ _ _ _ _ _ _ _ (in_bounds_law _ _ _ _ w.if-nx-gt0.true high (omega arith) (omega (arith, p.y_lt_height.0))) refl (omega arith) k.0 k.1
      | else-nx-gt0 v ↦
          elim v.else-nx-gt0.branch [
            | else-nx-gt0-via-then-nx-gt0+else-nx-b w ↦ side_off _ _ _ _ _ _ _ _ _ (past_column _ _ _ _ w.if-nx-gt0.true (leb-false _ _ w.if-nx-b.false-raw))
            | else-nx-gt0-via-else-nx-gt0 w ↦ side_off _ _ _ _ _ _ _ _ _ (before_column _ _ _ _ w.if-nx-gt0.false)
          ]
    ]
