-- `correction::errors::find_in_row` meets its contract: a turn stores at one texel and passes over the settled ones behind it. Assumes nothing.
use mathlib.Core.Path.{◌≡◌, refl, sym, subst}
use mathlib.Core.List.{List}
use Prim.Native.Nat.{ℕ, ◌+◌, ◌%◌, ◌<◌}
use native.Mathlib.Nat.{le_antisymm}
use native.Mathlib.Omega.{arith}
use lib.ListN.{length, set}
use Rattle.inputs.specs.Window.{cell_in}
use Rattle.inputs.specs.Inner.{Stencilled}
use Rattle.inputs.proofs.Laws.Windows.{still_stencilled}
use Rattle.correction.specs.Inner.{Ordered, Scanned}
use Rattle.correction.proofs.bitmap.Stretch.{upto_long}
use Rattle.correction.proofs.errors.Nearby.{scan_first, scan_next}
use Rattle.correction.proofs.errors.Rows.{Found, found_none, found_ordered, found_scan, found_kept, found_few, found_next, found_run, found_all, found_made}
use Rattle.correction.proofs.errors.find_in_row.Goals as goal
use Rattle.correction.proofs.errors.find_in_row.Goals.{After-marked_byte, In-loop-at}

pub column-first-requires : goal.column-first-requires
column-first-requires c =
    let p = c.requires in record { stencilled = p.stencilled.0; x_lt_width = (omega (arith, p.sampled.fits.any), p.y_lt_height) }

pub settle-at-requires : goal.settle-at-requires
settle-at-requires c = record { stencilled = c.requires.stencilled.0; y_lt_height = (c.requires.y_lt_height, scan_first c.args.b c.args.stencil.now c.args.y _ c.column-first.ensures refl refl refl) }

pub loop-at-init : goal.loop-at-init
loop-at-init c =
    let a = c.args in
    let p = c.requires in
    let q = c.settle-at.ensures in
    (found_run a.b a.xs.now a.s.now a.stencil.now a.y p.stencilled.0 p.stencilled.1 p.y_lt_height (found_none a.b a.xs.now a.s.now a.stencil.now a.y p.stencilled.0 p.stencilled.1 p.y_lt_height) _ q.1 q.0.few q.2, q.0)

-- what a turn finds before it stores
module _ (c : In-loop-at) where
  stencilled : Stencilled c.args.b c.loop-at.stencil
  stencilled = still_stencilled c.args.b c.requires.stencilled.0 c.loop-at.stencil (upto_long _ _ _ c.loop-at.invariant.0.cells)

  ordered : Ordered c.args.b c.args.xs.now c.loop-at.stencil
  ordered = found_ordered _ _ _ _ _ c.requires.stencilled.0 c.requires.stencilled.1 c.requires.y_lt_height c.loop-at.invariant.0

  place : {k : ℕ} → k ≡ cell_in c.args.b c.loop-at.at.x c.args.y → k < length c.loop-at.stencil
  place e = subst (λ (n : ℕ). n < length c.loop-at.stencil) (sym e) (stencilled.held _ _ c.loop-at-test.true c.requires.y_lt_height)

pub cell-k-requires : goal.cell-k-requires
cell-k-requires c = let p = c.requires in record { fits = p.sampled.fits; x_lt_width = (c.loop-at-test.true, p.y_lt_height) }

pub bounds-stencil-k : goal.bounds-stencil-k
bounds-stencil-k c = place (goal.at.bounds-stencil-k c).In-loop-at c.cell-k.ensures

pub verdict_at-v-requires : goal.verdict_at-v-requires
verdict_at-v-requires c = record { sampled = c.requires.sampled; stencilled = (stencilled (goal.at.verdict_at-v-requires c).In-loop-at, ordered (goal.at.verdict_at-v-requires c).In-loop-at); x_lt_width = (c.loop-at-test.true, c.requires.y_lt_height, rw c.cell-k.ensures) }

pub bounds-stencil-k-in-loop-at : goal.bounds-stencil-k-in-loop-at
bounds-stencil-k-in-loop-at c = place (goal.at.bounds-stencil-k-in-loop-at c).In-loop-at c.cell-k.ensures

pub overflow_add-tests : goal.overflow_add-tests
overflow_add-tests c =
    let p = c.requires in
    omega (arith, found_few _ _ _ _ _ p.stencilled.0 p.stencilled.1 p.y_lt_height c.loop-at.invariant.0 c.loop-at.invariant.1.few)

-- after the store
module _ (c : After-marked_byte) where
  abbrev k : ℕ
  k = c.cell-k.result

  abbrev st : List ℕ
  st = set c.loop-at.stencil k c.marked_byte.result

  found : Found c.args.b c.args.xs.now c.args.s.now c.args.stencil.now c.args.y (c.loop-at.at.x + 1) st (c.loop-at.tests + c.verdict_at-v.result % 128)
  found = found_next _ _ _ _ _ c.requires.stencilled.0 c.requires.stencilled.1 c.requires.y_lt_height c.loop-at.invariant.0 k c.loop-at-test.true c.cell-k.ensures c.verdict_at-v.ensures c.marked_byte.ensures

  scanned : Scanned c.args.b st c.args.y c.loop-at.at
  scanned = found_scan _ _ _ _ _ c.requires.stencilled.0 c.requires.stencilled.1 c.requires.y_lt_height found c.loop-at.invariant.1

  stored : Stencilled c.args.b st
  stored = still_stencilled c.args.b c.requires.stencilled.0 st (upto_long _ _ _ found.cells)

pub step-requires : goal.step-requires
step-requires c = record { stencilled = stored (goal.at.step-requires c).After-marked_byte; x_lt_width = (c.loop-at-test.true, c.requires.y_lt_height) }

pub settle-at-requires-in-loop-at : goal.settle-at-requires-in-loop-at
settle-at-requires-in-loop-at c = record { stencilled = stored (goal.at.settle-at-requires-in-loop-at c).After-marked_byte; y_lt_height = (c.requires.y_lt_height, scan_next c.args.b (st (goal.at.settle-at-requires-in-loop-at c).After-marked_byte) c.args.y c.loop-at.at _ (scanned (goal.at.settle-at-requires-in-loop-at c).After-marked_byte) c.loop-at-test.true c.step.ensures) }

pub loop-at-smaller : goal.loop-at-smaller
loop-at-smaller c =
    omega (arith, c.settle-at-in-loop-at.ensures.1, c.step.ensures.0, c.loop-at-test.true)

pub loop-at-preserved : goal.loop-at-preserved
loop-at-preserved c =
    let p = c.requires in
    let q = c.settle-at-in-loop-at.ensures in
    let e : c.step.result.x ≡ c.loop-at.at.x + 1 = c.step.ensures.0 in
    let i : Found c.args.b c.args.xs.now c.args.s.now c.args.stencil.now c.args.y c.step.result.x (st (goal.at.loop-at-preserved c).After-marked_byte) (c.loop-at.tests + c.verdict_at-v.result % 128) =
    subst (λ (x : ℕ). Found c.args.b c.args.xs.now c.args.s.now c.args.stencil.now c.args.y x (st (goal.at.loop-at-preserved c).After-marked_byte) (c.loop-at.tests + c.verdict_at-v.result % 128)) (sym e) (found (goal.at.loop-at-preserved c).After-marked_byte) in
    (rw c.tests-tests.ensures (found_run _ _ _ _ _ p.stencilled.0 p.stencilled.1 p.y_lt_height i _ q.1 q.0.few q.2), found_kept _ _ _ _ _ p.stencilled.0 p.stencilled.1 p.y_lt_height (found (goal.at.loop-at-preserved c).After-marked_byte) q.0)

pub shape_of-stencil : goal.shape_of-stencil
shape_of-stencil c = upto_long _ _ _ c.loop-at.invariant.0.cells

pub returns : goal.returns
returns c =
    let p = c.requires in
    let i = c.loop-at.invariant in record { finds = found_all _ _ _ _ _ p.stencilled.0 p.stencilled.1 p.y_lt_height i.0 c.loop-at-test.false; makes = found_made _ _ _ _ _ p.stencilled.0 p.stencilled.1 p.y_lt_height i.0 (le_antisymm i.1.few c.loop-at-test.false) }
