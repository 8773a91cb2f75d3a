-- `correction::cells::overlaps_earlier` meets its contract: no cell before the loop's overlaps the cell. Assumes nothing.
use mathlib.Core.Path.{◌≡◌, sym, ◌∙◌}
use native.Mathlib.Nat.{le_antisymm}
use native.Mathlib.Omega.{arith}
use Rattle.ground.proofs.Laws.Search.{search_none, search_more, any_at}
use Rattle.correction.specs.Sheet.{area_at, overlap, overlaps_earlier}
use Rattle.correction.proofs.cells.overlaps_earlier.Goals as goal
use Rattle.correction.proofs.cells.overlaps_earlier.Goals.{After-overlap}

pub area_at-requires : goal.area_at-requires
area_at-requires c = omega (arith, c.requires.c_in_bounds.0, c.loop-d-test.true)

pub overlap-requires : goal.overlap-requires
overlap-requires c =
    (rw c.area_at.ensures (c.requires.areas_inside c.loop-d.d (omega (arith, c.loop-d-test.true))), rw c.area_at-a.ensures (c.requires.areas_inside c.args.c (omega arith)))

-- the test of the turn's cell
tested : (c : After-overlap) → let a = c.args in c.overlap.result ≡ overlap (area_at a.cells.now c.loop-d.d) (area_at a.cells.now a.c)
tested c = rw (← c.area_at.ensures, ← c.area_at-a.ensures) c.overlap.ensures

pub returns-then-overlap : goal.returns-then-overlap
unfolding overlaps_earlier
returns-then-overlap c =
    let a = c.args in
    sym (any_at (λ d. overlap (area_at a.cells.now d) (area_at a.cells.now a.c)) a.c c.loop-d.d c.loop-d-test.true (sym (tested (goal.at.returns-then-overlap c).After-overlap) ∙ c.if-overlap.true))

pub loop-d-preserved : goal.loop-d-preserved
loop-d-preserved c =
    search_more c.loop-d.invariant c.loop-d-test.true (tested (goal.at.loop-d-preserved c).After-overlap) c.if-overlap.false

pub returns : goal.returns
unfolding overlaps_earlier
returns c =
    let s = c.loop-d.invariant in
    let e : c.loop-d.d ≡ c.args.c = le_antisymm s.high c.loop-d-test.false in
    sym (rw e at s.none)

pub loop-d-init : goal.loop-d-init
loop-d-init c = search_none _ _
