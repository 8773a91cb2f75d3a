-- `correction::cells::cell_at` meets its contract. Assumes nothing.
use Prim.Native.Nat.{◌+◌, ◌*◌, ◌≤◌}
use native.Mathlib.Omega.{arith}
use lib.ListN.{length}
use Rattle.correction.proofs.cells.cell_at.Goals as goal
use Rattle.correction.proofs.cells.cell_at.Goals.{Start}

-- the ten numbers of the cell are there
ten : (c : Start) → 10 * c.args.c + 10 ≤ length c.args.cells.now
ten c = c.requires.c_in_bounds.0

pub window_of-window-requires : goal.window_of-window-requires
window_of-window-requires c = let p = c.requires.area_inside in (rw c.area_at.ensures p.0, p.1, p.2)

pub returns : goal.returns
returns c =
    rw (c.window_of-window.ensures, c.area_at.ensures, c.settings_at-s.ensures, c.run_at-colours.ensures, c.run_at-coords.ensures, c.run_at-ends.ensures)

pub overflow_mul-at : goal.overflow_mul-at
overflow_mul-at c = omega (arith, ten (goal.at.overflow_mul-at c).Start, c.well_formed)

pub area_at-requires : goal.area_at-requires
area_at-requires c = ten (goal.at.area_at-requires c).Start

pub settings_at-s-requires : goal.settings_at-s-requires
settings_at-s-requires c = c.requires.c_in_bounds.1

pub overflow_add-at : goal.overflow_add-at
overflow_add-at c = omega (arith, ten (goal.at.overflow_add-at c).Start, c.well_formed)

pub run_at-colours-requires : goal.run_at-colours-requires
run_at-colours-requires c = omega (arith, ten (goal.at.run_at-colours-requires c).Start)

pub overflow_add-at-2 : goal.overflow_add-at-2
overflow_add-at-2 c = omega (arith, ten (goal.at.overflow_add-at-2 c).Start, c.well_formed)

pub run_at-coords-requires : goal.run_at-coords-requires
run_at-coords-requires c = omega (arith, ten (goal.at.run_at-coords-requires c).Start)

pub overflow_add-at-3 : goal.overflow_add-at-3
overflow_add-at-3 c = omega (arith, ten (goal.at.overflow_add-at-3 c).Start, c.well_formed)

pub run_at-ends-requires : goal.run_at-ends-requires
run_at-ends-requires c = omega (arith, ten (goal.at.run_at-ends-requires c).Start)
