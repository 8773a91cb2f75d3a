-- `correction::sheet::correct_cell` meets its contract: what is handed to the engine is the cell alone. Assumes nothing.
use mathlib.Core.Path.{◌≡◌}
use mathlib.Core.List.{[]}
use lib.ListN.{length, get_or}
use Rattle.std.proofs.lemmas.Option.{MatchOption-at_some}
use Rattle.ranges.specs.Config.{mode_number}
use Rattle.inputs.proofs.Laws.Windows.{still_stencilled}
use Rattle.correction.specs.Sheet.{Sheet, sheet}
use Rattle.correction.proofs.sheet.Laid.{sampled, stencilled}
use Rattle.correction.proofs.sheet.Handed.{Held, cell_there, runs_held, room_enough, sampled_as, stencilled_as, cleared_as, leaves, writes, tallied}
use Rattle.correction.proofs.sheet.correct_cell.Goals as goal
use Rattle.correction.proofs.sheet.correct_cell.Goals.{After-cell_at-k, Start}

-- the sheet
abbrev given : Start → Sheet
given c =
    let a = c.args in
    sheet a.b.width a.b.height a.b.channels a.xs.now a.stencil.now [] a.cells.now a.modes.now a.settings.now a.outline.colours.now a.outline.coords.now a.outline.ends.now

-- each run ends in its list
held : (c : After-cell_at-k) → let a = c.args in Held c.cell_at-k.result (length a.outline.colours.now) (length a.outline.coords.now) (length a.outline.ends.now)
held c = runs_held (given (goal.at.After-cell_at-k c).Start) c.args.c c.cell_at-k.result c.cell_at-k.ensures c.requires.laid.0 c.requires.laid.1

pub outline-requires : goal.outline-requires
outline-requires c =
    let h = held (goal.at.outline-requires c).After-cell_at-k in record { colours = h.colours; coords = h.coords; ends = h.ends }

pub correct-tests-requires : goal.correct-tests-requires
correct-tests-requires c =
    let g = given (goal.at.correct-tests-requires c).Start in
    let n = c.args.c in
    let r = c.cell_at-k.result in
    let e = c.cell_at-k.ensures in record { sampled = (sampled_as g n r e (sampled g n c.requires.laid.0 c.requires.laid.1), room_enough g n r e c.requires.laid.0 c.requires.laid.1 c.requires.width_in_bounds); stencilled = (stencilled_as g n r e (stencilled g n c.requires.laid.0 c.requires.stencil_len c.requires.laid.1), cleared_as g n r e c.requires.cleared) }

pub count_cells-requires : goal.count_cells-requires
count_cells-requires c =
    still_stencilled _ (stencilled_as (given (goal.at.count_cells-requires c).Start) c.args.c c.cell_at-k.result c.cell_at-k.ensures (stencilled (given (goal.at.count_cells-requires c).Start) c.args.c c.requires.laid.0 c.requires.stencil_len c.requires.laid.1)) _ c.correct-tests.ensures.leaves.long

pub returns : goal.returns
returns c =
    let g = given (goal.at.returns c).Start in
    let n = c.args.c in
    let r = c.cell_at-k.result in
    let e = c.cell_at-k.ensures in
    let p = c.correct-tests.ensures in
    let mode_is : mode_number c.unwrap-mode.result ≡ get_or c.args.modes.now n 0 = MatchOption-at_some _ _ _ c.unwrap-mode.ensures c.of.ensures in
    let left = rw (mode_is, c.outline.ensures.colours, c.outline.ensures.coords, c.outline.ensures.ends) at p.leaves in
    record { counts = tallied g n r e left _ _ c.count_cells.ensures (rw (mode_is, c.outline.ensures.colours, c.outline.ensures.coords, c.outline.ensures.ends) at p.makes); leaves = leaves g n r e left; writes = writes g n r e (rw (mode_is, c.outline.ensures.colours, c.outline.ensures.coords, c.outline.ensures.ends) at p.writes) }

pub cell_at-k-requires : goal.cell_at-k-requires
cell_at-k-requires c = let all = cell_there (given (goal.at.cell_at-k-requires c).Start) c.args.c c.requires.laid.0 c.requires.laid.1 in record { c_in_bounds = all.0; area_inside = all.1 }

pub bounds-modes-c : goal.bounds-modes-c
bounds-modes-c c = c.requires.laid.1
