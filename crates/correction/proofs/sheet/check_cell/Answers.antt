-- `correction::sheet::check_cell` meets its contract: what is handed to the checks is the cell alone. Assumes nothing.
use mathlib.Core.List.{[]}
use lib.ListN.{length}
use Rattle.correction.specs.Sheet.{Sheet, sheet}
use Rattle.correction.proofs.sheet.Laid.{sampled}
use Rattle.correction.proofs.sheet.Handed.{Held, cell_there, runs_held, sampled_as, judged}
use Rattle.correction.proofs.sheet.check_cell.Goals as goal
use Rattle.correction.proofs.sheet.check_cell.Goals.{After-cell_at-k, Start}

-- the sheet
abbrev given : Start → Sheet
given c =
    let a = c.args in
    sheet a.b.width a.b.height a.b.channels a.xs.now [] [] a.cells.now a.modes.now a.settings.now a.outline.colours.now a.outline.coords.now a.outline.ends.now

-- each run ends in its list
held : (c : After-cell_at-k) → let a = c.args in Held c.cell_at-k.result (length a.outline.colours.now) (length a.outline.coords.now) (length a.outline.ends.now)
held c = runs_held (given (goal.at.After-cell_at-k c).Start) c.args.c c.cell_at-k.result c.cell_at-k.ensures c.requires.0 c.requires.1

pub outline-requires : goal.outline-requires
outline-requires c =
    let h = held (goal.at.outline-requires c).After-cell_at-k in record { colours = h.colours; coords = h.coords; ends = h.ends }

pub check-requires : goal.check-requires
check-requires c =
    sampled_as (given (goal.at.check-requires c).Start) c.args.c c.cell_at-k.result c.cell_at-k.ensures (sampled (given (goal.at.check-requires c).Start) c.args.c c.requires.0 c.requires.1)

pub returns : goal.returns
returns c = let all = judged (given (goal.at.returns c).Start) c.args.c c.cell_at-k.result c.cell_at-k.ensures (rw (c.outline.ensures.colours, c.outline.ensures.coords, c.outline.ensures.ends) at c.check.ensures.numbers, rw (c.outline.ensures.colours, c.outline.ensures.coords, c.outline.ensures.ends) at c.check.ensures.places) in record { numbers = all.0; places = all.1 }

pub cell_at-k-requires : goal.cell_at-k-requires
cell_at-k-requires c = let all = cell_there (given (goal.at.cell_at-k-requires c).Start) c.args.c c.requires.0 c.requires.1 in record { c_in_bounds = all.0; area_inside = all.1 }

pub bounds-modes-c : goal.bounds-modes-c
bounds-modes-c c = c.requires.1
