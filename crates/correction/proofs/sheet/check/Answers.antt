-- `correction::sheet::check` meets its contract. Assumes nothing.
use mathlib.Core.Path.{refl, ◌∙◌, ap}
use Rattle.std.specs.Prelude.{Err}
use Rattle.std.proofs.lemmas.Result.{err_from_is_err_and}
use Rattle.correction.specs.Sheet.{Sheet, sheet, failure_in}
use Rattle.correction.proofs.Laws.Failure.{told_not_0}
use Rattle.correction.proofs.sheet.Failures.{by_sheet, sheet_passes, by_outside, all_inside, by_overlap, by_run, all_laid, by_cells}
use Rattle.correction.proofs.sheet.check.Goals as goal
use Rattle.correction.proofs.sheet.check.Goals.{In_ok-check_sheet, Start}

-- the sheet
abbrev given : Start → Sheet
given c =
    let a = c.args in
    sheet a.b.width a.b.height a.b.channels a.xs.now a.stencil.now a.room.now a.cells.now a.modes.now a.settings.now a.colours.now a.coords.now a.ends.now

pub returns-in_err-check_sheet : goal.returns-in_err-check_sheet
returns-in_err-check_sheet c =
    let p = err_from_is_err_and c.from_residual.result c.from_residual.ensures.1 in
    ap failure_in (p.1 ∙ ap Err p.2) ∙ by_sheet (given (goal.at.returns-in_err-check_sheet c).Start) c.in_err-check_sheet.ensures (told_not_0 _)

pub first_outside-requires : goal.first_outside-requires
first_outside-requires c = let m = sheet_passes (given (goal.at.first_outside-requires c).Start) c.in_ok-check_sheet.ensures refl in (m.numbers, m.few)

pub returns-in-Some : goal.returns-in-Some
returns-in-Some c =
    by_outside (given (goal.at.returns-in-Some c).Start) c.in_ok-check_sheet.ensures refl c.in-Some.ensures

pub first_overlap-requires : goal.first_overlap-requires
first_overlap-requires c = record { cells_len = first_outside-requires (goal.at.first_overlap-requires c).In_ok-check_sheet; areas_inside = all_inside (given (goal.at.first_overlap-requires c).Start) c.in_ok-check_sheet.ensures refl c.in_default.ensures }

pub returns-in-Some-first_overlap : goal.returns-in-Some-first_overlap
returns-in-Some-first_overlap c =
    by_overlap (given (goal.at.returns-in-Some-first_overlap c).Start) c.in_ok-check_sheet.ensures refl c.in_default.ensures c.in-Some-first_overlap.ensures

pub first_bad_run-requires : goal.first_bad_run-requires
first_bad_run-requires c = first_outside-requires (goal.at.first_bad_run-requires c).In_ok-check_sheet

pub returns-in-Some-first_bad_run : goal.returns-in-Some-first_bad_run
returns-in-Some-first_bad_run c =
    by_run (given (goal.at.returns-in-Some-first_bad_run c).Start) c.in_ok-check_sheet.ensures refl c.in_default.ensures c.in_default-first_overlap.ensures c.in-Some-first_bad_run.ensures

pub check_cells-requires : goal.check_cells-requires
check_cells-requires c =
    all_laid (given (goal.at.check_cells-requires c).Start) c.in_ok-check_sheet.ensures refl c.in_default.ensures c.in_default-first_overlap.ensures c.in_default-first_bad_run.ensures

pub returns : goal.returns
returns c =
    by_cells (given (goal.at.returns c).Start) c.in_ok-check_sheet.ensures refl c.in_default.ensures c.in_default-first_overlap.ensures c.in_default-first_bad_run.ensures c.check_cells.ensures
