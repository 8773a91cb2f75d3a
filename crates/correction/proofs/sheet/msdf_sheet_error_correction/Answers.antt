-- `correction::sheet::msdf_sheet_error_correction` meets its contract: the checks, then cell after cell. Assumes nothing.
use mathlib.Core.Path.{◌≡◌, sym, ◌∙◌, ap}
use Prim.Native.Nat.{ℕ}
use lib.ListN.{length}
use lib.Ieee.{binary32}
use Rattle.std.specs.Prelude.{Err}
use Rattle.std.proofs.lemmas.Result.{err_from_is_err_and}
use Rattle.numbers.specs.Constants.{zero_of}
use Rattle.ground.specs.Lists.{tab}
use Rattle.ground.proofs.Laws.Fill.{tab_length}
use Rattle.inputs.proofs.Laws.Checks.{good_room}
use Rattle.correction.specs.Sheet.{Failure}
use Rattle.correction.specs.Sheet.{Sheet, sheet, failure}
use Rattle.correction.proofs.sheet.Laid.{stages, ready, moded}
use Rattle.correction.proofs.sheet.Filled.{ready_filled, filled_zeros, left_filled}
use Rattle.correction.proofs.sheet.Answered.{refused_as, answered}
use Rattle.correction.proofs.sheet.msdf_sheet_error_correction.Goals as goal
use Rattle.correction.proofs.sheet.msdf_sheet_error_correction.Goals.{In_ok-check, Start}

-- the sheet
abbrev given : Start → Sheet
given c =
    let a = c.args in
    sheet a.width a.height a.channels a.samples.now a.stencil.now a.room.now a.cells.now a.modes.now a.settings.now a.colours.now a.coords.now a.ends.now

pub returns-in_err-check : goal.returns-in_err-check
returns-in_err-check c =
    let p = err_from_is_err_and c.from_residual.result c.from_residual.ensures.1 in
    let h = refused_as (given (goal.at.returns-in_err-check c).Start) _ _ (p.1 ∙ ap Err p.2) c.in_err-check.ensures in record { answers = h.0; leaves = h.1.0; writes = h.1.1.0; clears = h.1.1.1 }

-- no check fails
none : (c : In_ok-check) → (failure (given (goal.at.In_ok-check c).Start)).number ≡ 0
none c = sym (ap (λ (f : Failure). f.number) c.in_ok-check.ensures)

pub correct_cells-n-requires : goal.correct_cells-n-requires
correct_cells-n-requires c =
    let g = given (goal.at.correct_cells-n-requires c).Start in
    let z = none (goal.at.correct_cells-n-requires c).In_ok-check in record { ready = ready_filled g _ (ap length c.fill.ensures ∙ tab_length _ _) (ready g z); stencil_value = filled_zeros _ _ c.fill.ensures; width_in_bounds = good_room _ _ (stages g z).room; modes = moded g z }

pub returns : goal.returns
returns c =
    let g = given (goal.at.returns c).Start in
    let e = c.correct_cells-n.ensures in
    let l = left_filled g _ in let all = answered g _ _ _ _ (none (goal.at.returns c).In_ok-check) (e.counts ∙ l.0) (e.leaves ∙ l.1.0) (e.writes ∙ l.1.1) (c.clear.ensures ∙ ap (λ (n : ℕ). tab n (λ k. zero_of binary32)) c.correct_cells-n.auto.room) in record { answers = all.0; leaves = all.1.0; writes = all.1.1.0; clears = all.1.1.1 }

pub check-requires : goal.check-requires
check-requires c = tt

pub fill-requires : goal.fill-requires
fill-requires c = tt

pub clear-requires : goal.clear-requires
clear-requires c = tt
