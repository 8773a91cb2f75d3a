-- `correction_c::rungtwine_sheet_check` meets its contract: what the result of the checks says is handed on. Assumes nothing.
use mathlib.Core.Path.{◌∙◌, ap}
use Rattle.correction.specs.Sheet.{Failure}
use Rattle.correction_c.proofs.rungtwine_sheet_check.Goals as goal

pub returns-in-Ok : goal.returns-in-Ok
returns-in-Ok c =
    let e = c.in-Ok.ensures in record { numbers = ap (λ (f : Failure). f.number) e; names = ap (λ (f : Failure). f.cell) e; places = ap (λ (f : Failure). f.place) e }

pub returns-in-Err : goal.returns-in-Err
returns-in-Err c =
    let e = c.in-Err.ensures in
    record { numbers = c.number.ensures ∙ ap (λ (f : Failure). f.number) e; names = c.cell.ensures ∙ ap (λ (f : Failure). f.cell) e; places = c.place.ensures ∙ ap (λ (f : Failure). f.place) e }
