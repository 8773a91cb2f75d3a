-- `correction_c::rungtwine_plain_error_correction` meets its contract: each arm is given which answer the plain engine gave, and its promise says what that is. Assumes nothing.
use mathlib.Core.Path.{◌≡◌, refl, sym, ◌∙◌, ap}
use Rattle.inputs.specs.Checks.{Input, refusal_number, refusal_place}
use Rattle.correction.specs.Pass.{protected_cells, error_cells, corner_cells}
use Rattle.plain.specs.Answer.{Plain, plain_answer, number_of, place_in, protected_in, errors_in, corners_in}
use Rattle.plain.proofs.Laws.Answer.{plain_number, plain_place, plain_protected, plain_errors, plain_corners}
use Rattle.correction_c.proofs.rungtwine_plain_error_correction.Goals as goal

-- what the plain engine's answer has for its number, its place and its counts
parts : (i : Input) (r r' : Plain) → r ≡ r' → r ≡ plain_answer i → (number_of r' ≡ refusal_number i) × ((place_in r' ≡ refusal_place i) × ((protected_in r' ≡ protected_cells i) × ((errors_in r' ≡ error_cells i) × (corners_in r' ≡ corner_cells i))))
parts i r r' e a =
    let f = sym e ∙ a in
    (ap number_of f ∙ plain_number i, (ap place_in f ∙ plain_place i, (ap protected_in f ∙ plain_protected i, (ap errors_in f ∙ plain_errors i, ap corners_in f ∙ plain_corners i))))

pub returns-in-Ok : goal.returns-in-Ok
unfolding number_of place_in protected_in errors_in corners_in
returns-in-Ok c =
    let p = c.plain_error_correction.ensures in
    let e = parts _ _ _ refl c.in-Ok.ensures.answers in
    record { numbers = e.0; places = e.1.0; protects = e.1.1.0; flags = e.1.1.1.0; corners = e.1.1.1.1; leaves = p.leaves; writes = p.writes; clears = p.clears }

pub returns-in-Err : goal.returns-in-Err
unfolding number_of place_in protected_in errors_in corners_in
returns-in-Err c =
    let p = c.plain_error_correction.ensures in
    let e = parts _ _ _ refl c.in-Err.ensures.answers in
    record { numbers = c.number.ensures ∙ e.0; places = c.place.ensures ∙ e.1.0; protects = e.1.1.0; flags = e.1.1.1.0; corners = e.1.1.1.1; leaves = p.leaves; writes = p.writes; clears = p.clears }
