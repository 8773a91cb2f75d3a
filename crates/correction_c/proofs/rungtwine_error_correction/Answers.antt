-- `correction_c::rungtwine_error_correction` meets its contract: each arm is given which answer the pass gave, and the pass's promise says what that is. Assumes nothing.
use mathlib.Core.Path.{◌≡◌, refl, sym, ◌∙◌, ap}
use Rattle.inputs.specs.Checks.{Input, refusal_number, refusal_place}
use Rattle.correction.specs.Pass.{Answer, number_of, place_in, protected_in, errors_in, corners_in, tests_in, protected_cells, error_cells, corner_cells, test_count, Answers}
use Rattle.correction_c.proofs.rungtwine_error_correction.Goals as goal

-- what an answer that the pass may give has for its number, its place, its counts and its tests
parts : (i : Input) (r r' : Answer) → r ≡ r' → Answers i r → (number_of r' ≡ refusal_number i) × ((place_in r' ≡ refusal_place i) × ((protected_in r' ≡ protected_cells i) × ((errors_in r' ≡ error_cells i) × ((corners_in r' ≡ corner_cells i) × (tests_in r' ≡ test_count i)))))
parts i r r' e a = (ap number_of (sym e) ∙ a.number, (ap place_in (sym e) ∙ a.place, (ap protected_in (sym e) ∙ a.protected, (ap errors_in (sym e) ∙ a.errors, (ap corners_in (sym e) ∙ a.corners, ap tests_in (sym e) ∙ a.tests)))))

pub returns-in-Ok : goal.returns-in-Ok
unfolding number_of place_in protected_in errors_in corners_in tests_in
returns-in-Ok c =
    let p = c.msdf_error_correction.ensures in
    let e = parts _ _ _ refl c.in-Ok.ensures.answers in
    record { numbers = e.0; places = e.1.0; protects = e.1.1.0; flags = e.1.1.1.0; corners = e.1.1.1.1.0; tests = e.1.1.1.1.1; leaves = p.leaves; writes = p.writes; clears = p.clears }

pub returns-in-Err : goal.returns-in-Err
unfolding number_of place_in protected_in errors_in corners_in tests_in
returns-in-Err c =
    let p = c.msdf_error_correction.ensures in
    let e = parts _ _ _ refl c.in-Err.ensures.answers in
    record { numbers = c.number.ensures ∙ e.0; places = c.place.ensures ∙ e.1.0; protects = e.1.1.0; flags = e.1.1.1.0; corners = e.1.1.1.1.0; tests = e.1.1.1.1.1; leaves = p.leaves; writes = p.writes; clears = p.clears }
