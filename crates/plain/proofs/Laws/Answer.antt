-- The plain engine's answer has the case, the number, the place and the counts of its input, as the first engine's has. Assumes nothing.
use Rattle.std.proofs.Common.{◌≡◌, refl, ◌∙◌}
use Rattle.std.specs.Prelude.{Ok, Err}
use Rattle.inputs.specs.Checks.{Input, accepted, refusal_number, refusal_place}
use Rattle.correction.specs.Pass as Pass
use Rattle.correction.specs.Pass.{Answer, answer, protected_cells, error_cells, corner_cells}
use Rattle.correction.proofs.Laws.Answer.{answer_answers}
use Rattle.plain.specs.Answer.{untested, plain_answer, is_accepted, number_of, place_in, protected_in, errors_in, corners_in}

-- ---- without its number of range tests an answer keeps the rest

keeps_case : (r : Answer) → is_accepted (untested r) ≡ Pass.is_accepted r
unfolding untested is_accepted Pass.is_accepted
keeps_case (Ok c) = refl
keeps_case (Err r) = refl

keeps_number : (r : Answer) → number_of (untested r) ≡ Pass.number_of r
unfolding untested number_of Pass.number_of
keeps_number (Ok c) = refl
keeps_number (Err r) = refl

keeps_place : (r : Answer) → place_in (untested r) ≡ Pass.place_in r
unfolding untested place_in Pass.place_in
keeps_place (Ok c) = refl
keeps_place (Err r) = refl

keeps_protected : (r : Answer) → protected_in (untested r) ≡ Pass.protected_in r
unfolding untested protected_in Pass.protected_in
keeps_protected (Ok c) = refl
keeps_protected (Err r) = refl

keeps_errors : (r : Answer) → errors_in (untested r) ≡ Pass.errors_in r
unfolding untested errors_in Pass.errors_in
keeps_errors (Ok c) = refl
keeps_errors (Err r) = refl

keeps_corners : (r : Answer) → corners_in (untested r) ≡ Pass.corners_in r
unfolding untested corners_in Pass.corners_in
keeps_corners (Ok c) = refl
keeps_corners (Err r) = refl

-- ---- what the plain engine answers

-- It accepts where no check fails,
pub plain_accepts : (i : Input) → is_accepted (plain_answer i) ≡ accepted i
unfolding plain_answer
plain_accepts i = keeps_case (answer i) ∙ (answer_answers i).accepts

-- its number is that of the first check that fails,
pub plain_number : (i : Input) → number_of (plain_answer i) ≡ refusal_number i
unfolding plain_answer
plain_number i = keeps_number (answer i) ∙ (answer_answers i).number

-- its place that check's,
pub plain_place : (i : Input) → place_in (plain_answer i) ≡ refusal_place i
unfolding plain_answer
plain_place i = keeps_place (answer i) ∙ (answer_answers i).place

-- and its counts are those of protected cells,
pub plain_protected : (i : Input) → protected_in (plain_answer i) ≡ protected_cells i
unfolding plain_answer
plain_protected i = keeps_protected (answer i) ∙ (answer_answers i).protected

-- of errors
pub plain_errors : (i : Input) → errors_in (plain_answer i) ≡ error_cells i
unfolding plain_answer
plain_errors i = keeps_errors (answer i) ∙ (answer_answers i).errors

-- and of corner cells.
pub plain_corners : (i : Input) → corners_in (plain_answer i) ≡ corner_cells i
unfolding plain_answer
plain_corners i = keeps_corners (answer i) ∙ (answer_answers i).corners
