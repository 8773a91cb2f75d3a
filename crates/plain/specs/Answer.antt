-- What the plain engine answers: what the pass answers, less the number of range tests. Definitions only.
use Rattle.std.specs.Prelude.{ℕ, Bool, true, false, Result, Ok, Err}
use Rattle.inputs.specs.declared.stencil.Counts.{Counts}
use Rattle.inputs.specs.declared.refusal.Refusal.{Refusal}
use Rattle.inputs.specs.Refusal.{number, place}
use Rattle.inputs.specs.Checks.{Input}
use Rattle.correction.specs.Pass.{Answer, answer}

-- the counts of an accepted pass, or why it is refused
abbrev pub Plain : Type 0
Plain = Result Counts Refusal

-- an answer of the pass without its number of range tests
unfoldable pub untested : Answer → Plain
untested (Ok c) = Ok c.counts
untested (Err r) = Err r

-- what the plain engine answers
unfoldable pub plain_answer : Input → Plain
plain_answer i = untested (answer i)

-- ---- a plain answer's case, number, place and counts

-- whether it accepts
unfoldable pub is_accepted : Plain → Bool
is_accepted (Ok c) = true
is_accepted (Err r) = false

-- its number, 0 where it accepts
unfoldable pub number_of : Plain → ℕ
number_of (Ok c) = 0
number_of (Err r) = number r

-- its place, 0 where it accepts
unfoldable pub place_in : Plain → ℕ
place_in (Ok c) = 0
place_in (Err r) = place r

-- its count of protected cells, 0 where it refuses
unfoldable pub protected_in : Plain → ℕ
protected_in (Ok c) = c.protected
protected_in (Err r) = 0

-- its count of errors, 0 where it refuses
unfoldable pub errors_in : Plain → ℕ
errors_in (Ok c) = c.error
errors_in (Err r) = 0

-- its count of corner cells, 0 where it refuses
unfoldable pub corners_in : Plain → ℕ
corners_in (Ok c) = c.corner
corners_in (Err r) = 0
