-- The pass: what it answers, and what it leaves in the stencil, in the samples and in the room, for every input. Definitions only.
use Rattle.std.specs.Prelude.{◌≡◌, ℕ, ◌-◌, ◌*◌, ◌/◌, ◌%◌, Bool, true, false, cond, not, ◌&&◌, ◌||◌, List, [], ◌∷◌, eqb, length, Result, Ok, Err, Float}
use Rattle.std.specs.Float.{binary32}
use Rattle.numbers.specs.Constants.{zero_of}
use Rattle.correction.specs.declared.pass.Corrected.{Corrected}
use Rattle.inputs.specs.declared.refusal.Refusal.{Refusal}
use Rattle.inputs.specs.Refusal.{number, place, refusal_with}
use Rattle.ground.specs.Lists.{tab, total}
use Rattle.correction.specs.Bitmap.{texel}
use Rattle.inputs.specs.Stencil.{stencil_byte, protected_count, error_count, corner_count, counts_of}
use Rattle.ranges.specs.Config.{disabled, edge_priority, edge_only}
use Rattle.inputs.specs.Checks.{Input, input, accepted, refusal_number, refusal_place}
use Rattle.correction.specs.Corners.{contours, corners_protect}
use Rattle.correction.specs.Edges.{edges_protect}
use Rattle.correction.specs.Errors.{has_artifact, tests_made}
use Rattle.correction.specs.Collapse.{collapsed}

-- the texels of the bitmap
unfoldable pub texels : Input → ℕ → ℕ → List Float
texels i x y = texel i.samples i.width i.channels x y

-- the four texels of the diagonal test of texel x, y against the one at column nx and row ny, counted from 1
abbrev pub four_at : Input → ℕ → ℕ → ℕ → ℕ → List (List Float)
four_at i x y nx ny = texels i x y ∷ texels i (nx - 1) y ∷ texels i x (ny - 1) ∷ texels i (nx - 1) (ny - 1) ∷ []

-- EdgePriority: a corner protects texel x, y, whether an edge does or not; in no other mode does one.
unfoldable pub cornered : Input → ℕ → ℕ → Bool
cornered i x y = eqb i.mode edge_priority && corners_protect (contours i.colours i.coords i.ends) x y

-- EdgePriority: corners and edges
unfoldable pub edge_priority_protects : Input → ℕ → ℕ → Bool
edge_priority_protects i x y = corners_protect (contours i.colours i.coords i.ends) x y || edges_protect (texels i) i.width i.height i.settings x y

-- EdgeOnly sets bit 2 everywhere; Indiscriminate nowhere.
unfoldable pub protects : Input → ℕ → ℕ → Bool
protects i x y = eqb i.mode edge_only || eqb i.mode edge_priority && edge_priority_protects i x y

-- texel x, y is flagged
unfoldable pub flags : Input → ℕ → ℕ → Bool
flags i x y = not (eqb i.mode disabled) && has_artifact (texels i) i.width i.height i.settings (protects i x y) x y

-- the range tests made for it: none in Disabled
unfoldable pub tests_at : Input → ℕ → ℕ → ℕ
tests_at i x y = cond (eqb i.mode disabled) 0 (tests_made (texels i) i.width i.height i.settings (protects i x y) x y)

-- the byte of cell k, whose texel is k % width, k / width
unfoldable pub byte_at : Input → ℕ → ℕ
byte_at i k = stencil_byte (cornered i (k % i.width) (k / i.width)) (protects i (k % i.width) (k / i.width)) (flags i (k % i.width) (k / i.width))

-- the stencil of an accepted pass
unfoldable pub pass_stencil : Input → List ℕ
pass_stencil i = tab (i.width * i.height) (byte_at i)

-- the samples of an accepted pass
unfoldable pub pass_samples : Input → List Float
pass_samples i = collapsed i.samples i.channels (λ k. flags i (k % i.width) (k / i.width))

-- the range tests of an accepted pass: those for all texels
unfoldable pub pass_tests : Input → ℕ
pass_tests i = total (i.width * i.height) (λ k. tests_at i (k % i.width) (k / i.width))

-- ---- an answer: what an accepted pass answers, or why it is refused; its case, and its number, place and counts

abbrev pub Answer : Type 0
Answer = Result Corrected Refusal

-- whether an answer accepts
unfoldable pub is_accepted : Answer → Bool
is_accepted (Ok c) = true
is_accepted (Err r) = false

-- its number, 0 where it accepts
unfoldable pub number_of : Answer → ℕ
number_of (Ok c) = 0
number_of (Err r) = number r

-- its place, 0 where it accepts
unfoldable pub place_in : Answer → ℕ
place_in (Ok c) = 0
place_in (Err r) = place r

-- its counts of protected cells, of errors and of corner cells, 0 where it refuses
unfoldable pub protected_in : Answer → ℕ
protected_in (Ok c) = c.counts.protected
protected_in (Err r) = 0

unfoldable pub errors_in : Answer → ℕ
errors_in (Ok c) = c.counts.error
errors_in (Err r) = 0

unfoldable pub corners_in : Answer → ℕ
corners_in (Ok c) = c.counts.corner
corners_in (Err r) = 0

-- its number of range tests, 0 where it refuses
unfoldable pub tests_in : Answer → ℕ
tests_in (Ok c) = c.tests
tests_in (Err r) = 0

-- ---- what the pass answers, and leaves

-- the counts of an input: those of the stencil that an accepted pass leaves, and zeros for a refusal
unfoldable pub protected_cells : Input → ℕ
protected_cells i = cond (accepted i) (protected_count (pass_stencil i)) 0

unfoldable pub error_cells : Input → ℕ
error_cells i = cond (accepted i) (error_count (pass_stencil i)) 0

unfoldable pub corner_cells : Input → ℕ
corner_cells i = cond (accepted i) (corner_count (pass_stencil i)) 0

-- the range tests of an input: those of an accepted pass, and none for a refusal
unfoldable pub test_count : Input → ℕ
test_count i = cond (accepted i) (pass_tests i) 0

-- The answer accepts where no check fails, and has the number and the place of the first that does, the counts and the number of tests.
pub record Answers (i : Input) (r : Answer) : Type 0 where
  pub accepts : is_accepted r ≡ accepted i
  pub number : number_of r ≡ refusal_number i
  pub place : place_in r ≡ refusal_place i
  pub protected : protected_in r ≡ protected_cells i
  pub errors : errors_in r ≡ error_cells i
  pub corners : corners_in r ≡ corner_cells i
  pub tests : tests_in r ≡ test_count i

-- the one such answer
unfoldable pub answer : Input → Answer
answer i = cond (accepted i) (Ok (record { counts = counts_of (pass_stencil i); tests = pass_tests i })) (Err (refusal_with (refusal_number i) (refusal_place i)))

-- the stencil and the samples afterwards: a refusal writes nothing
unfoldable pub stencil_after : Input → List ℕ
stencil_after i = cond (accepted i) (pass_stencil i) i.stencil

unfoldable pub samples_after : Input → List Float
samples_after i = cond (accepted i) (pass_samples i) i.samples

-- the room afterwards: zeros, and as it was after a refusal
unfoldable pub room_after : Input → List Float
room_after i = cond (accepted i) (tab (length i.room) (λ k. zero_of binary32)) i.room

-- the samples, the stencil and the room that the pass leaves of the first input, with the sizes, the mode, the settings and the outlines of the second: what a pass over its result is given
abbrev pub fed_back : Input → Input → Input
fed_back i j = input j.width j.height j.channels (samples_after i) (stencil_after i) (room_after i) j.mode j.settings j.colours j.coords j.ends
