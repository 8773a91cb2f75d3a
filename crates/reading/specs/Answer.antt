-- What the program prints for an input: the grammar, the pass and the text put together. Definitions only.
use Rattle.std.specs.Prelude.{ℕ, ◌*◌, cond, List, [], eqb, leb, Ok, Err, Float}
use Rattle.std.specs.Float.{binary32}
use Rattle.numbers.specs.Constants.{zero_of}
use Rattle.ground.specs.Lists.{tab}
use Rattle.ranges.specs.declared.config.Settings.{Settings}
use Rattle.inputs.specs.Refusal.{number, place}
use Rattle.inputs.specs.Checks.{Input, input}
use Rattle.correction.specs.Bitmap.{cell_texel}
use Rattle.correction.specs.Pass.{Answer, answer, pass_stencil}
use Rattle.plain.specs.Answer.{Plain, plain_answer}
use Rattle.reading.specs.Grammar.{fine, width, height, channels, breach}
use Rattle.reading.specs.Case.{mode_of, ratio_of, horizontal_of, vertical_of, diagonal_of, colours_of, coords_of, ends_of, samples_of}
use Rattle.reading.specs.Text.{bad_text, refused_text, accepted_text, accepted_plainly}

abbrev pub settings_of : List ℕ → Settings
settings_of s = record { ratio = ratio_of s; horizontal = horizontal_of s; vertical = vertical_of s; diagonal = diagonal_of s }

-- the room that is lent: zeros, two rows of 4,096 for the widest bitmap
unfoldable pub lent_room : List Float
lent_room = tab 8192 (λ k. zero_of binary32)

-- what the pass is given: the stencil has a cell, 0, for each texel
abbrev pub case_of : List ℕ → Input
case_of s =
    input (width s) (height s) (channels s) (samples_of s) (tab (width s * height s) (λ k. 0)) lent_room (mode_of s) (settings_of s) (colours_of s) (coords_of s) (ends_of s)

-- the text of the pass's answer; each median is judged on the samples that came in, before the collapse
unfoldable pub answer_text : Input → Answer → List ℕ
answer_text i (Ok c) = accepted_text i.width i.height i.channels c.counts c.tests (pass_stencil i) (cell_texel i.samples i.channels)
answer_text i (Err r) = refused_text (number r) (place r)

-- all that is printed
unfoldable pub printed : List ℕ → List ℕ
printed s = cond (eqb (breach s) fine) (answer_text (case_of s) (answer (case_of s))) (bad_text (breach s))

-- What is written for an input into a slice of n bytes: all that is printed, and nothing where there is less room than the longest text needs.
unfoldable pub written : ℕ → List ℕ → List ℕ
written n s = cond (leb 131072 n) (printed s) []

-- ---- the plain program: the plain engine in place of the pass

-- the text of the plain engine's answer; each median is judged on the samples that came in
unfoldable pub answer_plainly : Input → Plain → List ℕ
answer_plainly i (Ok c) = accepted_plainly i.width i.height i.channels c (pass_stencil i) (cell_texel i.samples i.channels)
answer_plainly i (Err r) = refused_text (number r) (place r)

-- all that the plain program prints
unfoldable pub printed_plainly : List ℕ → List ℕ
printed_plainly s = cond (eqb (breach s) fine) (answer_plainly (case_of s) (plain_answer (case_of s))) (bad_text (breach s))

-- What it writes for an input into a slice of n bytes: all that it prints, and nothing where there is less room than the longest text needs.
unfoldable pub written_plainly : ℕ → List ℕ → List ℕ
written_plainly n s = cond (leb 131072 n) (printed_plainly s) []
