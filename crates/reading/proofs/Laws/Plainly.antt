-- What the plain program prints is what the first one prints, with the tests left out. Assumes nothing.
--     accepted_texts    both texts of an accepted input: where the tests stand, and that all else is the same
--     same_otherwise    the two texts of any other input are the same
--     tests_left_out    so for every input
use mathlib.Core.Bool.{Bool, true, false, cond, ◌&&◌, true≢false}
use mathlib.Core.List.{List, [], ◌∷◌, ◌++◌, append_assoc, append-nil}
use mathlib.Core.Path.{◌≡◌, refl, sym, ◌∙◌}
use Prim.Native.Nat.{ℕ, ◌*◌}
use lib.Dec.{eqb}
use Rattle.ground.specs.Lists.{joined}
use Rattle.ground.proofs.Laws.Bools.{both_hold}
use Rattle.inputs.specs.Checks.{Input, accepted, refusal_number, refusal_place}
use Rattle.inputs.specs.Stencil.{counts_of}
use Rattle.correction.specs.Bitmap.{cell_texel}
use Rattle.correction.specs.Pass.{answer, pass_stencil, pass_tests}
use Rattle.correction.specs.Pass.{Answer}
use Rattle.std.specs.Prelude.{Ok, Err}
use Rattle.inputs.specs.Refusal.{refusal_with}
use Rattle.plain.specs.Answer.{plain_answer, untested}
use Rattle.reading.specs.Grammar.{fine, breach}
use Rattle.reading.specs.Text.{bad_text, size_text, cells_text, tests_text, counts_text, counts_plainly, rows_text, flagged_text, accepted_with, accepted_text, accepted_plainly}
use Rattle.reading.specs.Answer.{case_of, answer_text, printed, answer_plainly, printed_plainly}

-- ---- the two parts of an accepted case's text

-- the rows, then each flagged texel
abbrev rest : Input → List ℕ
rest i = rows_text i.width i.height (pass_stencil i) ++ joined (i.width * i.height) (flagged_text i.width (pass_stencil i) (cell_texel i.samples i.channels))

-- what is printed before the tests: the size and the counts
abbrev pub before_tests : Input → List ℕ
before_tests i = size_text i.width i.height i.channels ++ cells_text (counts_of (pass_stencil i))

-- and after them: the end of that line, the rows, then each flagged texel
abbrev pub after_tests : Input → List ℕ
after_tests i = (10 ∷ []) ++ rest i

-- ---- by whether the case is accepted

abbrev answer_by : Input → Bool → Answer
answer_by i t = cond t (Ok (record { counts = counts_of (pass_stencil i); tests = pass_tests i })) (Err (refusal_with (refusal_number i) (refusal_place i)))

spread : (a b c d e : List ℕ) → a ++ ((b ++ (c ++ d)) ++ e) ≡ (a ++ b) ++ (c ++ (d ++ e))
spread a b c d e = simp append_assoc

first_go : (i : Input) (t : Bool) → t ≡ true → answer_text i (answer_by i t) ≡ before_tests i ++ (tests_text (pass_tests i) ++ after_tests i)
unfolding answer_text accepted_text accepted_with counts_text
first_go i true e = spread (size_text i.width i.height i.channels) (cells_text (counts_of (pass_stencil i))) (tests_text (pass_tests i)) (10 ∷ []) (rest i)
first_go i false e = absurd (true≢false (sym e))

plain_go : (i : Input) (t : Bool) → t ≡ true → answer_plainly i (untested (answer_by i t)) ≡ before_tests i ++ after_tests i
unfolding answer_plainly untested accepted_plainly accepted_with counts_plainly
plain_go i true e = spread (size_text i.width i.height i.channels) (cells_text (counts_of (pass_stencil i))) [] (10 ∷ []) (rest i)
plain_go i false e = absurd (true≢false (sym e))

same_go : (i : Input) (bad : List ℕ) (f t : Bool) → f && t ≡ false → cond f (answer_plainly i (untested (answer_by i t))) bad ≡ cond f (answer_text i (answer_by i t)) bad
unfolding answer_plainly untested answer_text
same_go i bad true true e = absurd (true≢false e)
same_go i bad true false e = refl
same_go i bad false t e = refl

-- ---- the laws

-- whether an input has no breach and its case is accepted
abbrev pub input_accepted : List ℕ → Bool
input_accepted s = eqb (breach s) fine && accepted (case_of s)

-- The first program prints ` tests T` between the two parts of an accepted input's text, and the plain one prints nothing there.
pub accepted_texts : (s : List ℕ) → input_accepted s ≡ true → (printed s ≡ before_tests (case_of s) ++ (tests_text (pass_tests (case_of s)) ++ after_tests (case_of s))) × (printed_plainly s ≡ before_tests (case_of s) ++ after_tests (case_of s))
unfolding printed printed_plainly plain_answer answer
accepted_texts s e =
    let z = both_hold (eqb (breach s) fine) (accepted (case_of s)) e in
    simp z.0 (first_go (case_of s) (accepted (case_of s)) z.1, plain_go (case_of s) (accepted (case_of s)) z.1)

-- An input with a breach, or one that is refused, has the same text from both.
pub same_otherwise : (s : List ℕ) → input_accepted s ≡ false → printed_plainly s ≡ printed s
unfolding printed printed_plainly plain_answer answer
same_otherwise s e = same_go (case_of s) (bad_text (breach s)) (eqb (breach s) fine) (accepted (case_of s)) e

-- the tests that the first program prints: ` tests T` for an accepted input, and nothing for any other
abbrev pub tests_printed : List ℕ → List ℕ
tests_printed s = cond (input_accepted s) (tests_text (pass_tests (case_of s))) []

-- the first program's text is two parts with the tests between them, and the plain one's is the two parts
pub record LeftOut (s : List ℕ) : Type 0 where
  pub before : List ℕ
  pub after : List ℕ
  pub first : printed s ≡ before ++ (tests_printed s ++ after)
  pub plain : printed_plainly s ≡ before ++ after

left_out_go : (s : List ℕ) (t : Bool) → input_accepted s ≡ t → LeftOut s
left_out_go s true e =
    let z = accepted_texts s e in
    record { before = before_tests (case_of s); after = after_tests (case_of s); first = rw e z.0; plain = z.1 }
left_out_go s false e =
    record { before = printed s; after = []; first = rw e (sym (append-nil (printed s))); plain = same_otherwise s e ∙ sym (append-nil (printed s)) }

-- So for every input the plain program's text is the first one's with the tests left out.
pub tests_left_out : (s : List ℕ) → LeftOut s
tests_left_out s = left_out_go s (input_accepted s) refl
