-- What is printed for an input, case by case, and that it fits. Assumes nothing.
use Rattle.std.specs.Prelude.{Option, Some, None}
use mathlib.Core.Bool.{Bool, true, false, cond}
use mathlib.Core.List.{List}
use mathlib.Core.Path.{◌≡◌, refl, ap, subst}
use Prim.Native.Nat.{ℕ, zero, suc, ◌*◌, ◌≤◌, ◌<◌}
use native.Mathlib.Nat.{mul_comm, mul-le-mul_left}
use native.Mathlib.Omega.{arith}
use lib.Dec.{eqb}
use lib.ListN.{length}
use borrow.Author.Tests.{eq-eqb, ne_eqb, eqb-true, eqb-false}
use Rattle.ground.proofs.Laws.Join.{joined_length}
use Rattle.ground.specs.Refuse.{first_failing}
use Rattle.inputs.specs.Checks.{Input, accepted, refusal_number, refusal_place, place_of, outline_place, bad_channels}
use Rattle.correction.specs.Bitmap.{cell_texel}
use Rattle.correction.specs.Pass.{answer, pass_stencil, pass_tests, test_count}
use Rattle.correction.proofs.Laws.Tests.{test_count_fits}
use Rattle.inputs.specs.Stencil.{counts_of}
use Rattle.inputs.specs.declared.refusal.Refusal.{Refusal}
use Rattle.inputs.specs.declared.refusal.Refusal.TheVariants.{Channels}
use Rattle.inputs.specs.Refusal.{number, place, refusal_with}
use Rattle.correction.specs.Pass.{Answer}
use Rattle.correction.proofs.Laws.Answer.{refusal_told}
use Rattle.plain.specs.Answer.{Plain, plain_answer, untested}
use Rattle.reading.specs.Answer.{case_of, answer_text, answer_plainly, printed, printed_plainly}
use Rattle.reading.specs.Case.{row_samples, samples_of}
use Rattle.reading.specs.Grammar.{breach, width, height, channels, row_at, row_size}
use Rattle.reading.specs.Inner.{counts_line, of_pass, of_plain, judged, judged_text, printed_by}
use Rattle.reading.specs.Text.{bad_text, refused_text, cells_text, accepted_text, accepted_plainly}
use Rattle.std.specs.Prelude.{Ok, Err}
use Rattle.reading.proofs.run.Answered.{sized, stencil_length, refused_text_law}
use Rattle.reading.proofs.decode.Decoded.{row_length}
use Rattle.reading.proofs.Laws.Bounds.{breach_short, breach_le, refusal_number_le, refusal_place_le, ends_le, colours_le}
use Rattle.inputs.proofs.Laws.Stencil.{protected_le, error_le, corner_le}
use Rattle.reading.proofs.fields.Layouts.{breach_small, samples_by_rows}
use Rattle.reading.proofs.text.Lengths.{bad_length_law, refused_length, cells_length, counted_length, uncounted_length, accepted_length}

-- a breach is printed
pub printed_bad : (plain : Bool) (s : List ℕ) → (breach s ≡ 65537 → ⊥) → bad_text (breach s) ≡ printed_by plain s
unfolding printed_by printed_plainly printed
printed_bad true s n = simp (ne_eqb (breach s) 65537 n)
printed_bad false s n = simp (ne_eqb (breach s) 65537 n)

-- the text of either engine's answer
pass_text : (i : Input) (a : Answer) → judged_text i (of_pass a) ≡ answer_text i a
unfolding judged_text of_pass answer_text accepted_text counts_line
pass_text i (Ok c) = refl
pass_text i (Err r) = refl

plain_text : (i : Input) (a : Plain) → judged_text i (of_plain a) ≡ answer_plainly i a
unfolding judged_text of_plain answer_plainly accepted_plainly counts_line
plain_text i (Ok c) = refl
plain_text i (Err r) = refl

-- without a breach the engine's answer is printed
pub printed_case : (plain : Bool) (s : List ℕ) → breach s ≡ 65537 → judged_text (case_of s) (judged plain (case_of s)) ≡ printed_by plain s
unfolding printed_by printed_plainly printed judged
printed_case true s e = simp (eq-eqb (breach s) 65537 e) (plain_text (case_of s) (plain_answer (case_of s)))
printed_case false s e = simp (eq-eqb (breach s) 65537 e) (pass_text (case_of s) (answer (case_of s)))

-- no channels are refused by check 1
channelless : (i : Input) (ch : ℕ) → i.channels ≡ ch → ch ≡ 0 → Err Channels ≡ answer i
unfolding answer accepted refusal_number refusal_place place_of outline_place first_failing bad_channels
channelless i ch d e = rw (d, e)

-- by either engine
refuses : (plain : Bool) (i : Input) (r : Refusal) → Err r ≡ answer i → Err r ≡ judged plain i
unfolding judged plain_answer untested of_plain of_pass
refuses true i r e = ap (λ a. of_plain (untested a)) e
refuses false i r e = ap of_pass e

-- no channels are refused
pub no_channels : (plain : Bool) (s : List ℕ) → channels s ≡ 0 → refused_text 1 0 ≡ judged_text (case_of s) (judged plain (case_of s))
no_channels plain s e = refused_text_law plain (case_of s) Channels (refuses plain (case_of s) Channels (channelless (case_of s) (channels s) refl e))

-- a number that is not 0
pub some : (n : ℕ) → (n ≡ 0 → ⊥) → 0 < n
some zero h = absurd (h refl)
some (suc n) h = omega arith

-- ---- the longest text

samples_few : (s : List ℕ) → breach s ≡ 65537 → length (samples_of s) ≤ 12288
unfolding samples_of
samples_few s e =
    omega (arith, joined_length (height s) (row_size s) (λ y. row_samples s (row_at s y) (row_size s)) (λ y l. omega (arith, row_length s (row_at s y) (row_size s))), mul_comm (row_size s) (height s), samples_by_rows (width s) (height s) (channels s), breach_small s e)

-- the tests of an accepted case fit a u64, since no case has more than 84 · 4,096 · 4,096
tests_fit : (i : Input) → accepted i ≡ true → pass_tests i ≤ 1409286144
unfolding test_count
tests_fit i a = subst (λ (b : Bool). cond b (pass_tests i) 0 ≤ 1409286144) a (test_count_fits i)

-- an accepted case: its sides, its channels and its counts are at most 4,096, and so are its cells
accepted_fits : (i : Input) (t : Option ℕ) → accepted i ≡ true → length i.samples ≤ 12288 → (length (cells_text (counts_of (pass_stencil i))) ≤ 85 → length (counts_line (counts_of (pass_stencil i)) t) ≤ 113) → length (judged_text i (Ok (record { counts = counts_of (pass_stencil i); tests = t }))) ≤ 131072
unfolding judged_text
accepted_fits i t a l f =
    let z = sized i a in
    let st = pass_stencil i in
    let m : i.width * i.height ≤ 4096 = omega (arith, z.samples, mul-le-mul_left (i.width * i.height) z.deep) in
    let n : length st ≤ 4096 = omega (arith, stencil_length i a) in
    let c = f (cells_length (counts_of st) (omega (arith, protected_le st)) (omega (arith, error_le st)) (omega (arith, corner_le st))) in
    omega (arith, accepted_length i.width i.height i.channels (counts_line (counts_of st) t) st (cell_texel i.samples i.channels) (omega (arith, z.narrow)) (omega (arith, z.high)) (omega (arith, z.shallow)) c (omega arith), z.high)

-- a refused one: the number of its check is at most 60, and its place at most 12,288
refused_fits : (i : Input) → accepted i ≡ false → length i.samples ≤ 12288 → length i.ends ≤ 12288 → length i.colours ≤ 12288 → length (judged_text i (Err (refusal_with (refusal_number i) (refusal_place i)))) ≤ 131072
unfolding judged_text
refused_fits i a l m n =
    let t = refusal_told i a in
    omega (arith, refused_length (number (refusal_with (refusal_number i) (refusal_place i))) (place (refusal_with (refusal_number i) (refusal_place i))) (omega (arith, t.0, refusal_number_le i)) (omega (arith, t.1, refusal_place_le i 12288 (omega arith) l m n)))

-- an answer of either engine
fits_go : (plain : Bool) (i : Input) (t : Bool) → accepted i ≡ t → length i.samples ≤ 12288 → length i.ends ≤ 12288 → length i.colours ≤ 12288 → length (judged_text i (cond plain (of_plain (untested (cond t (Ok (record { counts = counts_of (pass_stencil i); tests = pass_tests i })) (Err (refusal_with (refusal_number i) (refusal_place i)))))) (of_pass (cond t (Ok (record { counts = counts_of (pass_stencil i); tests = pass_tests i })) (Err (refusal_with (refusal_number i) (refusal_place i))))))) ≤ 131072
unfolding untested of_plain of_pass
fits_go true i true a l m n = accepted_fits i None a l (uncounted_length (counts_of (pass_stencil i)))
fits_go false i true a l m n = accepted_fits i (Some (pass_tests i)) a l (λ h. counted_length (counts_of (pass_stencil i)) (pass_tests i) h (omega (arith, tests_fit i a)))
fits_go true i false a l m n = refused_fits i a l m n
fits_go false i false a l m n = refused_fits i a l m n

answer_fits : (plain : Bool) (i : Input) → length i.samples ≤ 12288 → length i.ends ≤ 12288 → length i.colours ≤ 12288 → length (judged_text i (judged plain i)) ≤ 131072
unfolding judged plain_answer answer
answer_fits plain i l m n = fits_go plain i (accepted i) refl l m n

-- by whether there is a breach
printed_go : (plain : Bool) (s : List ℕ) (t : Bool) → eqb (breach s) 65537 ≡ t → length (printed_by plain s) ≤ 131072
printed_go plain s true e =
    let b = eqb-true (breach s) 65537 e in
    subst (λ (l : List ℕ). length l ≤ 131072) (printed_case plain s b) (answer_fits plain (case_of s) (samples_few s b) (omega (arith, ends_le s)) (omega (arith, colours_le s (breach_short s b))))
printed_go plain s false e =
    subst (λ (l : List ℕ). length l ≤ 131072) (printed_bad plain s (eqb-false (breach s) 65537 e)) (omega (arith, bad_length_law (breach s) (omega (arith, breach_le s))))

-- whatever comes in, what is printed has at most 131,072 bytes
pub printed_fits : (plain : Bool) (s : List ℕ) → length (printed_by plain s) ≤ 131072
printed_fits plain s = printed_go plain s (eqb (breach s) 65537) refl
