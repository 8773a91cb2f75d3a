-- The answer of the pass is fixed by its case, its number, its place, its counts and its tests. Assumes nothing.
--     parts_fix         two answers with the same case and the same six numbers are the same
--     answer_answers    the answer that is defined has those of its input
--     refusal_told      what refuses an input says its number and its place
--     answers_fix       and whatever has them is that answer
use mathlib.Core.Path.{◌≡◌, refl, sym, ◌∙◌, ap, subst}
use mathlib.Core.Bool.{Bool, true, false, cond, true≢false}
use borrow.Author.Tests.{eqb-true, eq-eqb}
use Prim.Native.Nat.{ℕ}
use Rattle.std.specs.Prelude.{◌⊎◌, Ok, Err}
use Rattle.std.proofs.Common.{inl, inr}
use Rattle.inputs.specs.Refusal.{number, place, refusal_with}
use Rattle.inputs.proofs.Laws.Refusal.{refusals_alike}
use Rattle.ground.specs.Refuse.{first_failing}
use Rattle.inputs.specs.Checks.{Input, accepted, refusal_number, place_of, outline_place, refusal_place}
use Rattle.correction.specs.Pass.{Answer, pass_stencil, pass_tests, is_accepted, number_of, place_in, protected_in, errors_in, corners_in, tests_in, protected_cells, error_cells, corner_cells, test_count, Answers, answer}
use Rattle.inputs.specs.Stencil.{protected_count, error_count, corner_count, counts_of}

-- An answer is fixed by whether it accepts, its number, its place, its three counts and its tests.
pub parts_fix : (r r' : Answer) → is_accepted r ≡ is_accepted r' → number_of r ≡ number_of r' → place_in r ≡ place_in r' → protected_in r ≡ protected_in r' → errors_in r ≡ errors_in r' → corners_in r ≡ corners_in r' → tests_in r ≡ tests_in r' → r ≡ r'
unfolding is_accepted number_of place_in protected_in errors_in corners_in tests_in
parts_fix (Ok c) (Ok c') a n p q e k m = λ i. Ok (record { counts = record { protected = q i; error = e i; corner = k i }; tests = m i })
parts_fix (Ok c) (Err s) a n p q e k m = absurd (true≢false a)
parts_fix (Err r) (Ok c) a n p q e k m = absurd (true≢false (sym a))
parts_fix (Err r) (Err s) a n p q e k m = ap Err (refusals_alike r s n p)

-- the place of no check is 0
no_place : (i : Input) → refusal_number i ≡ 0 → 0 ≡ refusal_place i
unfolding refusal_place place_of outline_place
no_place i z = rw z

-- a number is none of a check, or that of a refusal which has it and its place
abbrev Told : Input → ℕ → Type 0
Told i n = (n ≡ 0) ⊎ ((number (refusal_with n (place_of i n)) ≡ n) × (place (refusal_with n (place_of i n)) ≡ place_of i n))

either : (i : Input) (b : Bool) (n m : ℕ) → Told i n → Told i m → Told i (cond b n m)
either i true n m p q = p
either i false n m p q = q

-- so is the number of the first check that fails
numbers_told : (i : Input) → Told i (refusal_number i)
unfolding refusal_number first_failing place_of outline_place
numbers_told i =
    either i _ 1 _ (inr (refl, refl))
    (either i _ 2 _ (inr (refl, refl))
    (either i _ 3 _ (inr (refl, refl))
    (either i _ 4 _ (inr (refl, refl))
    (either i _ 60 _ (inr (refl, refl))
    (either i _ 5 _ (inr (refl, refl))
    (either i _ 6 _ (inr (refl, refl))
    (either i _ 7 _ (inr (refl, refl))
    (either i _ 8 _ (inr (refl, refl))
    (either i _ 9 _ (inr (refl, refl))
    (inl refl))))))))))

-- so what refuses an input says its number and its place
pub refusal_told : (i : Input) → accepted i ≡ false → (number (refusal_with (refusal_number i) (refusal_place i)) ≡ refusal_number i) × (place (refusal_with (refusal_number i) (refusal_place i)) ≡ refusal_place i)
unfolding accepted refusal_place
refusal_told i p = elim (numbers_told i) [ inl z ↦ absurd (true≢false (sym (eq-eqb _ _ z) ∙ p)) | inr w ↦ w ]

-- by whether the input is accepted
by_case : (i : Input) (b : Bool) → accepted i ≡ b → Answers i (cond b (Ok (record { counts = counts_of (pass_stencil i); tests = pass_tests i })) (Err (refusal_with (refusal_number i) (refusal_place i))))
unfolding accepted refusal_place is_accepted number_of place_in protected_in errors_in corners_in tests_in protected_cells error_cells corner_cells test_count
by_case i true p =
    let z = eqb-true (refusal_number i) 0 p in
    record { accepts = sym p; number = sym z; place = no_place i z; protected = ap (λ (b : Bool). cond b (protected_count (pass_stencil i)) 0) (sym p); errors = ap (λ (b : Bool). cond b (error_count (pass_stencil i)) 0) (sym p); corners = ap (λ (b : Bool). cond b (corner_count (pass_stencil i)) 0) (sym p); tests = ap (λ (b : Bool). cond b (pass_tests i) 0) (sym p) }
by_case i false p =
    let w = refusal_told i p in
    record { accepts = sym p; number = w.0; place = w.1; protected = ap (λ (b : Bool). cond b (protected_count (pass_stencil i)) 0) (sym p); errors = ap (λ (b : Bool). cond b (error_count (pass_stencil i)) 0) (sym p); corners = ap (λ (b : Bool). cond b (corner_count (pass_stencil i)) 0) (sym p); tests = ap (λ (b : Bool). cond b (pass_tests i) 0) (sym p) }

-- The answer that is defined accepts where no check fails, and has the number, the place, the counts and the tests of its input.
pub answer_answers : (i : Input) → Answers i (answer i)
unfolding answer
answer_answers i = by_case i (accepted i) refl

-- So has an answer that equals it.
pub as_answered : (i : Input) (r : Answer) → r ≡ answer i → Answers i r
as_answered i r e = subst (Answers i) (sym e) (answer_answers i)

-- Two answers that an input permits are the same.
pub answers_alike : (i : Input) (r r' : Answer) → Answers i r → Answers i r' → r ≡ r'
answers_alike i r r' p q = parts_fix r r' (p.accepts ∙ sym q.accepts) (p.number ∙ sym q.number) (p.place ∙ sym q.place) (p.protected ∙ sym q.protected) (p.errors ∙ sym q.errors) (p.corners ∙ sym q.corners) (p.tests ∙ sym q.tests)

-- So whatever answer an input permits is the one that is defined.
pub answers_fix : (i : Input) (r : Answer) → Answers i r → r ≡ answer i
answers_fix i r p = answers_alike i r (answer i) p (answer_answers i)

-- An answer with the number 0 is of an accepted input.
pub zero_accepts : (i : Input) (r : Answer) → Answers i r → number_of r ≡ 0 → accepted i ≡ true
unfolding accepted
zero_accepts i r p n = eq-eqb (refusal_number i) 0 (sym p.number ∙ n)
