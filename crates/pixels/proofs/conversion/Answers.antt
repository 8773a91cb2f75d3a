-- Which check answers and with what place, what passing both says, and what then stands in the output. Assumes nothing.
--     by_length, by_samples, by_none  check 40 fails; it passes and check 6 fails; both pass
--     Passed, passed                  what passing both says
--     bytes_accepted, bytes_refused   what the bytes come to
--     samples_accepted, samples_refused  what the samples come to, and the answer
use mathlib.Core.Path.{◌≡◌, refl, sym, ◌∙◌, ap}
use mathlib.Core.Bool.{not, cond}
use mathlib.Core.List.{List}
use Prim.Native.Nat.{ℕ, ◌<◌, ◌≤◌}
use lib.Dec.{T, eqb}
use lib.ListN.{length, get_or}
use lib.Ieee.{Float, nan, binary32, is_nan}
use borrow.Author.Tests.{eq-eqb, ne_eqb, eqb-true, not-false}
use Rattle.ground.specs.Refuse.{first_failing}
use Rattle.ground.proofs.Laws.Refuse.{all_pass}
use Rattle.inputs.specs.Checks.{samples_place, bad_samples}
use Rattle.inputs.proofs.Laws.Checks.{below, not_below, good_samples, good_number}
use Rattle.pixels.specs.Checks.{bad_output, checks, refusal_number, refusal_place, accepted, length_refusal, length_accepted}
use Rattle.pixels.specs.Bytes.{bytes_of, samples_of, bytes_after, samples_after}

-- ---- the checks of samples xs and m bytes
module _ (xs : List Float) (m : ℕ) where
  answers : {k o : ℕ} → k ≡ refusal_number xs m → o ≡ cond (eqb k 6) (samples_place xs) 0 → (k ≡ refusal_number xs m) × (o ≡ refusal_place xs m)
  unfolding refusal_place
  answers e p = (e, p ∙ ap (λ (k : ℕ). cond (eqb k 6) (samples_place xs) 0) e)

  pub by_length : (m ≡ length xs → ⊥) → (40 ≡ refusal_number xs m) × (0 ≡ refusal_place xs m)
  unfolding refusal_number first_failing bad_output
  by_length h = answers (sym (simp (ne_eqb m (length xs) h))) refl

  module _ (e : m ≡ length xs) {p : ℕ} (g : p ≡ samples_place xs) where
    pub by_samples : p < length xs → (6 ≡ refusal_number xs m) × (p ≡ refusal_place xs m)
    unfolding refusal_number first_failing bad_output bad_samples
    by_samples l = answers (sym (simp (eq-eqb m (length xs) e, below (length xs) g l))) g

    pub by_none : length xs ≤ p → (0 ≡ refusal_number xs m) × (0 ≡ refusal_place xs m)
    unfolding refusal_number first_failing bad_output bad_samples
    by_none l = answers (sym (simp (eq-eqb m (length xs) e, not_below (length xs) g l))) refl

-- ---- what passing them says
pub record Passed (xs : List Float) (m : ℕ) : Type 0 where
  pub long : m ≡ length xs
  pub number : (j : ℕ) → j < length xs → T (not (is_nan (get_or xs j nan)))

pub passed : (xs : List Float) (m : ℕ) → refusal_number xs m ≡ 0 → Passed xs m
unfolding refusal_number bad_output
passed xs m e =
    let p = all_pass (checks xs m) refl e in
    record { long = eqb-true m (length xs) (not-false _ p.0); number = λ j l. good_number binary32 (get_or xs j nan) (good_samples xs p.1.0 j l) }

-- ---- what stands in the output
pub bytes_accepted : (xs : List Float) (out new : List ℕ) {n : ℕ} → n ≡ refusal_number xs (length out) → n ≡ 0 → new ≡ bytes_of xs → new ≡ bytes_after xs out
unfolding bytes_after accepted
bytes_accepted xs out new e z w = w ∙ rw (sym e ∙ z)

pub bytes_refused : (xs : List Float) (out : List ℕ) {n : ℕ} → n ≡ refusal_number xs (length out) → (n ≡ 0 → ⊥) → out ≡ bytes_after xs out
unfolding bytes_after accepted
bytes_refused xs out e z = rw (ne_eqb (refusal_number xs (length out)) 0 (λ q. z (e ∙ q)))

pub samples_accepted : (ks : List ℕ) (out new : List Float) → length out ≡ length ks → new ≡ samples_of ks → (0 ≡ length_refusal (length ks) (length out)) × (new ≡ samples_after ks out)
unfolding samples_after length_accepted length_refusal first_failing bad_output
samples_accepted ks out new e w = (sym (simp (eq-eqb (length out) (length ks) e)), w ∙ rw (eq-eqb (length out) (length ks) e))

pub samples_refused : (ks : List ℕ) (out : List Float) → (length out ≡ length ks → ⊥) → (40 ≡ length_refusal (length ks) (length out)) × (out ≡ samples_after ks out)
unfolding samples_after length_accepted length_refusal first_failing bad_output
samples_refused ks out h = (sym (simp (ne_eqb (length out) (length ks) h)), rw (ne_eqb (length out) (length ks) h))
