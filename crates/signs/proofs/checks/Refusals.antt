-- Which check answers, and with what place, by what the code has found: n is the answer of checks 1 to 3, p the place of check 6. Assumes nothing.
--     by_sizes_law     one of checks 1 to 3 fails
--     by_samples   those pass, and check 6 fails
--     by_zero      the same, and check 10
--     by_filled    the same, and check 11
--     by_matches   the same, and check 12
--     by_none      all pass
use mathlib.Core.Path.{◌≡◌, refl, sym, ◌∙◌, ap}
use mathlib.Core.Bool.{true, false, cond}
use Prim.Native.Nat.{ℕ, ◌*◌, ◌<◌, ◌≤◌}
use lib.Dec.{eqb}
use lib.ListN.{length}
use Rattle.ground.specs.Refuse.{first_failing}
use Rattle.ground.proofs.Laws.Refuse.{all_pass, fails_in, passes_to, answer_is}
use Rattle.inputs.specs.Checks.{samples_place, bad_samples}
use Rattle.inputs.proofs.Laws.Checks.{below, not_below}
use Rattle.signs.specs.Checks.{Input, bad_zero, bad_filled, bad_matches, size_checks, content_checks, size_refusal, refusal_number, refusal_place}

module _ (i : Input) where
  -- the place of check k
  place : ℕ → ℕ
  place k = cond (eqb k 6) (samples_place i.samples) 0

  answers : {k o : ℕ} → k ≡ refusal_number i → o ≡ place k → (k ≡ refusal_number i) × (o ≡ refusal_place i)
  unfolding refusal_place place
  answers e p = (e, p ∙ ap (λ (k : ℕ). cond (eqb k 6) (samples_place i.samples) 0) e)

  module _ {n : ℕ} (e : n ≡ size_refusal i.width i.height i.channels (length i.samples)) where
    pub by_sizes_law : (n ≡ 0 → ⊥) → (n ≡ refusal_number i) × (0 ≡ refusal_place i)
    unfolding size_refusal refusal_number place
    by_sizes_law h =
        answers (e ∙ sym (fails_in (size_checks i.width i.height i.channels (length i.samples)) (content_checks i) (λ z. h (e ∙ z))))
        (answer_is (λ k. 0 ≡ place k) (size_checks i.width i.height i.channels (length i.samples)) refl (refl, (refl, (refl, tt))) ∙ ap place (sym e))

    module _ (z : n ≡ 0) where
      -- so the rest answers
      rest : refusal_number i ≡ first_failing (content_checks i)
      unfolding size_refusal refusal_number
      rest = passes_to (size_checks i.width i.height i.channels (length i.samples)) (content_checks i) (all_pass (size_checks i.width i.height i.channels (length i.samples)) refl (sym e ∙ z))

      module _ {p : ℕ} (g : p ≡ samples_place i.samples) where
        pub by_samples : p < length i.samples → (6 ≡ refusal_number i) × (p ≡ refusal_place i)
        unfolding first_failing bad_samples place
        by_samples l = answers (sym (rest ∙ simp (below (length i.samples) g l))) g

        module _ (t : length i.samples ≤ p) where
          good : bad_samples i.samples ≡ false
          unfolding bad_samples
          good = not_below (length i.samples) g t

          pub by_zero : bad_zero i.zero ≡ true → (10 ≡ refusal_number i) × (0 ≡ refusal_place i)
          unfolding first_failing place
          by_zero b = answers (sym (rest ∙ simp (good, b))) refl

          module _ (b : bad_zero i.zero ≡ false) where
            pub by_filled : bad_filled (i.width * i.height) i.filled ≡ true → (11 ≡ refusal_number i) × (0 ≡ refusal_place i)
            unfolding first_failing place
            by_filled f = answers (sym (rest ∙ simp (good, b, f))) refl

            module _ (f : bad_filled (i.width * i.height) i.filled ≡ false) where
              pub by_matches : bad_matches (i.width * i.height) (length i.matches) ≡ true → (12 ≡ refusal_number i) × (0 ≡ refusal_place i)
              unfolding first_failing place
              by_matches m = answers (sym (rest ∙ simp (good, b, f, m))) refl

              pub by_none : bad_matches (i.width * i.height) (length i.matches) ≡ false → (0 ≡ refusal_number i) × (0 ≡ refusal_place i)
              unfolding first_failing place
              by_none m = answers (sym (rest ∙ simp (good, b, f, m))) refl
