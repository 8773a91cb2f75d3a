-- Which check answers, and with what place, by what the code has found: n is the answer of checks 1 to 4, p and q are the places of checks 5 and 6. Assumes nothing.
--     below, not_below   a test of a place, by what the code compares
--     content_settings, content_samples, content_outlines   of checks 5 to 9 by themselves, the one that answers
--     by_sizes_law           one of checks 1 to 4 fails
--     by_room            those pass, and check 60 fails
--     by_content         those and check 60 pass, so checks 5 to 9 answer
--     by_settings        the same, and check 5 fails
--     by_samples         the same, and check 6 fails
--     by_outlines        the same, so checks 7 to 9 answer, with r and its place o
--     room_refuses, room_passes   check 60, by what its result says
--     settings_refuse, settings_pass, samples_refuse, outline_refuses   of checks 5 to 9 by themselves again, by what each one's result says
use mathlib.Core.Path.{◌≡◌, refl, sym, ◌∙◌, ap, subst}
use mathlib.Core.Bool.{Bool, true, false, cond}
use mathlib.Core.List.{[], ◌++◌}
use Prim.Native.Nat.{ℕ, ◌<◌, ◌≤◌}
use lib.Dec.{ltb}
use lib.ListN.{length}
use native.Mathlib.Omega.{arith}
use borrow.Author.Tests.{lt-ltb, le-ltb}
use Rattle.ground.specs.Refuse.{first_failing}
use Rattle.inputs.specs.Checks.{Input, bad_room, settings_place, bad_settings, samples_place, bad_samples, outline_checks, bitmap_checks, room_checks, content_checks, size_refusal, outline_refusal, content_refusal, refusal_number, outline_place, place_of, refusal_place}
use Rattle.inputs.specs.declared.refusal.ContentRefusal.{ContentRefusal}
use Rattle.inputs.specs.declared.refusal.Refusal.{Refusal}
use Rattle.inputs.specs.Refusal.{content_number, content_place, number}
use Rattle.inputs.proofs.Laws.Refusal.{content_not_0, number_not_0}
use Rattle.ground.proofs.Laws.Refuse.{all_pass, fails_at, fails_in, passes_to, answer_is}

pub below : {p q : ℕ} (n : ℕ) → p ≡ q → p < n → ltb q n ≡ true
below n e l = lt-ltb _ n (subst (λ (k : ℕ). k < n) e l)

pub not_below : {p q : ℕ} (n : ℕ) → p ≡ q → n ≤ p → ltb q n ≡ false
not_below n e l = le-ltb _ n (subst (λ (k : ℕ). n ≤ k) e l)

module _ (i : Input) where
  -- where check k answers, the place is its own
  answers : {k o : ℕ} → k ≡ refusal_number i → o ≡ place_of i k → (k ≡ refusal_number i) × (o ≡ refusal_place i)
  unfolding refusal_place
  answers e p = (e, p ∙ ap (place_of i) e)

  -- ---- checks 5 to 9 by themselves

  module _ {p : ℕ} (f : p ≡ settings_place i.mode i.settings) where
    pub content_settings : p < 5 → (5 ≡ content_refusal i) × (p ≡ place_of i 5)
    unfolding content_refusal first_failing bad_settings place_of
    content_settings l = (simp (below 5 f l), f)

    module _ (t : 5 ≤ p) {q : ℕ} (g : q ≡ samples_place i.samples) where
      pub content_samples : q < length i.samples → (6 ≡ content_refusal i) × (q ≡ place_of i 6)
      unfolding content_refusal first_failing bad_settings bad_samples place_of
      content_samples l = (simp (not_below 5 f t, below (length i.samples) g l), g)

      pub content_outlines : length i.samples ≤ q → {r o : ℕ} → r ≡ outline_refusal i.colours i.coords i.ends → o ≡ outline_place i.colours i.coords i.ends r → (r ≡ content_refusal i) × (o ≡ place_of i r)
      unfolding content_refusal first_failing bad_settings bad_samples outline_refusal place_of outline_place
      content_outlines l {r} a b = (
        a ∙ simp (not_below 5 f t, not_below (length i.samples) g l),
        b ∙ subst (λ (k : ℕ). outline_place i.colours i.coords i.ends k ≡ place_of i k) (sym a) (answer_is (λ k. outline_place i.colours i.coords i.ends k ≡ place_of i k) (outline_checks i.colours i.coords i.ends) refl (refl, (refl, (refl, tt)))),
      )

  -- ---- all checks

  module _ {n : ℕ} (e : n ≡ size_refusal i.width i.height i.channels (length i.samples) (length i.stencil)) where
    pub by_sizes_law : (n ≡ 0 → ⊥) → (n ≡ refusal_number i) × (0 ≡ refusal_place i)
    unfolding size_refusal refusal_number place_of outline_place
    by_sizes_law h =
        answers (e ∙ sym (fails_in (bitmap_checks i) (room_checks i ++ content_checks i) (λ z. h (e ∙ z))))
        (answer_is (λ k. 0 ≡ place_of i k) (bitmap_checks i) refl (refl, (refl, (refl, (refl, tt)))) ∙ ap (place_of i) (sym e))

    module _ (z : n ≡ 0) where
      -- so the rest answers
      to_room : refusal_number i ≡ first_failing (room_checks i ++ content_checks i)
      unfolding size_refusal refusal_number
      to_room = passes_to (bitmap_checks i) (room_checks i ++ content_checks i) (all_pass (bitmap_checks i) refl (sym e ∙ z))

      pub by_room : bad_room i.width (length i.room) ≡ true → (60 ≡ refusal_number i) × (0 ≡ refusal_place i)
      unfolding place_of outline_place
      by_room b = answers (sym (to_room ∙ fails_at [] (bad_room i.width (length i.room)) 60 (content_checks i) tt b)) refl

      module _ (b : bad_room i.width (length i.room) ≡ false) where
        pub by_content : {k o : ℕ} → (k ≡ content_refusal i) × (o ≡ place_of i k) → (k ≡ refusal_number i) × (o ≡ refusal_place i)
        unfolding content_refusal
        by_content a = answers (a.0 ∙ sym (to_room ∙ passes_to (room_checks i) (content_checks i) (b, tt))) a.1

        module _ {p : ℕ} (f : p ≡ settings_place i.mode i.settings) where
          pub by_settings : p < 5 → (5 ≡ refusal_number i) × (p ≡ refusal_place i)
          by_settings l = by_content (content_settings f l)

          module _ (t : 5 ≤ p) {q : ℕ} (g : q ≡ samples_place i.samples) where
            pub by_samples : q < length i.samples → (6 ≡ refusal_number i) × (q ≡ refusal_place i)
            by_samples l = by_content (content_samples f t g l)

            pub by_outlines : length i.samples ≤ q → {r o : ℕ} → r ≡ outline_refusal i.colours i.coords i.ends → o ≡ outline_place i.colours i.coords i.ends r → (r ≡ refusal_number i) × (o ≡ refusal_place i)
            by_outlines l a b = by_content (content_outlines f t g l a b)

-- ---- the same by what the checks' results say

pub room_refuses : (b : Bool) (r : Refusal) → number r ≡ cond b 60 0 → (b ≡ true) × (number r ≡ 60)
room_refuses true r n = (refl, n)
room_refuses false r n = absurd (number_not_0 r n)

pub room_passes : (b : Bool) → ◌≡◌ {A = ℕ} 0 (cond b 60 0) → b ≡ false
room_passes true n = cc
room_passes false n = refl

pub settings_pass : (b : Bool) → ◌≡◌ {A = ℕ} 0 (cond b 5 0) → b ≡ false
settings_pass true n = cc
settings_pass false n = refl

module _ (i : Input) where
  abbrev bad : Bool
  bad = bad_settings i.mode i.settings

  -- a check 5 that passes, and one that fails
  settings_by : (b : Bool) (p : ℕ) → bad ≡ b → p ≡ settings_place i.mode i.settings → (c : ContentRefusal) → content_number c ≡ cond b 5 0 → content_place c ≡ cond b p 0 → (content_number c ≡ content_refusal i) × (content_place c ≡ place_of i (content_number c))
  unfolding content_refusal first_failing place_of
  settings_by true p e f c n o = (n ∙ simp e, o ∙ f ∙ rw n)
  settings_by false p e f c n o = absurd (content_not_0 c n)

  pub settings_refuse : (c : ContentRefusal) → content_number c ≡ cond bad 5 0 → content_place c ≡ cond bad (settings_place i.mode i.settings) 0 → (content_number c ≡ content_refusal i) × (content_place c ≡ place_of i (content_number c))
  settings_refuse = settings_by bad (settings_place i.mode i.settings) refl refl

  module _ (t : bad ≡ false) where
    pub samples_refuse : {p : ℕ} → (p ≡ samples_place i.samples) × (p < length i.samples) → (6 ≡ content_refusal i) × (p ≡ place_of i 6)
    unfolding content_refusal first_failing bad_samples place_of
    samples_refuse g = (simp (t, below (length i.samples) g.0 g.1), g.0)

    pub outline_refuses : samples_place i.samples ≡ length i.samples → {r o : ℕ} → r ≡ outline_refusal i.colours i.coords i.ends → o ≡ outline_place i.colours i.coords i.ends r → (r ≡ content_refusal i) × (o ≡ place_of i r)
    unfolding content_refusal first_failing bad_samples outline_refusal place_of outline_place
    outline_refuses g {r} a b =
        let l : length i.samples ≤ samples_place i.samples = rw (sym g) (omega arith) in (
          a ∙ simp (t, not_below (length i.samples) refl l),
          b ∙ subst (λ (k : ℕ). outline_place i.colours i.coords i.ends k ≡ place_of i k) (sym a) (answer_is (λ k. outline_place i.colours i.coords i.ends k ≡ place_of i k) (outline_checks i.colours i.coords i.ends) refl (refl, (refl, (refl, tt)))),
        )
