-- Collapsing, and one texel of a loop that collapses: the samples before it are as `collapsed` has them, the others as they were. Assumes nothing.
--     kept             a texel that is not flagged stays
--     flat             a flagged one has its median three times, and what is left of it stays
--     collapsed_same   collapsing rests on the flags of the n texels alone
--     collapsed_none   with no texel flagged it leaves all as it was
use mathlib.Core.Path.{◌≡◌, sym, ◌∙◌, ap, subst}
use mathlib.Core.Bool.{Bool, true, false, cond, ◌&&◌}
use mathlib.Core.List.{List, [], ◌∷◌}
use Prim.Native.Nat.{ℕ, zero, suc, ◌+◌, ◌-◌, ◌*◌, ◌/◌, ◌%◌, ◌<◌, ◌≤◌}
use native.Mathlib.Nat.{add-zero, zero-lt-suc, not-suc-le-zero, mul-zero, div-lt_iff_lt-mul}
use native.Mathlib.Omega.{arith}
use lib.ListN.{length, get_or, set, length-set}
use lib.Dec.{ltb}
use lib.Seq.{ext_get_or}
use lib.Arith.{digits_div, digits_mod}
use lib.Ieee.{Float, nan}
use borrow.Author.Tests.{lt-ltb, le-ltb}
use Rattle.detectors.specs.Texel.{texel_median}
use Rattle.ground.specs.Lists.{tab}
use Rattle.ground.proofs.Laws.Fill.{tab_length, tab_at, tab_same, Filled, filled_more, filled_run, filled_at_law}
use Rattle.correction.specs.Collapse.{cell_median, collapsed_sample, collapsed}
use Rattle.correction.specs.Numbered.{collapsed_at}

-- sample r of texel k after collapsing
at_channel : (flag : ℕ → Bool) (xs : List Float) (ch k r : ℕ) → r < ch → collapsed_sample xs ch flag (k * ch + r) ≡ cond (flag k && ltb r 3) (cell_median xs ch k) (get_or xs (k * ch + r) nan)
unfolding collapsed_sample
at_channel flag xs ch k r l = rw (digits_div k l, digits_mod k l)

module _ (flag : ℕ → Bool) (xs₀ : List Float) (ch : ℕ) (xs : List Float) (k at : ℕ) (here : at ≡ k * ch) (i : Filled nan (collapsed_sample xs₀ ch flag) xs₀ at xs) where
  -- a texel that is not flagged stays
  pub kept : flag k ≡ false → Filled nan (collapsed_sample xs₀ ch flag) xs₀ (at + ch) xs
  kept e =
      filled_run nan (collapsed_sample xs₀ ch flag) xs₀ (at + ch) i (omega arith)
      (λ j l m.
      let r : j - at < ch = omega arith in
      let q : j ≡ k * ch + (j - at) = omega (arith, here) in
      subst (λ (n : ℕ). get_or xs₀ n nan ≡ collapsed_sample xs₀ ch flag n) (sym q) (sym (at_channel flag xs₀ ch k (j - at) r ∙ simp e)))

  module _ (e : flag k ≡ true) (t : 3 ≤ ch) (l : at + 2 < length xs) where
    m : Float
    m = texel_median (get_or xs at nan ∷ get_or xs (at + 1) nan ∷ get_or xs (at + 2) nan ∷ [])

    same : m ≡ cell_median xs₀ ch k
    unfolding m
    same = rw (i.rest at (omega arith), i.rest (at + 1) (omega arith), i.rest (at + 2) (omega arith), here, add-zero (k * ch))

    value : (r : ℕ) → r < 3 → m ≡ collapsed_sample xs₀ ch flag (at + r)
    value r b = same ∙ sym (rw (here, at_channel flag xs₀ ch k r (omega arith)) (simp (e, lt-ltb r 3 b)))

    -- a flagged texel has its median three times, and what is left of it stays
    pub flat : Filled nan (collapsed_sample xs₀ ch flag) xs₀ (at + ch) (collapsed_at xs at)
    unfolding m
    flat =
        let f = collapsed_sample xs₀ ch flag in
        let p₁ : Filled nan f xs₀ (at + 1) (set xs at m) = filled_more nan f xs₀ i (omega arith) (rw add-zero at (value 0 (omega arith))) in
        let p₂ : Filled nan f xs₀ (at + 2) (set (set xs at m) (at + 1) m) = filled_at_law nan f xs₀ (at + 2) (filled_more nan f xs₀ p₁ (simp length-set (omega arith)) (value 1 (omega arith))) (omega arith) in
        let p₃ : Filled nan f xs₀ (at + 2 + 1) (set (set (set xs at m) (at + 1) m) (at + 2) m) = filled_more nan f xs₀ p₂ (simp length-set (omega arith)) (value 2 (omega arith)) in
        filled_run nan f xs₀ (at + ch) p₃ (omega arith)
        (λ j a b.
        let r : j - at < ch = omega arith in
        let u : 3 ≤ j - at = omega arith in
        let q : j ≡ k * ch + (j - at) = omega (arith, here) in
        subst (λ (n : ℕ). get_or xs₀ n nan ≡ f n) (sym q) (sym (at_channel flag xs₀ ch k (j - at) r ∙ simp (e, le-ltb (j - at) 3 u))))

-- ---- the whole

-- sample j is one of a texel below n
texel_lt : (ch n j : ℕ) → j < n * ch → j / ch < n
texel_lt zero n j l = absurd (not-suc-le-zero (subst (λ (m : ℕ). j < m) (mul-zero n) l))
texel_lt (suc ch) n j l = (div-lt_iff_lt-mul (zero-lt-suc ch)).1 l

pub collapsed_same : (xs : List Float) (ch n : ℕ) (f g : ℕ → Bool) → length xs ≡ n * ch → ((k : ℕ) → k < n → f k ≡ g k) → collapsed xs ch f ≡ collapsed xs ch g
unfolding collapsed collapsed_sample
collapsed_same xs ch n f g e h =
    tab_same (length xs) (collapsed_sample xs ch f) (collapsed_sample xs ch g)
    (λ j l. ap (λ (b : Bool). cond (b && ltb (j % ch) 3) (cell_median xs ch (j / ch)) (get_or xs j nan)) (h (j / ch) (texel_lt ch n j (subst (λ (m : ℕ). j < m) e l))))

pub collapsed_none : (xs : List Float) (ch : ℕ) → collapsed xs ch (λ k. false) ≡ xs
unfolding collapsed collapsed_sample
collapsed_none xs ch =
    let f : ℕ → Float = collapsed_sample xs ch (λ k. false) in
    ext_get_or nan (tab (length xs) f) xs (tab_length (length xs) f)
    (λ j l. tab_at (length xs) f j nan (subst (λ (n : ℕ). j < n) (tab_length (length xs) f) l))
