-- Texels that are flipped one after another: the samples of the first k texels are as `flipped_where` has them, the others as they were. Assumes nothing.
--     Flipping        after so many samples
--     flipping-more   a sample that is stored
--     flipping_run    samples that are not flipped
--     flipping_all    after the last
--     alone_next      a texel of which one channel goes by its own comparison
--     three_next      a texel whose first three channels are flipped
--     none_next       a texel that stays
use mathlib.Core.Path.{◌≡◌, sym, ◌∙◌, ap, subst}
use mathlib.Core.Bool.{Bool, true, false}
use mathlib.Core.List.{List}
use Prim.Native.Nat.{ℕ, ◌+◌, ◌*◌, ◌<◌, ◌≤◌}
use native.Mathlib.Omega.{arith}
use lib.ListN.{length, get_or, set, length-set}
use lib.Ieee.{Float, nan}
use Rattle.ground.proofs.Laws.Fill.{Filled, filled_more, filled_run, filled_at_law, filled_all}
use Rattle.inputs.proofs.Laws.Places.{next_row}
use Rattle.signs.specs.Flip.{flip_of, flipped_if}
use Rattle.signs.specs.Signs.{flipped_where}
use Rattle.signs.specs.Inner.{flipped_at}

-- sample j afterwards
abbrev pub after : Float → (ℕ → Bool) → List Float → ℕ → Float
after zero p xs j = flipped_if zero (p j) (get_or xs j nan)

abbrev pub Flipping : Float → (ℕ → Bool) → List Float → ℕ → List Float → Type 0
Flipping zero p xs₀ n xs = Filled nan (after zero p xs₀) xs₀ n xs

module _ (zero : Float) (p : ℕ → Bool) (xs₀ : List Float) where
  pub flipping_all : {n : ℕ} {xs : List Float} → Flipping zero p xs₀ n xs → length xs₀ ≤ n → xs ≡ flipped_where zero p xs₀
  unfolding flipped_where
  flipping_all f l = filled_all nan (after zero p xs₀) xs₀ f l

  stays : (j : ℕ) → p j ≡ false → get_or xs₀ j nan ≡ after zero p xs₀ j
  unfolding flipped_if
  stays j e = simp e

  turned : (j : ℕ) → p j ≡ true → flip_of zero (get_or xs₀ j nan) ≡ after zero p xs₀ j
  unfolding flipped_if
  turned j e = simp e

  -- samples that are not flipped
  pub flipping_run : {n : ℕ} {xs : List Float} (m : ℕ) → Flipping zero p xs₀ n xs → n ≤ m → ((j : ℕ) → n ≤ j → j < m → p j ≡ false) → Flipping zero p xs₀ m xs
  flipping_run m f l same = filled_run nan (after zero p xs₀) xs₀ m f l (λ j a b. stays j (same j a b))

  -- channel c of texel k alone: the others are not flipped
  pub alone_next : {xs : List Float} (k ch c : ℕ) (v : Float) → Flipping zero p xs₀ (k * ch) xs → c < ch → k * ch + c < length xs
      → v ≡ flipped_if zero (p (k * ch + c)) (get_or xs (k * ch + c) nan) → ((j : ℕ) → k * ch ≤ j → j < k * ch + ch → (j ≡ k * ch + c → ⊥) → p j ≡ false)
      → Flipping zero p xs₀ ((k + 1) * ch) (set xs (k * ch + c) v)
  alone_next {xs} k ch c v f l b e same =
      let lo = k * ch in
      let to : Flipping zero p xs₀ (lo + c) xs = flipping_run (lo + c) f (omega arith) (λ j a m. same j a (omega arith) (λ q. absurd (omega arith))) in
      let at : Flipping zero p xs₀ (lo + c + 1) (set xs (lo + c) v) = filled_more nan (after zero p xs₀) xs₀ to b (e ∙ ap (flipped_if zero (p (lo + c))) (f.rest (lo + c) (omega arith))) in
      flipping_run ((k + 1) * ch) at (omega (arith, next_row ch k)) (λ j a m. same j (omega arith) (omega (arith, next_row ch k)) (λ q. absurd (omega arith)))

  -- no channel of texel k
  pub none_next : {xs : List Float} (k ch : ℕ) → Flipping zero p xs₀ (k * ch) xs → ((j : ℕ) → k * ch ≤ j → j < k * ch + ch → p j ≡ false) → Flipping zero p xs₀ ((k + 1) * ch) xs
  none_next k ch f same = flipping_run ((k + 1) * ch) f (omega (arith, next_row ch k)) (λ j a m. same j a (omega (arith, next_row ch k)))

  -- the first three channels of texel k
  pub three_next : {xs : List Float} (k ch : ℕ) → Flipping zero p xs₀ (k * ch) xs → 3 ≤ ch → k * ch + 2 < length xs
      → ((j : ℕ) → k * ch ≤ j → j < k * ch + 3 → p j ≡ true) → ((j : ℕ) → k * ch + 3 ≤ j → j < k * ch + ch → p j ≡ false)
      → Flipping zero p xs₀ ((k + 1) * ch) (flipped_at zero xs (k * ch))
  unfolding flipped_at
  three_next {xs} k ch f l b turn stay =
      let lo = k * ch in
      let v = flip_of zero (get_or xs lo nan) in
      let u = flip_of zero (get_or xs (lo + 1) nan) in
      let w = flip_of zero (get_or xs (lo + 2) nan) in
      let old : (j : ℕ) → lo ≤ j → flip_of zero (get_or xs j nan) ≡ flip_of zero (get_or xs₀ j nan) = λ j a. ap (flip_of zero) (f.rest j a) in
      let one = filled_more nan (after zero p xs₀) xs₀ f (omega arith) (old lo (omega arith) ∙ turned lo (turn lo (omega arith) (omega arith))) in
      let two = filled_more nan (after zero p xs₀) xs₀ one (subst (λ (n : ℕ). lo + 1 < n) (sym (length-set xs lo v)) (omega arith)) (old (lo + 1) (omega arith) ∙ turned (lo + 1) (turn (lo + 1) (omega arith) (omega arith))) in
      let at : lo + 1 + 1 ≡ lo + 2 = omega arith in
      let two' = filled_at_law nan (after zero p xs₀) xs₀ (lo + 2) two at in
      let len : length (set (set xs lo v) (lo + 1) u) ≡ length xs = length-set (set xs lo v) (lo + 1) u ∙ length-set xs lo v in
      let three = filled_more nan (after zero p xs₀) xs₀ two' (subst (λ (n : ℕ). lo + 2 < n) (sym len) b) (old (lo + 2) (omega arith) ∙ turned (lo + 2) (turn (lo + 2) (omega arith) (omega arith))) in
      flipping_run ((k + 1) * ch) three (omega (arith, next_row ch k)) (λ j a m. stay j (omega arith) (omega (arith, next_row ch k)))
