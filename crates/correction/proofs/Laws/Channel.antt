-- The channel that carries a texel's median. Assumes nothing.
--     pass_carries      of an accepted bitmap's texel k: the channel is below 3, its sample compares equal to the median, and no lower one's does
--     collapse_zeros    (−0, 5, +0) is collapsed to +0, the median's own zero, though its channel is 0, which holds −0
--     collapse_carries  of a texel that the pass has collapsed it is 0, so that it tells something only before the collapse
use mathlib.Core.Path.{◌≡◌, refl, sym, ◌∙◌, ap, subst}
use mathlib.Core.Bool.{true, false, not}
use mathlib.Core.List.{List, [], ◌∷◌}
use Prim.Native.Nat.{ℕ, zero, suc, ◌+◌, ◌*◌, ◌<◌}
use native.Mathlib.Nat.{lt_of_lt_of_le}
use native.Mathlib.Omega.{arith}
use lib.Arith.{digits_lt}
use lib.Dec.{T}
use lib.IntN.{pos}
use lib.Ieee.{Float, nan, fin, lt, eq, is_nan}
use lib.ListN.{length, get_or}
use Rattle.ground.specs.Lists.{tab}
use Rattle.numbers.specs.Scalar.{min_of, max_of, median_of, lowest_equal}
use Rattle.numbers.proofs.Laws.Order.{nought, minus_nought}
use Rattle.numbers.proofs.Laws.Bounds.{within_no_nan}
use Rattle.detectors.specs.Texel.{channel, texel_middle, texel_median}
use Rattle.detectors.proofs.Laws.Texel.{texel_median_keeps, texel_channel_below, texel_channel_carries, texel_channel_lowest, texel_channel_flat}
use Rattle.inputs.specs.Checks.{Input, accepted}
use Rattle.inputs.specs.Stencil.{is_error}
use Rattle.inputs.proofs.Laws.Checks.{sizes, passed}
use Rattle.correction.specs.Bitmap.{cell_texel}
use Rattle.correction.specs.Collapse.{cell_median, collapsed_sample, collapsed}
use Rattle.correction.specs.Pass.{stencil_after, samples_after}
use Rattle.correction.proofs.Laws.Leaves.{number_zero}
use Rattle.correction.proofs.Laws.Finite.{sample_within}
use Rattle.correction.proofs.Laws.Monotony.{flagged_collapses}

-- the smallest example in which the median's value and its channel's differ in a bit
abbrev pub zeros : List Float
zeros = minus_nought ∷ fin false 5 (pos 0) ∷ nought ∷ []

pub collapse_zeros : (collapsed zeros 3 (λ k. true) ≡ nought ∷ nought ∷ nought ∷ []) × ((texel_middle (cell_texel zeros 3 0)).channel ≡ 0)
unfolding collapsed collapsed_sample tab texel_middle median_of min_of max_of lowest_equal lt eq is_nan
collapse_zeros = (refl, refl)

-- channel c of a cell's texel is one of the samples
sample_is : (i : Input) (k c : ℕ) → c < 3 → channel (cell_texel i.samples i.channels k) c ≡ get_or i.samples (k * i.channels + c) nan
sample_is i k zero l = refl
sample_is i k (suc zero) l = refl
sample_is i k (suc (suc zero)) l = refl
sample_is i k (suc (suc (suc c))) l = absurd (omega (arith, l))

module _ (i : Input) (p : accepted i ≡ true) (k : ℕ) (l : k < i.width * i.height) where
  number : (c : ℕ) → c < 3 → T (not (is_nan (get_or i.samples (k * i.channels + c) nan)))
  number c m =
      let q = passed i (number_zero i p) in
      let z = sizes i.width i.height i.channels (length i.samples) (length i.stencil) q.sizes in
      let h : k * i.channels + c < length i.samples = subst (λ (n : ℕ). k * i.channels + c < n) (sym z.samples) (digits_lt l (lt_of_lt_of_le m z.channels.0)) in
      within_no_nan 20 (get_or i.samples (k * i.channels + c) nan) (sample_within (get_or i.samples (k * i.channels + c) nan) (q.samples (k * i.channels + c) h))

  median_number : T (not (is_nan (cell_median i.samples i.channels k)))
  median_number = texel_median_keeps (λ (v : Float). T (not (is_nan v))) (cell_texel i.samples i.channels k) (number 0 (omega arith)) (number 1 (omega arith)) (number 2 (omega arith))

  pub pass_carries : let m = texel_middle (cell_texel i.samples i.channels k) in
      (m.channel < 3) × T (eq (get_or i.samples (k * i.channels + m.channel) nan) m.value) × ((c : ℕ) → c < m.channel → eq (get_or i.samples (k * i.channels + c) nan) m.value ≡ false)
  pass_carries =
      let a = cell_texel i.samples i.channels k in
      let b = texel_channel_below a in (
        b,
        subst (λ (v : Float). T (eq v (texel_median a))) (sample_is i k (texel_middle a).channel b) (texel_channel_carries a median_number),
        λ c n. ap (λ (v : Float). eq v (texel_median a)) (sym (sample_is i k c (omega (arith, b, n)))) ∙ texel_channel_lowest a c n,
      )

  pub collapse_carries : is_error (get_or (stencil_after i) k 0) ≡ true → (texel_middle (cell_texel (samples_after i) i.channels k)).channel ≡ 0
  collapse_carries e =
      let flat : (c : ℕ) → c < 3 → get_or (samples_after i) (k * i.channels + c) nan ≡ cell_median i.samples i.channels k = λ c m. flagged_collapses i p k c l m e in
      texel_channel_flat (cell_texel (samples_after i) i.channels k) (cell_median i.samples i.channels k) median_number (flat 0 (omega arith)) (flat 1 (omega arith)) (flat 2 (omega arith))
