-- The value that a flagged texel gets does not depend on the order in which its three channels are stored, to the last bit. Which texels are flagged may. Assumes nothing.
--     median_rewired       the median of a texel
--     collapse_rewired     what collapsing leaves of a texel that both bitmaps flag
--     pass_rewired         so it is after two accepted passes, with any modes, settings and outlines,
--     pass_rewired_bits    bit for bit,
--     promise_rewired      and after two runs of the public function, by its promise
use mathlib.Core.Path.{◌≡◌, refl, sym, ◌∙◌, ap, subst}
use mathlib.Core.Bool.{Bool, true}
use mathlib.Core.List.{List}
use Prim.Native.Nat.{ℕ, ◌+◌, ◌*◌, ◌/◌, ◌%◌, ◌<◌, ◌≤◌}
use native.Mathlib.Nat.{lt_of_lt_of_le}
use native.Mathlib.Omega.{arith}
use lib.Arith.{digits_lt, digits_div, digits_mod}
use lib.ListN.{get_or, length}
use lib.Ieee.{Float, nan, binary32, to_bits}
use contract.Lifetimes.{Lfts}
use borrow.Fn.Kinds.{Dens}
use borrow.Author.Tests.{lt-ltb}
use Rattle.numbers.specs.Scalar.{median_of}
use Rattle.detectors.proofs.Laws.Texel.{texel_median_is}
use Rattle.correction.specs.Bitmap.{cell_texel}
use Rattle.numbers.specs.Orders.{Number}
use Rattle.numbers.proofs.Laws.Scalar.{median_order}
use Rattle.numbers.proofs.Laws.Bounds.{within_no_nan}
use Rattle.inputs.specs.Checks.{Input, accepted}
use Rattle.inputs.specs.Stencil.{is_error}
use Rattle.correction.specs.Collapse.{cell_median, collapsed_sample, collapsed}
use Rattle.correction.specs.Rewired.{Wiring, rgb, rbg, grb, gbr, brg, bgr, wired, Rewired, Singles}
use Rattle.correction.specs.Pass.{flags, pass_samples, samples_after, number_of}
use Rattle.ground.proofs.Laws.Fill.{tab_at}
use Rattle.inputs.proofs.Laws.Checks.{sizes, passed}
use Rattle.correction.proofs.pass.msdf_error_correction.Kinds.{ps}
use Rattle.correction.proofs.pass.msdf_error_correction.Reads as entry
use Rattle.correction.proofs.Laws.Answer.{zero_accepts}
use Rattle.correction.proofs.Laws.Finite.{sample_within}
use Rattle.correction.proofs.Laws.Leaves.{number_zero, accepted_leaves, cell_error, given}

-- three numbers in another order
reordered : (order : Wiring) (v : ℕ → Float) → Number binary32 (v 0) → Number binary32 (v 1) → Number binary32 (v 2) → median_of (v 0) (v 1) (v 2) ≡ median_of (v (wired order 0)) (v (wired order 1)) (v (wired order 2))
reordered rgb v p q r = refl
reordered rbg v p q r = (median_order binary32 (v 0) (v 1) (v 2) p q r).0
reordered grb v p q r = (median_order binary32 (v 0) (v 1) (v 2) p q r).1
reordered gbr v p q r = (median_order binary32 (v 0) (v 1) (v 2) p q r).2
reordered brg v p q r = (median_order binary32 (v 0) (v 1) (v 2) p q r).3
reordered bgr v p q r = (median_order binary32 (v 0) (v 1) (v 2) p q r).4

cell_is : (xs : List Float) (ch k : ℕ) → cell_median xs ch k ≡ median_of (get_or xs (k * ch + 0) nan) (get_or xs (k * ch + 1) nan) (get_or xs (k * ch + 2) nan)
cell_is xs ch k = texel_median_is (cell_texel xs ch k)

module _ (order : Wiring) (xs ys : List Float) (ch n : ℕ) (same : Rewired order ch xs ys) (three : 3 ≤ ch) (long : length xs ≡ n * ch) (all : (j : ℕ) → j < length xs → Number binary32 (get_or xs j nan)) where
  at : (k r : ℕ) → k < n → r < 3 → k * ch + r < length xs
  at k r l m = subst (λ (z : ℕ). k * ch + r < z) (sym long) (digits_lt l (lt_of_lt_of_le m three))

  pub median_rewired : (k : ℕ) → k < n → cell_median xs ch k ≡ cell_median ys ch k
  median_rewired k l =
      let v : ℕ → Float = λ r. get_or xs (k * ch + r) nan in
      cell_is xs ch k
      ∙ reordered order v (all (k * ch + 0) (at k 0 l (omega arith))) (all (k * ch + 1) (at k 1 l (omega arith))) (all (k * ch + 2) (at k 2 l (omega arith)))
      ∙ rw (sym (same.channels k 0 (omega arith)), sym (same.channels k 1 (omega arith)), sym (same.channels k 2 (omega arith)), cell_is ys ch k)

  -- a sample of a flagged texel after collapsing
  flat : (zs : List Float) (flag : ℕ → Bool) → length zs ≡ length xs → (k r : ℕ) → k < n → r < 3 → flag k ≡ true → get_or (collapsed zs ch flag) (k * ch + r) nan ≡ cell_median zs ch k
  unfolding collapsed collapsed_sample
  flat zs flag e k r l m f =
      tab_at (length zs) (collapsed_sample zs ch flag) (k * ch + r) nan (subst (λ (z : ℕ). k * ch + r < z) (sym e) (at k r l m))
      ∙ rw (digits_div k (lt_of_lt_of_le m three), digits_mod k (lt_of_lt_of_le m three)) (simp (f, lt-ltb r 3 m))

  pub collapse_rewired : (flag flag' : ℕ → Bool) (k r : ℕ) → k < n → r < 3 → flag k ≡ true → flag' k ≡ true → get_or (collapsed xs ch flag) (k * ch + r) nan ≡ get_or (collapsed ys ch flag') (k * ch + r) nan
  collapse_rewired flag flag' k r l m f g = flat xs flag refl k r l m f ∙ median_rewired k l ∙ sym (flat ys flag' same.long k r l m g)

-- Texel k of two accepted bitmaps of the same sizes, the second rewired.
pub pass_rewired : (order : Wiring) (i j : Input) → accepted i ≡ true → accepted j ≡ true → i.width ≡ j.width → i.height ≡ j.height → i.channels ≡ j.channels
    → Singles i.samples → Rewired order i.channels i.samples j.samples
    → (k r : ℕ) → k < i.width * i.height → r < 3 → flags i (k % i.width) (k / i.width) ≡ true → flags j (k % j.width) (k / j.width) ≡ true
    → get_or (samples_after i) (k * i.channels + r) nan ≡ get_or (samples_after j) (k * j.channels + r) nan
unfolding pass_samples
pass_rewired order i j p q w h ch fit same k r l m f g =
    let o = passed i (number_zero i p) in
    let z = sizes i.width i.height i.channels (length i.samples) (length i.stencil) o.sizes in
    ap (λ (xs : List Float). get_or xs (k * i.channels + r) nan) (accepted_leaves i p).1
    ∙ collapse_rewired order i.samples j.samples i.channels (i.width * i.height) same z.channels.0 z.samples (λ n b. (fit n b, within_no_nan 20 _ (sample_within _ (o.samples n b)))) (λ n. flags i (n % i.width) (n / i.width)) (λ n. flags j (n % j.width) (n / j.width)) k r l m f g
    ∙ ap (λ (c : ℕ). get_or (collapsed j.samples c (λ n. flags j (n % j.width) (n / j.width))) (k * c + r) nan) ch
    ∙ ap (λ (xs : List Float). get_or xs (k * j.channels + r) nan) (sym (accepted_leaves j q).1)

pub pass_rewired_bits : (order : Wiring) (i j : Input) → accepted i ≡ true → accepted j ≡ true → i.width ≡ j.width → i.height ≡ j.height → i.channels ≡ j.channels
    → Singles i.samples → Rewired order i.channels i.samples j.samples
    → (k r : ℕ) → k < i.width * i.height → r < 3 → flags i (k % i.width) (k / i.width) ≡ true → flags j (k % j.width) (k / j.width) ≡ true
    → to_bits binary32 (get_or (samples_after i) (k * i.channels + r) nan) ≡ to_bits binary32 (get_or (samples_after j) (k * j.channels + r) nan)
pass_rewired_bits order i j p q w h ch fit same k r l m f g = ap (to_bits binary32) (pass_rewired order i j p q w h ch fit same k r l m f g)

-- Two runs of `msdf_error_correction` that answer 0: each keeps the promise as it is read from the source, of the arguments a, the answer z and the arguments at exit e, of which the samples are the fourth and the stencil is the fifth.
pub promise_rewired : (order : Wiring) (κs κs' : Lfts 6) (a : Dens κs ps) (a' : Dens κs' ps) (z z' : _) (e e' : _) → entry.Post κs a z e → entry.Post κs' a' z' e' → number_of z ≡ 0 → number_of z' ≡ 0
    → (given κs a).width ≡ (given κs' a').width → (given κs a).height ≡ (given κs' a').height → (given κs a).channels ≡ (given κs' a').channels
    → Singles (given κs a).samples → Rewired order (given κs a).channels (given κs a).samples (given κs' a').samples
    → (k r : ℕ) → k < (given κs a).width * (given κs a).height → r < 3 → is_error (get_or e.1.1.1.1.0.now k 0) ≡ true → is_error (get_or e'.1.1.1.1.0.now k 0) ≡ true
    → get_or e.1.1.1.0.now (k * (given κs a).channels + r) nan ≡ get_or e'.1.1.1.0.now (k * (given κs' a').channels + r) nan
promise_rewired order κs κs' a a' z z' e e' p p' n n' w h ch fit same k r l m f g =
    let i = given κs a in
    let j = given κs' a' in
    let u : accepted i ≡ true = zero_accepts i z p.0 n in
    let v : accepted j ≡ true = zero_accepts j z' p'.0 n' in
    let l' : k < j.width * j.height = subst (λ (b : ℕ). k < b * j.height) w (subst (λ (b : ℕ). k < i.width * b) h l) in
    ap (λ (xs : List Float). get_or xs (k * i.channels + r) nan) p.1.1.0
    ∙ pass_rewired order i j u v w h ch fit same k r l m
    (sym (cell_error i u k l) ∙ ap (λ (st : List ℕ). is_error (get_or st k 0)) (sym p.1.0) ∙ f)
    (sym (cell_error j v k l') ∙ ap (λ (st : List ℕ). is_error (get_or st k 0)) (sym p'.1.0) ∙ g)
    ∙ ap (λ (xs : List Float). get_or xs (k * j.channels + r) nan) (sym p'.1.1.0)
