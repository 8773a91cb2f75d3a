-- Demand 3: a stricter pass flags no texel that the other does not. Assumes nothing.
--     flags_fall          of the definition of a flag
--     monotony            of what the pass leaves in the stencil
--     runs_monotony       of any two answers and stencils that are as defined
--     promise_monotony    of two runs of the public function, by its promise
--     collapse_monotony   of the samples
--     errors_fall         of the number of errors
--     ratio_monotony      where the ratio alone is raised
use mathlib.Core.Path.{◌≡◌, refl, sym, ◌∙◌, ap, subst}
use mathlib.Core.Bool.{Bool, true, false, not, true≢false}
use mathlib.Core.List.{List, [], ◌∷◌}
use mathlib.Core.Logic.{dite}
use Prim.Native.Nat.{ℕ, ◌+◌, ◌*◌, ◌/◌, ◌%◌, ◌≤◌, ◌<◌}
use native.Mathlib.Nat.{le_refl, lt_of_lt_of_le}
use native.Mathlib.Decide.{dec_lt}
use native.Mathlib.Omega.{arith}
use lib.Arith.{digits_lt, digits_div, digits_mod}
use lib.ListN.{get_or, length, get_or-eq_default}
use lib.Dec.{T, eqb}
use lib.Ieee.{Float, nan, le}
use contract.Lifetimes.{Lfts}
use borrow.Fn.Kinds.{Dens}
use borrow.Author.Tests.{ne_eqb, lt-ltb}
use Rattle.numbers.proofs.Laws.Order as Order
use Rattle.numbers.proofs.Laws.Order.{nought}
use Rattle.ranges.specs.declared.config.Settings.{Settings}
use Rattle.correction.specs.Pass.{Answer}
use Rattle.inputs.specs.Stencil.{is_error, error_count}
use Rattle.ranges.specs.Config.{disabled}
use Rattle.inputs.specs.Checks.{Input, bad_length, accepted}
use Rattle.correction.specs.Corners.{Segment, contours}
use Rattle.correction.specs.Errors.{has_artifact}
use Rattle.correction.specs.Collapse.{cell_median, collapsed, collapsed_sample}
use Rattle.correction.specs.Pass.{texels, protects, flags, pass_samples, number_of, Answers, stencil_after, samples_after}
use Rattle.correction.specs.Stricter.{Outlines, Stricter, with_ratio}
use Rattle.correction.specs.Stricter.Outlines.{none, kept}
use Rattle.ground.proofs.Laws.Bools.{and_implies}
use Rattle.ground.proofs.Laws.Fill.{tab_at}
use Rattle.inputs.proofs.Laws.Stencil.{clear_says, error_falls}
use Rattle.inputs.proofs.Laws.Checks.{sizes, passed}
use Rattle.correction.proofs.pass.msdf_error_correction.Kinds.{ps}
use Rattle.correction.proofs.pass.msdf_error_correction.Reads as entry
use Rattle.correction.proofs.Laws.Answer.{zero_accepts}
use Rattle.correction.proofs.Laws.Leaves.{number_zero, accepted_leaves, cell_error, stencil_length, given}
use Rattle.correction.proofs.Laws.Grows.{InLimits, length_not_negative, texels_same, protects_grows}
use Rattle.correction.proofs.Laws.Falls.{has_artifact_falls}

-- ---- what acceptance says

-- An accepted input's settings are in their limits.
pub accepted_in_limits : (i : Input) → accepted i ≡ true → InLimits i.settings
accepted_in_limits i p =
    let q = passed i (number_zero i p) in
    record { ratio = q.ratio; horizontal = q.horizontal; vertical = q.vertical; diagonal = q.diagonal }

-- ---- the flag of a texel

-- the verdict on the same bitmap, written another way
same_artifact : (tex tex' : ℕ → ℕ → List Float) (w w' h h' : ℕ) (s : Settings) (protected : Bool) (x y : ℕ) → tex ≡ tex' → w ≡ w' → h ≡ h' → has_artifact tex w h s protected x y ≡ has_artifact tex' w' h' s protected x y
same_artifact tex tex' w w' h h' s protected x y p q r = rw (p, q, r)

-- Every texel that a stricter pass flags the other flags, too.
pub flags_fall : (i j : Input) → Stricter i j → accepted i ≡ true → accepted j ≡ true → (x y : ℕ) → flags j x y ≡ true → flags i x y ≡ true
unfolding flags
flags_fall i j s p q x y =
    let good = accepted_in_limits i p in
    let good' = accepted_in_limits j q in
    let top = (passed j (number_zero j q)).mode in
    and_implies (not (eqb j.mode disabled)) _ (not (eqb i.mode disabled)) _ (λ e. ap not (ne_eqb i.mode disabled s.enabled))
    (λ e h.
    same_artifact (texels i) (texels j) i.width j.width i.height j.height i.settings (protects i x y) x y (texels_same i j s) s.width s.height
    ∙ has_artifact_falls (texels j) j.width j.height i.settings j.settings good good' s.settings (protects i x y) (protects j x y) (protects_grows i j s good good' top x y) x y h)

-- ---- what the pass leaves

-- beyond the last cell there is no error
no_error : (st : List ℕ) (k : ℕ) → length st ≤ k → is_error (get_or st k 0) ≡ false
no_error st k l = ap is_error (get_or-eq_default st 0 l) ∙ clear_says.2

same_area : (i j : Input) → Stricter i j → i.width * i.height ≡ j.width * j.height
same_area i j s = rw (s.width, s.height)

-- Demand 3: every cell that a stricter pass leaves with an error the other leaves with one, too.
pub monotony : (i j : Input) → Stricter i j → accepted i ≡ true → accepted j ≡ true → (k : ℕ) → is_error (get_or (stencil_after j) k 0) ≡ true → is_error (get_or (stencil_after i) k 0) ≡ true
monotony i j s p q k e = dite (dec_lt k (j.width * j.height)) inner outer
  where
    inner : k < j.width * j.height → is_error (get_or (stencil_after i) k 0) ≡ true
    inner l =
        cell_error i p k (subst (λ (n : ℕ). k < n) (sym (same_area i j s)) l)
        ∙ flags_fall i j s p q (k % i.width) (k / i.width)
        (subst (λ (w : ℕ). flags j (k % w) (k / w) ≡ true) (sym s.width) (sym (cell_error j q k l) ∙ e))

    outer : (k < j.width * j.height → ⊥) → is_error (get_or (stencil_after i) k 0) ≡ true
    outer n = absurd (true≢false (sym e ∙ no_error (stencil_after j) k (omega (arith, stencil_length j q))))

-- The same of whatever two passes answer and leave, if both answer 0.
pub runs_monotony : (i j : Input) → Stricter i j → (r r' : Answer) (st st' : List ℕ) → Answers i r → st ≡ stencil_after i → Answers j r' → st' ≡ stencil_after j → number_of r ≡ 0 → number_of r' ≡ 0 → (k : ℕ) → is_error (get_or st' k 0) ≡ true → is_error (get_or st k 0) ≡ true
runs_monotony i j s r r' st st' a b a' b' n n' k e =
    ap (λ (z : List ℕ). is_error (get_or z k 0)) b
    ∙ monotony i j s (zero_accepts i r a n) (zero_accepts j r' a' n') k (ap (λ (z : List ℕ). is_error (get_or z k 0)) (sym b') ∙ e)

-- Demand 3 of two runs of `msdf_error_correction` that answer 0: each keeps the promise as it is read from the source, of the arguments a, the answer z and the arguments at exit e, of which the stencil is the fifth.
pub promise_monotony : (κs κs' : Lfts 6) (a : Dens κs ps) (a' : Dens κs' ps) (z z' : _) (e e' : _) → entry.Post κs a z e → entry.Post κs' a' z' e' → Stricter (given κs a) (given κs' a') → number_of z ≡ 0 → number_of z' ≡ 0 → (k : ℕ) → is_error (get_or e'.1.1.1.1.0.now k 0) ≡ true → is_error (get_or e.1.1.1.1.0.now k 0) ≡ true
promise_monotony κs κs' a a' z z' e e' p p' s n n' k =
    runs_monotony (given κs a) (given κs' a') s z z' e.1.1.1.1.0.now e'.1.1.1.1.0.now p.0 p.1.0 p'.0 p'.1.0 n n' k

-- ---- what follows

-- The first three samples of a texel that a pass flags are afterwards the median of what they were.
pub flagged_collapses : (i : Input) → accepted i ≡ true → (k c : ℕ) → k < i.width * i.height → c < 3 → is_error (get_or (stencil_after i) k 0) ≡ true → get_or (samples_after i) (k * i.channels + c) nan ≡ cell_median i.samples i.channels k
unfolding pass_samples collapsed collapsed_sample
flagged_collapses i p k c l m e =
    let z = sizes i.width i.height i.channels (length i.samples) (length i.stencil) (passed i (number_zero i p)).sizes in
    let d : c < i.channels = lt_of_lt_of_le m z.channels.0 in
    let h : k * i.channels + c < length i.samples = subst (λ (n : ℕ). k * i.channels + c < n) (sym z.samples) (digits_lt l d) in
    let f : ℕ → Bool = λ n. flags i (n % i.width) (n / i.width) in
    ap (λ (xs : List Float). get_or xs (k * i.channels + c) nan) (accepted_leaves i p).1
    ∙ tab_at (length i.samples) (collapsed_sample i.samples i.channels f) (k * i.channels + c) nan h
    ∙ rw (digits_div k d, digits_mod k d, sym (cell_error i p k l) ∙ e, lt-ltb c 3 m)

-- The first three samples of a texel that a stricter pass collapses are collapsed by the other, too.
pub collapse_monotony : (i j : Input) → Stricter i j → accepted i ≡ true → accepted j ≡ true → (k c : ℕ) → k < i.width * i.height → c < 3 → is_error (get_or (stencil_after j) k 0) ≡ true → get_or (samples_after i) (k * i.channels + c) nan ≡ cell_median i.samples i.channels k
collapse_monotony i j s p q k c l m e = flagged_collapses i p k c l m (monotony i j s p q k e)

-- A stricter pass counts no more errors.
pub errors_fall : (i j : Input) → Stricter i j → accepted i ≡ true → accepted j ≡ true → error_count (stencil_after j) ≤ error_count (stencil_after i)
errors_fall i j s p q = error_falls (stencil_after j) (stencil_after i) (stencil_length j q ∙ sym (same_area i j s) ∙ sym (stencil_length i p)) (monotony i j s p q)

-- Every list of contours has its own in their order.
pub outlines_refl : (cs : List (List Segment)) → Outlines cs cs
outlines_refl [] = none
outlines_refl (c ∷ cs) = kept c (outlines_refl cs)

same_length : (v : Float) → bad_length v ≡ false → T (le v v)
same_length v g = Order.le_refl v (Order.number_right nought v (length_not_negative v g))

-- Raising the ratio alone makes an input stricter.
pub ratio_stricter : (i : Input) (r : Float) → (i.mode ≡ disabled → ⊥) → InLimits i.settings → T (le i.settings.ratio r) → Stricter i (with_ratio i r)
ratio_stricter i r on good more =
    record {
      width = refl;
      height = refl;
      channels = refl;
      samples = refl;
      enabled = on;
      mode = le_refl i.mode;
      outlines = outlines_refl (contours i.colours i.coords i.ends);
      settings =
          record {
            ratio = more;
            horizontal = same_length i.settings.horizontal good.horizontal;
            vertical = same_length i.settings.vertical good.vertical;
            diagonal = same_length i.settings.diagonal good.diagonal;
          };
    }

-- Raising the ratio alone never adds a flagged texel.
pub ratio_monotony : (i : Input) (r : Float) → (i.mode ≡ disabled → ⊥) → T (le i.settings.ratio r) → accepted i ≡ true → accepted (with_ratio i r) ≡ true → (x y : ℕ) → flags (with_ratio i r) x y ≡ true → flags i x y ≡ true
ratio_monotony i r on more p q = flags_fall i (with_ratio i r) (ratio_stricter i r on (accepted_in_limits i p) more) p q
