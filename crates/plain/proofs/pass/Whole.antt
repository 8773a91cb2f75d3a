-- What the stages of the plain pass leave for each other, and all of them together. Assumes nothing.
--     marks, no_marks   the marks of corners, in EdgePriority and in any other mode
--     done              marked, gathered and collapsed: the stencil and the samples of an accepted pass
--     refused           a refusal's answer, and what it leaves
--     answered          an acceptance's
use Rattle.std.proofs.Common.{◌≡◌, ℕ, ◌*◌, ◌/◌, ◌%◌, ◌<◌, Bool, true, false, cond, ◌&&◌, ◌||◌, eqb, List, length, get_or, sym, refl, ap, ◌∙◌, mul_comm, eq-eqb, ne_eqb}
use lib.Ieee.{Float, binary32}
use Rattle.numbers.specs.Constants.{zero_of}
use Rattle.ground.specs.Lists.{tab, painted}
use Rattle.ground.proofs.Laws.Fill.{tab_length, tab_at, tab_same}
use Rattle.ranges.specs.Config.{edge_priority, edge_only}
use Rattle.inputs.specs.declared.stencil.Counts.{Counts}
use Rattle.inputs.specs.Stencil.{is_error, counts_of}
use Rattle.inputs.specs.Checks.{Input, accepted, refusal_number, refusal_place}
use Rattle.inputs.specs.Inner.{Sized}
use Rattle.inputs.proofs.Laws.Stencil.{byte_says}
use Rattle.correction.specs.Corners.{contours, corners_protect}
use Rattle.correction.specs.Edges.{edges_protect}
use Rattle.correction.specs.Bitmap.{texel}
use Rattle.correction.specs.Collapse.{collapsed}
use Rattle.correction.specs.Pass.{texels, cornered, edge_priority_protects, protects, flags, byte_at, pass_stencil, pass_samples, answer, stencil_after, samples_after, room_after}
use Rattle.correction.proofs.Laws.Collapse.{collapsed_same}
use Rattle.std.specs.Prelude.{Ok, Err}
use Rattle.inputs.specs.declared.refusal.Refusal.{Refusal}
use Rattle.inputs.specs.Refusal.{number, place, refusal_with}
use Rattle.inputs.proofs.Laws.Refusal.{told, number_not_0}
use Rattle.plain.specs.Inner.{corner, protected_by, byte_by}
use Rattle.plain.specs.Answer.{Plain, untested, plain_answer}

-- ---- the marks

-- what marking leaves of zeros
marked : (n : ℕ) (p : ℕ → Bool) → painted corner p (tab n (λ k. 0)) ≡ tab n (λ k. cond (p k) 4 0)
unfolding painted
marked n p =
    ap (λ (m : ℕ). tab m (λ k. cond (p k) 4 (get_or (tab n (λ k. 0)) k 0))) (tab_length n (λ k. 0))
    ∙ tab_same n _ _ (λ k l. ap (λ (v : ℕ). cond (p k) 4 v) (tab_at n (λ k. 0) k 0 l))

pub marks : (n mode : ℕ) (p : ℕ → Bool) (st st' : List ℕ) → mode ≡ edge_priority → st ≡ tab n (λ k. 0) → st' ≡ painted corner p st → st' ≡ tab n (λ k. cond (eqb mode edge_priority && p k) 4 0)
marks n mode p st st' e f g = g ∙ ap (painted corner p) f ∙ marked n p ∙ tab_same n _ _ (λ k l. simp (eq-eqb mode edge_priority e))

pub no_marks : (n mode : ℕ) (p : ℕ → Bool) (st : List ℕ) → (mode ≡ edge_priority → ⊥) → st ≡ tab n (λ k. 0) → st ≡ tab n (λ k. cond (eqb mode edge_priority && p k) 4 0)
no_marks n mode p st e f = f ∙ tab_same n _ _ (λ k l. simp (ne_eqb mode edge_priority e))

is_mark : (b : Bool) → eqb (cond b 4 0) 4 ≡ b
is_mark true = refl
is_mark false = refl

-- ---- the bytes

-- of a corner that only one mode has, that mode is known already
known : (only some corners edges : Bool) → (only || some && ((some && corners) || edges)) ≡ (only || some && (corners || edges))
known true some corners edges = refl
known false true corners edges = refl
known false false corners edges = refl

module _ (i : Input) where
  protects_by : (x y : ℕ) → protected_by (texels i) i.width i.height i.mode i.settings (cornered i x y) x y ≡ protects i x y
  unfolding protected_by cornered protects edge_priority_protects
  protects_by x y = known (eqb i.mode edge_only) (eqb i.mode edge_priority) (corners_protect (contours i.colours i.coords i.ends) x y) (edges_protect (texels i) i.width i.height i.settings x y)

  byte_by_law : (k : ℕ) → let x = k % i.width in let y = k / i.width in byte_by (texels i) i.width i.height i.mode i.settings (cornered i x y) x y ≡ byte_at i k
  unfolding byte_by byte_at flags
  byte_by_law k = rw (protects_by (k % i.width) (k / i.width))

  module _ (s : Sized i.width i.height i.channels i.samples) (m : length i.stencil ≡ i.height * i.width) where
    area : length i.stencil ≡ i.width * i.height
    area = m ∙ mul_comm i.height i.width

    abbrev mark : ℕ → ℕ
    mark k = cond (eqb i.mode edge_priority && corners_protect (contours i.colours i.coords i.ends) (k % i.width) (k / i.width)) 4 0

    abbrev gathered : List ℕ → ℕ → ℕ
    gathered st k = byte_by (texel i.samples i.width i.channels) i.width i.height i.mode i.settings (eqb (get_or st k 0) 4) (k % i.width) (k / i.width)

    module _ (st₁ st₂ : List ℕ) (p : st₁ ≡ tab (length i.stencil) mark) (q : st₂ ≡ tab (length st₁) (gathered st₁)) where
      at : (k : ℕ) → k < length i.stencil → gathered (tab (length i.stencil) mark) k ≡ byte_at i k
      unfolding texels cornered
      at k l =
          ap (λ (v : ℕ). byte_by (texel i.samples i.width i.channels) i.width i.height i.mode i.settings (eqb v 4) (k % i.width) (k / i.width)) (tab_at (length i.stencil) mark k 0 l)
          ∙ ap (λ (b : Bool). byte_by (texel i.samples i.width i.channels) i.width i.height i.mode i.settings b (k % i.width) (k / i.width)) (is_mark _)
          ∙ byte_by_law k

      bytes : st₂ ≡ tab (length i.stencil) (byte_at i)
      bytes =
          q ∙ ap (λ (z : List ℕ). tab (length z) (gathered z)) p
          ∙ ap (λ (n : ℕ). tab n (gathered (tab (length i.stencil) mark))) (tab_length (length i.stencil) mark)
          ∙ tab_same (length i.stencil) _ (byte_at i) at

      flagged : (k : ℕ) → k < length i.stencil → is_error (get_or st₂ k 0) ≡ flags i (k % i.width) (k / i.width)
      unfolding byte_at
      flagged k l = ap (λ (z : List ℕ). is_error (get_or z k 0)) bytes ∙ ap is_error (tab_at (length i.stencil) (byte_at i) k 0 l) ∙ (byte_says _ _ _).2

      pub done : (xs : List Float) → xs ≡ collapsed i.samples i.channels (λ k. is_error (get_or st₂ k 0)) → (st₂ ≡ pass_stencil i) × (xs ≡ pass_samples i)
      unfolding pass_stencil pass_samples
      done xs r = (
        bytes ∙ ap (λ (n : ℕ). tab n (byte_at i)) area,
        r ∙ collapsed_same i.samples i.channels (length i.stencil) _ _ (s.long ∙ ap (λ (n : ℕ). n * i.channels) (sym m)) flagged,
      )

  -- ---- the answer

  pub refused : (z : Plain) (r : Refusal) → z ≡ Err r → number r ≡ refusal_number i → place r ≡ refusal_place i → (z ≡ plain_answer i) × ((i.stencil ≡ stencil_after i) × ((i.samples ≡ samples_after i) × (i.room ≡ room_after i)))
  unfolding plain_answer untested answer stencil_after samples_after room_after accepted
  refused z r q e f =
      let t : eqb (refusal_number i) 0 ≡ false = ne_eqb _ 0 (λ q. number_not_0 r (e ∙ q)) in
      let s : r ≡ refusal_with (refusal_number i) (refusal_place i) = sym (told r) ∙ ap (λ (k : ℕ). refusal_with k (place r)) e ∙ ap (refusal_with (refusal_number i)) f in
      (q ∙ simp t (ap Err s), (simp t, (simp t, simp t)))

  pub answered : (st : List ℕ) (xs room : List Float) (c : Counts) → refusal_number i ≡ 0 → st ≡ pass_stencil i → xs ≡ pass_samples i → room ≡ tab (length i.room) (λ k. zero_of binary32) → c ≡ counts_of st → (Ok c ≡ plain_answer i) × ((st ≡ stencil_after i) × ((xs ≡ samples_after i) × (room ≡ room_after i)))
  unfolding plain_answer untested answer stencil_after samples_after room_after accepted
  answered st xs room c z p q m r =
      let a : eqb (refusal_number i) 0 ≡ true = eq-eqb _ 0 z in
      let e : c ≡ counts_of (pass_stencil i) = r ∙ ap counts_of p in
      (simp a (ap Ok e), (simp a p, (simp a q, simp a m)))
