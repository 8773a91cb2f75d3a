-- A search through the roots of a pair that are tried finds and spends what one through its roots does. Assumes nothing.
--     tried_few      they are at most two
--     tried_some     one of them is an artifact just where the pair is in doubt and is one
--     tried_spent    and as many tests are made
--     none_yet, nothing_spent  before the first
--     none_last, last_spent    behind one more, where none before it passes
--     some_last, ended         one that passes, and what the search has spent that ends with it
use Rattle.std.proofs.Common.{◌≡◌, ℕ, ◌+◌, ◌≤◌, Bool, true, false, cond, ◌||◌, List, [], ◌∷◌, ◌++◌, T, length, sym, refl, ap, ◌∙◌, subst, inl, inr, arith}
use lib.Ieee.{Float}
use Rattle.ground.specs.Lists.{some, spent_in}
use Rattle.detectors.specs.Diagonal.{diagonal_at, diagonal_tests_at}
use Rattle.detectors.specs.Inner.{Tried}
use Rattle.detectors.specs.Orders.{doubted_pair, doubted_tests}
use Rattle.detectors.proofs.orders.Filter.{no_artifact, no_tests}
use Rattle.detectors.proofs.diagonal.Normal.{normal_length, normal_some, normal_spent}

module _ (bits : ℕ) (m : List (List Float)) (p : ℕ) (ts : List Float) (tried : Tried bits m p ts) where
  pub tried_few : length ts ≤ 2
  tried_few = elim tried [
    | inl t ↦ elim t.1 [
      | inl e ↦ rw e (normal_length m p)
      | inr o ↦ rw o.0 (omega arith)
    ]
    | inr o ↦ rw o.1 (omega arith)
  ]

  module _ (span : Float) (protected : Bool) (am dm : Float) where
    abbrev at : Float → Bool
    at = diagonal_at span protected am dm m p

    abbrev takes : Float → ℕ
    takes = diagonal_tests_at m p

    pub tried_some : some at ts ≡ doubted_pair bits span protected am dm m p
    unfolding doubted_pair some
    tried_some = elim tried [
      | inl t ↦ rw t.0 (elim t.1 [
        | inl e ↦ ap (some at) e ∙ normal_some span protected am dm m p
        | inr o ↦ ap (some at) o.0 ∙ sym (no_artifact span protected am dm m p o.1)
      ])
      | inr o ↦ rw o.0 (ap (some at) o.1)
    ]

    pub tried_spent : spent_in at takes ts ≡ doubted_tests bits span protected am dm m p
    unfolding doubted_tests spent_in
    tried_spent = elim tried [
      | inl t ↦ rw t.0 (elim t.1 [
        | inl e ↦ ap (spent_in at takes) e ∙ normal_spent span protected am dm m p
        | inr o ↦ ap (spent_in at takes) o.0 ∙ sym (no_tests span protected am dm m p o.1)
      ])
      | inr o ↦ rw o.0 (ap (spent_in at takes) o.1)
    ]

-- ---- a search that has come to x, behind those of xs, of which none passes
fails_on : (b c d : Bool) → (b || c) ≡ false → (c ≡ false → d ≡ false) → (b || d) ≡ false
fails_on true c d h g = h
fails_on false c d h g = g h

passes_on : (b c : Bool) → c ≡ true → (b || c) ≡ true
passes_on true c h = refl
passes_on false c h = h

spends_on : (b c : Bool) (n u v w : ℕ) → (b || c) ≡ false → (c ≡ false → u ≡ v + w) → n + cond b 0 u ≡ n + cond b 0 v + w
spends_on true c n u v w h g = absurd (subst T h tt)
spends_on false c n u v w h g = omega (arith, g h)

alone : (b : Bool) (n : ℕ) → n + cond b 0 0 ≡ 0 + n
alone true n = omega arith
alone false n = omega arith

module _ {A : Type 0} (f : A → Bool) where
  pub none_yet : some f [] ≡ false
  unfolding some
  none_yet = refl

  pub none_last : (xs : List A) (x : A) → some f xs ≡ false → f x ≡ false → some f (xs ++ x ∷ []) ≡ false
  unfolding some
  none_last [] x h e = rw e
  none_last (y ∷ xs) x h e = fails_on (f y) (some f xs) (some f (xs ++ x ∷ [])) h (λ k. none_last xs x k e)

  pub some_last : (xs : List A) (x : A) (ys : List A) → f x ≡ true → some f (xs ++ x ∷ ys) ≡ true
  unfolding some
  some_last [] x ys e = rw e
  some_last (y ∷ xs) x ys e = passes_on (f y) (some f (xs ++ x ∷ ys)) (some_last xs x ys e)

  module _ (c : A → ℕ) where
    pub nothing_spent : (t : ℕ) → t ≡ t + spent_in f c []
    unfolding spent_in
    nothing_spent t = omega arith

    pub last_spent : (xs : List A) (x : A) → some f xs ≡ false → spent_in f c (xs ++ x ∷ []) ≡ spent_in f c xs + c x
    unfolding some spent_in
    last_spent [] x h = alone (f x) (c x)
    last_spent (y ∷ xs) x h = spends_on (f y) (some f xs) (c y) (spent_in f c (xs ++ x ∷ [])) (spent_in f c xs) (c x) h (λ k. last_spent xs x k)

    pub ended : (xs : List A) (x : A) (ys : List A) → some f xs ≡ false → f x ≡ true → spent_in f c (xs ++ x ∷ ys) ≡ spent_in f c xs + c x
    unfolding some spent_in
    ended [] x ys h e = rw e (omega arith)
    ended (y ∷ xs) x ys h e = spends_on (f y) (some f xs) (c y) (spent_in f c (xs ++ x ∷ ys)) (spent_in f c xs) (c x) h (λ k. ended xs x ys k e)
