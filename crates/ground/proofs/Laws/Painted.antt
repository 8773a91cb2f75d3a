-- A list of numbers that is painted: where a test holds a brush has gone over what stood there. Assumes nothing.
use mathlib.Core.Path.{◌≡◌, refl, sym, ◌∙◌, ap, subst}
use mathlib.Core.Bool.{Bool, true, false, cond, ◌&&◌, ◌||◌}
use mathlib.Core.List.{List}
use mathlib.Core.Logic.{dite}
use Prim.Native.Nat.{ℕ, ◌+◌, ◌<◌}
use native.Mathlib.Decide.{ℕ_discrete}
use native.Mathlib.Numerals.{add-one}
use lib.Dec.{eqb}
use lib.ListN.{length, get_or, set, length-set}
use lib.Seq.{get_or-set_same, get_or-set_other, ext_get_or}
use borrow.Author.Tests.{eq-eqb, ne_eqb}
use Rattle.ground.specs.Lists.{any, painted}
use Rattle.ground.proofs.Laws.Fill.{tab_length, tab_at}

-- ---- any brush

module _ (brush : ℕ → ℕ) where
  pub painted_length : (p : ℕ → Bool) (st : List ℕ) → length (painted brush p st) ≡ length st
  unfolding painted
  painted_length p st = tab_length (length st) (λ k. cond (p k) (brush (get_or st k 0)) (get_or st k 0))

  pub painted_at : (p : ℕ → Bool) (st : List ℕ) (k : ℕ) → k < length st → get_or (painted brush p st) k 0 ≡ cond (p k) (brush (get_or st k 0)) (get_or st k 0)
  unfolding painted
  painted_at p st k l = tab_at (length st) (λ j. cond (p j) (brush (get_or st j 0)) (get_or st j 0)) k 0 l

  -- a list that has at each index what `painted brush p st` has
  pub is_painted : (p : ℕ → Bool) (st xs : List ℕ) → length xs ≡ length st → ((k : ℕ) → k < length st → get_or xs k 0 ≡ cond (p k) (brush (get_or st k 0)) (get_or st k 0)) → xs ≡ painted brush p st
  is_painted p st xs e h =
      ext_get_or 0 xs (painted brush p st) (e ∙ sym (painted_length p st))
      (λ k l. let b : k < length st = subst (λ (n : ℕ). k < n) e l in h k b ∙ sym (painted_at p st k b))

  pub painted_none : (p : ℕ → Bool) (st : List ℕ) → ((k : ℕ) → p k ≡ false) → st ≡ painted brush p st
  painted_none p st h = is_painted p st st refl (λ k l. simp (h k))

  pub painted_set : (p : ℕ → Bool) (st : List ℕ) (i v : ℕ) → i < length st → v ≡ brush (get_or st i 0) → ((k : ℕ) → p k ≡ eqb k i) → set st i v ≡ painted brush p st
  painted_set p st i v l e h =
      is_painted p st (set st i v) (length-set st i v)
      (λ k b.
      dite (ℕ_discrete k i) (λ f. simp (h k, eq-eqb k i f) (rw f (get_or-set_same st i v 0 l ∙ e)))
      (λ n. simp (h k, ne_eqb k i n) (get_or-set_other st i k v 0 n)))

  pub painted_same : (p q : ℕ → Bool) (st : List ℕ) → ((k : ℕ) → p k ≡ q k) → painted brush p st ≡ painted brush q st
  painted_same p q st h = is_painted q st (painted brush p st) (painted_length p st) (λ k l. painted_at p st k l ∙ simp (h k))

  -- the same of two tests that agree on the list's indices
  pub painted_same_below : (p q : ℕ → Bool) (st : List ℕ) → ((k : ℕ) → k < length st → p k ≡ q k) → painted brush p st ≡ painted brush q st
  painted_same_below p q st h = is_painted q st (painted brush p st) (painted_length p st) (λ k l. painted_at p st k l ∙ simp (h k l))

  -- no turn of a loop
  pub painted_zero : (f : ℕ → ℕ → Bool) (st : List ℕ) → st ≡ painted brush (λ k. any 0 (λ j. f j k)) st
  unfolding any
  painted_zero f st = painted_none (λ k. any 0 (λ j. f j k)) st (λ k. refl)

  -- behind a test, where it holds and where it does not
  module _ (b : Bool) (g : ℕ → Bool) where
    pub painted_taken : b ≡ true → (st st' : List ℕ) → st' ≡ painted brush g st → st' ≡ painted brush (λ k. b && g k) st
    painted_taken t st st' e = e ∙ painted_same g _ st (λ k. simp t)

    pub painted_left : b ≡ false → (st : List ℕ) → st ≡ painted brush (λ k. b && g k) st
    painted_left t st = painted_none _ st (λ k. simp t)

  -- ---- a brush that changes nothing where it has painted

  module _ (again : (v : ℕ) → brush (brush v) ≡ brush v) where
    -- what painting leaves of a byte
    stroke : Bool → ℕ → ℕ
    stroke b v = cond b (brush v) v

    twice : (a b : Bool) (v : ℕ) → stroke b (stroke a v) ≡ stroke (a || b) v
    unfolding stroke
    twice true true v = again v
    twice true false v = refl
    twice false b v = refl

    pub painted_then : (p q : ℕ → Bool) (st : List ℕ) → painted brush q (painted brush p st) ≡ painted brush (λ k. p k || q k) st
    unfolding stroke
    painted_then p q st =
        is_painted (λ k. p k || q k) st (painted brush q (painted brush p st)) (painted_length q (painted brush p st) ∙ painted_length p st)
        (λ k l. painted_at q (painted brush p st) k (subst (λ (n : ℕ). k < n) (sym (painted_length p st)) l) ∙ ap (stroke (q k)) (painted_at p st k l) ∙ twice (p k) (q k) (get_or st k 0))

    -- one more turn of a loop
    pub painted_more : (f : ℕ → ℕ → Bool) (st : List ℕ) (i : ℕ) → painted brush (f i) (painted brush (λ k. any i (λ j. f j k)) st) ≡ painted brush (λ k. any (i + 1) (λ j. f j k)) st
    unfolding any
    painted_more f st i = painted_then (λ k. any i (λ j. f j k)) (f i) st ∙ painted_same _ _ st (λ k. rw add-one)

    pub painted_four : (p q r s : ℕ → Bool) (st a b c d : List ℕ) → a ≡ painted brush p st → b ≡ painted brush q a → c ≡ painted brush r b → d ≡ painted brush s c → d ≡ painted brush (λ k. ((p k || q k) || r k) || s k) st
    painted_four p q r s st a b c d e₁ e₂ e₃ e₄ =
        e₄ ∙ ap (painted brush s) (e₃ ∙ ap (painted brush r) (e₂ ∙ ap (painted brush q) e₁ ∙ painted_then p q st) ∙ painted_then (λ k. p k || q k) r st)
        ∙ painted_then (λ k. (p k || q k) || r k) s st

    -- a loop whose turn i paints where f i holds, and has left st of st₀
    module _ (f : ℕ → ℕ → Bool) (st₀ st : List ℕ) (i : ℕ) (p : st ≡ painted brush (λ k. any i (λ j. f j k)) st₀) where
      pub painted_long : length st ≡ length st₀
      painted_long = ap length p ∙ painted_length _ st₀

      pub painted_turn : (st' : List ℕ) (g : ℕ → Bool) → ((k : ℕ) → g k ≡ f i k) → st' ≡ painted brush g st → st' ≡ painted brush (λ k. any (i + 1) (λ j. f j k)) st₀
      painted_turn st' g h e = e ∙ painted_same g (f i) st h ∙ ap (painted brush (f i)) p ∙ painted_more f st₀ i
