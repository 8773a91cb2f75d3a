-- The list that is given by what stands at each index, and a loop that goes through a list from the front and leaves f k at each index k. Assumes nothing.
--     tab_length, tab_at   how long it is, and what stands in it
--     tab_same             two that agree at each index
--     Filled               after k turns st is st₀ with its first k elements given by f
--     filled_none          before the first turn
--     filled_more          a store of f k at k
--     filled_kept          no store at k, where st₀ has f k already
--     filled_run           no store from k up to m, where st₀ has f there already
--     filled_at            the same with the index written another way
--     filled_all           at the end the list is `tab (length st₀) f`
--     map_at               what stands in a list that is mapped
--     filled_map           at the end the list is `map g xs`, where f k is g of what stands in xs
use mathlib.Core.Path.{◌≡◌, refl, sym, ◌∙◌, subst}
use mathlib.Core.List.{List, [], ◌∷◌, map}
use Prim.Native.Nat.{ℕ, zero, suc, ◌+◌, ◌<◌, ◌≤◌}
use native.Mathlib.Nat.{le_trans, le_refl, le_of_lt, lt_of_lt_of_le, ne_of_lt, ne_of_gt, not-suc-le-zero, le_of_suc-le-suc, zero-lt-suc, suc-le-suc_iff}
use native.Mathlib.Numerals.{lt-add-one}
use native.Mathlib.Decide.{dec_lt}
use native.Mathlib.Omega.{arith}
use mathlib.Core.Logic.{dite}
use lib.ListN.{length, get_or, set, length-set, length-map}
use lib.Seq.{get_or-set_same, get_or-set_other, ext_get_or}
use borrow.Author.Count.{below_none, below_more}
use Rattle.ground.specs.Lists.{tab}

pub record Filled {A : Type 0} (d : A) (f : ℕ → A) (st₀ : List A) (k : ℕ) (st : List A) : Type 0 where
  pub len : length st ≡ length st₀
  pub done : (j : ℕ) → j < k → get_or st j d ≡ f j
  pub rest : (j : ℕ) → k ≤ j → get_or st j d ≡ get_or st₀ j d

pub tab_length : {A : Type 0} (n : ℕ) (f : ℕ → A) → length (tab n f) ≡ n
unfolding tab
tab_length zero f = refl
tab_length (suc n) f = rw (tab_length n (λ k. f (suc k)))

pub tab_at : {A : Type 0} (n : ℕ) (f : ℕ → A) (i : ℕ) (d : A) → i < n → get_or (tab n f) i d ≡ f i
unfolding tab
tab_at zero f i d p = absurd (not-suc-le-zero p)
tab_at (suc n) f zero d p = refl
tab_at (suc n) f (suc i) d p = tab_at n (λ k. f (suc k)) i d (le_of_suc-le-suc p)

pub tab_same : {A : Type 0} (n : ℕ) (f g : ℕ → A) → ((k : ℕ) → k < n → f k ≡ g k) → tab n f ≡ tab n g
unfolding tab
tab_same zero f g h = refl
tab_same (suc n) f g h = rw (h zero (zero-lt-suc n), tab_same n (λ k. f (suc k)) (λ k. g (suc k)) (λ k l. h (suc k) (suc-le-suc_iff.1 l)))

module _ {A : Type 0} (d : A) (f : ℕ → A) (st₀ : List A) where
  pub filled_none : Filled d f st₀ 0 st₀
  filled_none = record { len = refl; done = below_none (λ j. get_or st₀ j d ≡ f j); rest = λ j p. refl }

  pub filled_more : {k : ℕ} {st : List A} {v : A} → Filled d f st₀ k st → k < length st → v ≡ f k → Filled d f st₀ (k + 1) (set st k v)
  filled_more {k} {st} {v} p l e =
      record {
        len = length-set st k v ∙ p.len;
        done =
            below_more (λ j. get_or (set st k v) j d ≡ f j) k
            (λ j h. get_or-set_other st k j v d (ne_of_lt h) ∙ p.done j h)
            (get_or-set_same st k v d l ∙ e);
        rest =
            λ j h. get_or-set_other st k j v d (ne_of_gt (lt_of_lt_of_le (lt-add-one k) h)) ∙ p.rest j (le_of_lt (lt_of_lt_of_le (lt-add-one k) h));
      }

  pub filled_kept : {k : ℕ} {st : List A} → Filled d f st₀ k st → get_or st₀ k d ≡ f k → Filled d f st₀ (k + 1) st
  filled_kept {k} {st} p e =
      record {
        len = p.len;
        done = below_more (λ j. get_or st j d ≡ f j) k p.done (p.rest k (le_refl k) ∙ e);
        rest = λ j h. p.rest j (le_of_lt (lt_of_lt_of_le (lt-add-one k) h));
      }

  pub filled_all : {k : ℕ} {st : List A} → Filled d f st₀ k st → length st₀ ≤ k → st ≡ tab (length st₀) f
  filled_all {k} {st} p l =
      ext_get_or d st (tab (length st₀) f) (p.len ∙ sym (tab_length (length st₀) f))
      (λ j h.
      let b : j < length st₀ = subst (λ (n : ℕ). j < n) p.len h in
      p.done j (lt_of_lt_of_le b l) ∙ sym (tab_at (length st₀) f j d b))

  -- no store from k up to m, where st₀ has f there already
  pub filled_run : {k : ℕ} {st : List A} (m : ℕ) → Filled d f st₀ k st → k ≤ m → ((j : ℕ) → k ≤ j → j < m → get_or st₀ j d ≡ f j) → Filled d f st₀ m st
  filled_run {k} {st} m p l same =
      record {
        len = p.len;
        done = λ j h. dite (dec_lt j k) (λ b. p.done j b) (λ n. let b : k ≤ j = omega arith in p.rest j b ∙ same j b h);
        rest = λ j h. p.rest j (le_trans l h);
      }

  -- the same with the index written another way
  pub filled_at_law : {k : ℕ} {st : List A} (m : ℕ) → Filled d f st₀ k st → k ≡ m → Filled d f st₀ m st
  filled_at_law {k} {st} m p e = subst (λ (n : ℕ). Filled d f st₀ n st) e p

-- ---- a list that is mapped
pub map_at : {A B : Type 0} (g : A → B) (xs : List A) (j : ℕ) (a : A) (d : B) → j < length xs → get_or (map g xs) j d ≡ g (get_or xs j a)
map_at g [] j a d l = absurd (not-suc-le-zero l)
map_at g (x ∷ xs) zero a d l = refl
map_at g (x ∷ xs) (suc j) a d l = map_at g xs j a d (le_of_suc-le-suc l)

pub filled_map : {A B : Type 0} (g : A → B) (xs : List A) (a : A) (d : B) (st₀ : List B) {k : ℕ} {st : List B}
    → Filled d (λ j. g (get_or xs j a)) st₀ k st → length st₀ ≡ length xs → length xs ≤ k → st ≡ map g xs
filled_map g xs a d st₀ {k} {st} p n l =
    ext_get_or d st (map g xs) (p.len ∙ n ∙ sym (length-map xs g))
    (λ j h.
    let b : j < length xs = subst (λ (m : ℕ). j < m) (p.len ∙ n) h in
    p.done j (lt_of_lt_of_le b l) ∙ sym (map_at g xs j a d b))
