-- Lists made from the front: one more element, one more piece, and how long they are. Assumes nothing.
--     tab_more       one more element
--     joined_more    one more piece
--     joined_same    two that agree piece by piece
--     joined_length  so many pieces of at most m
use mathlib.Core.Path.{◌≡◌, refl, ap, ◌∙◌}
use mathlib.Core.List.{List, [], ◌∷◌, ◌++◌}
use Prim.Native.Nat.{ℕ, zero, suc, ◌+◌, ◌*◌, ◌<◌, ◌≤◌}
use native.Mathlib.Nat.{mul-suc}
use native.Mathlib.Numerals.{add-one}
use native.Mathlib.Omega.{arith}
use lib.ListN.{length, length-append}
use Rattle.ground.specs.Lists.{tab, joined}

module _ {A : Type 0} where
  tab_suc : (k : ℕ) (f : ℕ → A) → tab (suc k) f ≡ tab k f ++ (f k ∷ [])
  unfolding tab
  tab_suc zero f = refl
  tab_suc (suc k) f = ap (λ (l : List A). f zero ∷ l) (tab_suc k (λ j. f (suc j)))

  pub tab_more : (k : ℕ) (f : ℕ → A) → tab (k + 1) f ≡ tab k f ++ (f k ∷ [])
  tab_more k f = ap (λ (n : ℕ). tab n f) (add-one k) ∙ tab_suc k f

  pub joined_more : (k : ℕ) (f : ℕ → List A) → joined (k + 1) f ≡ joined k f ++ f k
  unfolding joined
  joined_more k f = ap (λ (n : ℕ). joined n f) (add-one k)

  pub joined_same : (n : ℕ) (f g : ℕ → List A) → ((k : ℕ) → k < n → f k ≡ g k) → joined n f ≡ joined n g
  unfolding joined
  joined_same zero f g h = refl
  joined_same (suc n) f g h = rw (joined_same n f g (λ k l. h k (omega arith)), h n (omega arith))

  pub joined_length : (n m : ℕ) (f : ℕ → List A) → ((k : ℕ) → k < n → length (f k) ≤ m) → length (joined n f) ≤ m * n
  unfolding joined
  joined_length zero m f h = omega arith
  joined_length (suc n) m f h = omega (arith, length-append (joined n f) (f n), joined_length n m f (λ k l. h k (omega arith)), h n (omega arith), mul-suc m n)
