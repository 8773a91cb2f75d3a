-- Lists by what stands at each index or piece, and tests and sums over the numbers below one. Definitions only.
use Rattle.std.specs.Prelude.{◌≡◌, ℕ, zero, suc, ◌+◌, ◌<◌, Bool, false, ◌||◌, cond, List, [], ◌∷◌, ◌++◌, get_or, length}

-- the list of f 0 .. f (n - 1)
unfoldable pub tab : {A : Type 0} → ℕ → (ℕ → A) → List A
tab zero f = []
tab (suc n) f = let h = f zero in h ∷ tab n (λ k. f (suc k))

-- a list of numbers with what a brush makes of each for whose index a test holds, and the others as they were
unfoldable pub painted : (ℕ → ℕ) → (ℕ → Bool) → List ℕ → List ℕ
painted brush p st = tab (length st) (λ k. cond (p k) (brush (get_or st k 0)) (get_or st k 0))

-- what stands at the places f 0 .. f (n - 1) of a list, and d for a place past its end
unfoldable pub picked : {A : Type 0} → A → ℕ → (ℕ → ℕ) → List A → List A
picked d n f xs = tab n (λ k. get_or xs (f k) d)

-- The second list is the first with `new` at the places f 0 .. f (n - 1), and all else as it was.
pub record Pasted {A : Type 0} (d : A) (n : ℕ) (f : ℕ → ℕ) (xs xs' new : List A) : Type 0 where
  pub inside : picked d n f xs' ≡ new
  pub long : length xs' ≡ length xs
  pub outside : (p : ℕ) → ((k : ℕ) → k < n → f k ≡ p → ⊥) → get_or xs' p d ≡ get_or xs p d

-- the pieces f 0 .. f (n - 1), one after the other
unfoldable pub joined : {A : Type 0} → ℕ → (ℕ → List A) → List A
joined zero f = []
joined (suc n) f = joined n f ++ f n

-- the test holds of some number below n
unfoldable pub any : ℕ → (ℕ → Bool) → Bool
any zero f = false
any (suc n) f = any n f || f n

-- the test holds of some entry of the list
unfoldable pub some : {A : Type 0} → (A → Bool) → List A → Bool
some f [] = false
some f (x ∷ xs) = f x || some f xs

-- of how many numbers below n the test holds
unfoldable pub count : ℕ → (ℕ → Bool) → ℕ
count zero f = 0
count (suc n) f = count n f + cond (f n) 1 0

-- the first number below n of which the test holds, and n where there is none
unfoldable pub first : ℕ → (ℕ → Bool) → ℕ
first zero f = 0
first (suc n) f = cond (f zero) 0 (suc (first n (λ k. f (suc k))))

-- f 0 + .. + f (n - 1)
unfoldable pub total : ℕ → (ℕ → ℕ) → ℕ
total zero f = 0
total (suc n) f = total n f + f n

-- what a search through the numbers below n spends that tries them in order and ends with the first of which the test holds, where to try k costs c k
unfoldable pub spent : ℕ → (ℕ → Bool) → (ℕ → ℕ) → ℕ
spent zero f c = 0
spent (suc n) f c = spent n f c + cond (any n f) 0 (c n)

-- what such a search through a list spends
unfoldable pub spent_in : {A : Type 0} → (A → Bool) → (A → ℕ) → List A → ℕ
spent_in f c [] = 0
spent_in f c (x ∷ xs) = c x + cond (f x) 0 (spent_in f c xs)
