-- Sums, and what a search spends that ends with the first number, or the first entry of a list, of which a test holds. Assumes nothing.
--     guard_small      what is let through where a test holds is at most the most
--     guard_some       and is something, where what is behind the test holds and is something
--     unless_small     so is what is let through where it fails
--     total_none       before the first turn
--     total_more       after a turn that adds v
--     total_same       two that agree below n
--     total_zero       of zeros
--     total_small      so many times the most, and no more
--     count_total      a test that holds only where 1 and more is added counts no more than the total
--     spent_none       before the first turn
--     spent_more       after a turn that costs v, which no earlier one has ended
--     spent_ended      a search that ends with k spends no more after it
--     spent_small      so many times the most, and no more
--     spent_found      a search that finds has spent something, where each that can be found costs something
--     next_found       so has one that goes on, and finds
--     spent_in_small   spent_small for a list
--     spent_in_found   spent_found for a list
use mathlib.Core.Path.{◌≡◌, refl, sym}
use mathlib.Core.Bool.{Bool, true, false, cond, ◌&&◌, ◌||◌, true≢false}
use mathlib.Core.List.{List, [], ◌∷◌}
use mathlib.Core.Logic.{⊎_elim}
use Prim.Native.Nat.{ℕ, zero, suc, ◌+◌, ◌*◌, ◌<◌, ◌≤◌}
use native.Mathlib.Nat.{le_refl, add-le-add, not-suc-le-zero, le_of_suc-le-suc, eq-or-lt_of_le}
use native.Mathlib.Omega.{arith}
use native.Mathlib.Numerals.{add-one}
use lib.ListN.{length}
use Rattle.ground.specs.Lists.{any, some, count, total, spent, spent_in}
use Rattle.ground.proofs.Laws.Search.{any_at}

-- ---- what a test lets through

pub guard_small : (g : Bool) (n m : ℕ) → n ≤ m → cond g n 0 ≤ m
guard_small true n m l = l
guard_small false n m l = omega arith

pub guard_some : (g v : Bool) (n : ℕ) → (v ≡ true → 1 ≤ n) → (g && v) ≡ true → 1 ≤ cond g n 0
guard_some true v n h p = h p
guard_some false v n h p = absurd (true≢false (sym p))

pub unless_small : (b : Bool) (n m : ℕ) → n ≤ m → cond b 0 n ≤ m
unless_small true n m l = omega arith
unless_small false n m l = l

-- ---- sums

pub total_none : (f : ℕ → ℕ) → total 0 f ≡ 0
unfolding total
total_none f = refl

pub total_more : (f : ℕ → ℕ) (k p v : ℕ) → p ≡ total k f → v ≡ f k → p + v ≡ total (k + 1) f
unfolding total
total_more f k p v e h = rw (add-one, e, h)

pub total_same : (n : ℕ) (f g : ℕ → ℕ) → ((k : ℕ) → k < n → f k ≡ g k) → total n f ≡ total n g
unfolding total
total_same zero f g h = refl
total_same (suc n) f g h = rw (total_same n f g (λ k l. h k (omega arith)), h n (le_refl (suc n)))

pub total_zero : (n : ℕ) (f : ℕ → ℕ) → ((k : ℕ) → f k ≡ 0) → total n f ≡ 0
unfolding total
total_zero zero f h = refl
total_zero (suc n) f h = rw (total_zero n f h, h n)

pub total_small : (m n : ℕ) (f : ℕ → ℕ) → ((k : ℕ) → f k ≤ m) → total n f ≤ n * m
unfolding total
total_small m zero f h = omega arith
total_small m (suc n) f h = omega (arith, total_small m n f h, h n)

bit_under : (b : Bool) (v : ℕ) → (b ≡ true → 1 ≤ v) → cond b 1 0 ≤ v
bit_under true v h = h refl
bit_under false v h = omega arith

pub count_total : (n : ℕ) (f : ℕ → Bool) (g : ℕ → ℕ) → ((k : ℕ) → k < n → f k ≡ true → 1 ≤ g k) → count n f ≤ total n g
unfolding count total
count_total zero f g h = le_refl 0
count_total (suc n) f g h = add-le-add (count_total n f g (λ k l. h k (omega arith))) (bit_under (f n) (g n) (h n (le_refl (suc n))))

-- ---- a search through numbers

pub spent_none : (f : ℕ → Bool) (c : ℕ → ℕ) → spent 0 f c ≡ 0
unfolding spent
spent_none f c = refl

pub spent_more : (f : ℕ → Bool) (c : ℕ → ℕ) (k p v : ℕ) → p ≡ spent k f c → any k f ≡ false → v ≡ c k → p + v ≡ spent (k + 1) f c
unfolding spent
spent_more f c k p v e a h = rw (add-one, e, h, a)

pub spent_ended : (f : ℕ → Bool) (c : ℕ → ℕ) (n k : ℕ) → k < n → f k ≡ true → spent n f c ≡ spent (k + 1) f c
unfolding spent
spent_ended f c zero k l p = absurd (not-suc-le-zero l)
spent_ended f c (suc n) k l p =
    ⊎_elim (λ e. rw (add-one, ← e)) (λ b. rw (any_at f n k b p) (omega (arith, spent_ended f c n k b p))) (eq-or-lt_of_le (le_of_suc-le-suc l))

pub spent_small : (m n : ℕ) (f : ℕ → Bool) (c : ℕ → ℕ) → ((k : ℕ) → c k ≤ m) → spent n f c ≤ n * m
unfolding spent
spent_small m zero f c h = omega arith
spent_small m (suc n) f c h = omega (arith, spent_small m n f c h, unless_small (any n f) (c n) m (h n))

-- what was spent before, s, and what is tried next, unless something was found
pub next_found : (a b : Bool) (s v : ℕ) → (a ≡ true → 1 ≤ s) → (b ≡ true → 1 ≤ v) → (a || b) ≡ true → 1 ≤ s + cond a 0 v
next_found true b s v h g p = omega (arith, h refl)
next_found false b s v h g p = omega (arith, g p)

pub spent_found : (f : ℕ → Bool) (c : ℕ → ℕ) → ((k : ℕ) → f k ≡ true → 1 ≤ c k) → (n : ℕ) → any n f ≡ true → 1 ≤ spent n f c
unfolding any spent
spent_found f c h zero p = absurd (true≢false (sym p))
spent_found f c h (suc n) p = next_found (any n f) (f n) (spent n f c) (c n) (spent_found f c h n) (h n) p

-- ---- a search through a list

module _ {A : Type 0} (f : A → Bool) (c : A → ℕ) where
  pub spent_in_small : (m : ℕ) → ((x : A) → c x ≤ m) → (xs : List A) → spent_in f c xs ≤ length xs * m
  unfolding spent_in
  spent_in_small m h [] = omega arith
  spent_in_small m h (x ∷ xs) = omega (arith, h x, unless_small (f x) (spent_in f c xs) (length xs * m) (spent_in_small m h xs))

  pub spent_in_found : ((x : A) → f x ≡ true → 1 ≤ c x) → (xs : List A) → some f xs ≡ true → 1 ≤ spent_in f c xs
  unfolding some spent_in
  spent_in_found h [] p = absurd (true≢false (sym p))
  spent_in_found h (x ∷ xs) p = next_found (f x) (some f xs) (c x) (spent_in f c xs) (h x) (spent_in_found h xs) p
