-- A loop that counts. Assumes nothing.
--     none_counted   before the first turn
--     one_more       after a turn that adds a bit
--     count_small    so many at most
--     count_falls    a test that holds only where another does counts no more
--     count_same     two tests that agree below n
--     count_on       so many more numbers, of which another test says the same
use mathlib.Core.Path.{◌≡◌, refl, sym, ap}
use mathlib.Core.Bool.{Bool, true, false, cond}
use Prim.Native.Nat.{ℕ, zero, suc, ◌+◌, ◌<◌, ◌≤◌}
use native.Mathlib.Nat.{le_refl, le_of_eq, add-le-add, add-zero, add-suc, add_assoc}
use native.Mathlib.Omega.{arith}
use native.Mathlib.Numerals.{add-one}
use lib.Dec.{eqb}
use Rattle.ground.specs.Lists.{count}

pub none_counted : (f : ℕ → Bool) → count 0 f ≡ 0
unfolding count
none_counted f = refl

bit_value : (v : ℕ) → v < 2 → cond (eqb v 1) 1 0 ≡ v
bit_value zero l = refl
bit_value (suc zero) l = refl
bit_value (suc (suc v)) l = absurd (omega arith)

-- the test of k says whether the bit v is 1
pub one_more : (f : ℕ → Bool) (k p v : ℕ) → p ≡ count k f → v < 2 → f k ≡ eqb v 1 → p + v ≡ count (k + 1) f
unfolding count
one_more f k p v e l h = rw (add-one, h, bit_value v l) (ap (λ (n : ℕ). n + v) e)

bit_small : (b : Bool) → cond b 1 0 ≤ 1
bit_small true = omega arith
bit_small false = omega arith

pub count_small : (f : ℕ → Bool) (k : ℕ) → count k f ≤ k
unfolding count
count_small f zero = omega arith
count_small f (suc k) = omega (arith, count_small f k, bit_small (f k))

bit_falls : (a b : Bool) → (a ≡ true → b ≡ true) → cond a 1 0 ≤ cond b 1 0
bit_falls true b f = le_of_eq (ap (λ (t : Bool). cond t 1 0) (sym (f refl)))
bit_falls false b f = omega arith

pub count_falls : (n : ℕ) (f g : ℕ → Bool) → ((k : ℕ) → f k ≡ true → g k ≡ true) → count n f ≤ count n g
unfolding count
count_falls zero f g h = le_refl 0
count_falls (suc n) f g h = add-le-add (count_falls n f g h) (bit_falls (f n) (g n) (h n))

pub count_same : (n : ℕ) (f g : ℕ → Bool) → ((k : ℕ) → k < n → f k ≡ g k) → count n f ≡ count n g
unfolding count
count_same zero f g h = refl
count_same (suc n) f g h = rw (count_same n f g (λ k l. h k (omega arith)), h n (le_refl (suc n)))

count_add : (m n : ℕ) (f : ℕ → Bool) → count (m + n) f ≡ count m f + count n (λ k. f (m + k))
unfolding count
count_add m zero f = rw (add-zero m) (sym (add-zero (count m f)))
count_add m (suc n) f = rw (add-suc m n, count_add m n f) (add_assoc (count m f) (count n (λ k. f (m + k))) (cond (f (m + n)) 1 0))

pub count_on : (m n : ℕ) {p q : ℕ} (f g : ℕ → Bool) → p ≡ count m f → q ≡ count n g → ((k : ℕ) → k < n → g k ≡ f (m + k)) → p + q ≡ count (m + n) f
count_on m n f g a b h = rw (a, b, count_same n g (λ k. f (m + k)) h) (sym (count_add m n f))
