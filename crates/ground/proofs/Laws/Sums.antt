-- Sums over the numbers below n, taken in another order. Assumes nothing.
--     total_turned    two sums, one inside the other, in either order
--     total_one       a sum of which one term counts
--     total_most      so many times the most of its terms, and no more
--     total_reordered a sum whose terms are taken in another order
use mathlib.Core.Path.{◌≡◌, refl, sym, ◌∙◌, ap}
use mathlib.Core.Bool.{Bool, cond}
use mathlib.Core.Logic.{dite}
use Prim.Native.Nat.{ℕ, zero, suc, ◌+◌, ◌*◌, ◌<◌, ◌≤◌}
use native.Mathlib.Nat.{add-zero, zero-add, not-suc-le-zero, le_refl, add-le-add, suc-mul}
use native.Mathlib.Decide.{ℕ_discrete}
use native.Mathlib.Omega.{arith}
use lib.Dec.{eqb}
use borrow.Author.Tests.{eq-eqb, ne_eqb}
use Rattle.ground.specs.Lists.{total}
use Rattle.ground.proofs.Laws.Spent.{total_same}

zeros : (n : ℕ) → total n (λ k. 0) ≡ 0
unfolding total
zeros zero = refl
zeros (suc n) = rw (zeros n)

-- a sum of sums, term by term
both : (n : ℕ) (f g : ℕ → ℕ) → total n (λ k. f k + g k) ≡ total n f + total n g
unfolding total
both zero f g = refl
both (suc n) f g = omega (arith, both n f g)

pub total_turned : (n m : ℕ) (f : ℕ → ℕ → ℕ) → total n (λ j. total m (λ k. f j k)) ≡ total m (λ k. total n (λ j. f j k))
unfolding total
total_turned zero m f = sym (zeros m)
total_turned (suc n) m f = ap (λ (s : ℕ). s + total m (λ k. f n k)) (total_turned n m f) ∙ sym (both m (λ k. total n (λ j. f j k)) (λ k. f n k))

-- no term counts below k
before : (n k : ℕ) (f : ℕ → ℕ) → ((j : ℕ) → j < n → k ≡ j → ⊥) → total n (λ j. cond (eqb k j) (f j) 0) ≡ 0
before n k f h = total_same n _ (λ j. 0) (λ j l. simp (ne_eqb k j (h j l))) ∙ zeros n

pub total_one : (n k : ℕ) (f : ℕ → ℕ) → k < n → total n (λ j. cond (eqb k j) (f j) 0) ≡ f k
unfolding total
total_one zero k f l = absurd (not-suc-le-zero l)
total_one (suc n) k f l =
    dite (ℕ_discrete k n)
    (λ e. rw (before n k f (λ j b q. absurd (omega arith)), eq-eqb k n e, e) (zero-add (f n)))
    (λ e. rw (total_one n k f (omega (arith, e)), ne_eqb k n e) (add-zero (f k)))

-- the terms by a map f that g turns back
pub total_reordered : (n : ℕ) (f g : ℕ → ℕ) (v : ℕ → ℕ) → ((c : ℕ) → c < n → f c < n) → ((c : ℕ) → c < n → g c < n) → ((c : ℕ) → c < n → g (f c) ≡ c) → ((c : ℕ) → c < n → f (g c) ≡ c) → total n (λ c. v (f c)) ≡ total n v
total_reordered n f g v there back gf fg =
    total_same n (λ c. v (f c)) _ (λ c l. sym (total_one n (f c) v (there c l)))
    ∙ total_turned n n (λ c d. cond (eqb (f c) d) (v d) 0)
    ∙ total_same n _ v (λ d l. total_same n _ (λ c. cond (eqb (g d) c) (v d) 0) (λ c b. ap (λ (t : Bool). cond t (v d) 0) (turned c d b l)) ∙ total_one n (g d) (λ c. v d) (back d l))
  where
    turned : (c d : ℕ) → c < n → d < n → eqb (f c) d ≡ eqb (g d) c
    turned c d b l =
        dite (ℕ_discrete (f c) d)
        (λ e. eq-eqb (f c) d e ∙ sym (eq-eqb (g d) c (sym (ap g e) ∙ gf c b)))
        (λ e. ne_eqb (f c) d e ∙ sym (ne_eqb (g d) c (λ q. e (sym (ap f q) ∙ fg d l))))

pub total_most : (m n : ℕ) (f : ℕ → ℕ) → ((k : ℕ) → k < n → f k ≤ m) → total n f ≤ n * m
unfolding total
total_most m zero f h = omega arith
total_most m (suc n) f h = rw suc-mul (add-le-add (total_most m n f (λ k l. h k (omega arith))) (h n (le_refl (suc n))))
