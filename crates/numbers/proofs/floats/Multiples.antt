-- The multiple of a unit that is nearest to a number, and the numbers of few digits beside it. Nothing here is about floats. Assumes nothing.
use Rattle.std.proofs.Common.{◌≡◌, ℕ, zero, suc, ◌+◌, ◌-◌, ◌*◌, ◌/◌, ◌%◌, ◌^◌, ◌<◌, ◌≤◌, ◌⊎◌, sym, refl, ap, ◌∙◌, subst, inl, inr, le_trans, le_of_eq, lt_of_lt_of_le, lt_of_le_of_lt, le_of_lt, lt_irrefl, mul-le-mul_right, mod-lt, div-lt_iff_lt-mul, mul-le-mul, le_antisymm, lt_of_mul-lt-mul_right, mul-lt-mul_of_pos_right, mul-pos, div-add-mod', le-div_iff_mul-le, div-mul-le_self, le_of_mul-le-mul_right, arith, pow_pos, pow_mono, pow-add, shl_lt}
use Prim.Native.Nat.{compare, Ordering}
use native.Mathlib.Nat.{le_dest, div-div-eq-div-mul}
use lib.Arith.{add-le_cancel_left}
use lib.Pow.{le_ones}
use lib.Ieee.{nearest}
use lib.Ieee.Digits.{size_reaches, size-le}
use lib.Ieee.Fits.{kept-lt, nearest-le}
use lib.Ieee.Nearest.{closest}
use lib.Ieee.Order.{drop, kept}
use Rattle.numbers.specs.Nearest.{apart}
use Rattle.numbers.proofs.floats.Compared.{Cmp, cmp, le_or_lt}
use Rattle.numbers.proofs.floats.Differences.{zero_of_law}
use Rattle.numbers.proofs.floats.Patterns.{shifted, pow_le_back}

-- ---- how far q * u + r is from j * u
-- from a multiple at or below q * u, i units below it
from_below : (q u r j i : ℕ) → j + i ≡ q → apart (q * u + r) (j * u) ≡ i * u + r
from_below q u r j i e = omega (arith, ap (λ (x : ℕ). x * u) e)

-- from a multiple above it
from_above : (q u r j i : ℕ) → r < u → suc q + i ≡ j → apart (q * u + r) (j * u) ≡ i * u + (u - r)
from_above q u r j i h e = omega (arith, ap (λ (x : ℕ). x * u) e)

-- j is the other one of q and q + 1, and w is the even one
pub record Other (q w j : ℕ) : Type 0 where
  pub even : w % 2 ≡ 0
  pub odd : j % 2 ≡ 1
  pub from : q ≤ j
  pub to : j ≤ suc q

-- w * u is no farther from n than j * u, and where it is as far they are the same, or w is the even one of the two beside n
pub record Best (n u q w j : ℕ) : Type 0 where
  pub near : apart n (w * u) ≤ apart n (j * u)
  pub same : apart n (w * u) ≡ apart n (j * u) → (j ≡ w) ⊎ Other q w j

-- at a tie the chosen one is even, one of the two, and half a unit away
record Tied (q u r w : ℕ) : Type 0 where
  even : w % 2 ≡ 0
  either : (w ≡ q) ⊎ (w ≡ suc q)
  far : apart (q * u + r) (w * u) ≡ r

tied : (q u r : ℕ) → r * 2 ≡ u → Tied q u r (q + q % 2)
tied q u r c = go (q % 2) refl
  where
    go : (b : ℕ) → q % 2 ≡ b → Tied q u r (q + b)
    go zero e = record { even = omega arith; either = inl (omega arith); far = omega arith }
    go (suc zero) e = record { even = omega arith; either = inr (omega arith); far = omega arith }
    go (suc (suc b)) e = absurd (omega arith)

-- the two beside a tie
split : (q w j : ℕ) → w % 2 ≡ 0 → (w ≡ q) ⊎ (w ≡ suc q) → (j ≡ q) ⊎ (j ≡ suc q) → (j ≡ w) ⊎ Other q w j
split q w j v (inl a) (inl b) = inl (b ∙ sym a)
split q w j v (inr a) (inr b) = inl (b ∙ sym a)
split q w j v (inl a) (inr b) = inr record { even = v; odd = omega arith; from = omega arith; to = omega arith }
split q w j v (inr a) (inl b) = inr record { even = v; odd = omega arith; from = omega arith; to = omega arith }

-- a multiple i units below q
lower : (q u r j i : ℕ) (o : Ordering) → r < u → Cmp o (r * 2) u → j + i ≡ q → Best (q * u + r) u q (nearest q o) j
lower q u r j i Ordering.lt R c e =
    let b = from_below q u r j i e in
    record { near = omega arith; same = λ h. let z : i ≡ 0 = zero_of_law i u (omega arith) (omega arith) in inl (omega arith) }
lower q u r j i Ordering.eq R c e =
    let b = from_below q u r j i e in
    let t = tied q u r c in
    record {
      near = omega arith;
      same = λ h. let z : i ≡ 0 = zero_of_law i u (omega arith) (omega arith) in split q (q + q % 2) j t.even t.either (inl (omega arith));
    }
lower q u r j i Ordering.gt R c e =
    let b = from_below q u r j i e in
    record { near = omega arith; same = λ h. absurd (omega arith) }

-- a multiple i units above q + 1
higher : (q u r j i : ℕ) (o : Ordering) → r < u → Cmp o (r * 2) u → suc q + i ≡ j → Best (q * u + r) u q (nearest q o) j
higher q u r j i Ordering.lt R c e =
    let b = from_above q u r j i R e in
    record { near = omega arith; same = λ h. absurd (omega arith) }
higher q u r j i Ordering.eq R c e =
    let b = from_above q u r j i R e in
    let t = tied q u r c in
    record {
      near = omega arith;
      same = λ h. let z : i ≡ 0 = zero_of_law i u (omega arith) (omega arith) in split q (q + q % 2) j t.even t.either (inr (omega arith));
    }
higher q u r j i Ordering.gt R c e =
    let b = from_above q u r j i R e in
    record { near = omega arith; same = λ h. let z : i ≡ 0 = zero_of_law i u (omega arith) (omega arith) in inl (omega arith) }

-- The whole number that `nearest` chooses is the best multiple.
best : (q u r j : ℕ) (o : Ordering) → r < u → Cmp o (r * 2) u → Best (q * u + r) u q (nearest q o) j
best q u r j o R c = elim (le_or_lt j q) [
  | inl l ↦ let d = le_dest l in lower q u r j d.0 o R c d.1
  | inr l ↦ let d = le_dest l in higher q u r j d.0 o R c d.1
]

-- So `closest` is the best multiple.
pub best_multiple : (n u j : ℕ) → 0 < u → Best n u (n / u) (closest n u) j
best_multiple n u j U =
    subst (λ (x : ℕ). Best x u (n / u) (closest n u) j) (div-add-mod' n u) (best (n / u) u (n % u) j (compare (n % u * 2) u) (mod-lt n U) (cmp (n % u * 2) u))

-- ---- what `round` keeps of n / den for a format of p digits: it drops `drop` digits, and `kept` is the nearest number of units of 2 ^ drop
-- the whole part in those units
abbrev pub whole : ℕ → ℕ → ℕ → ℕ
whole p n den = n / (den * 2 ^ drop p n den)

-- it has at most p digits
pub whole_lt : (p n den : ℕ) → whole p n den < 2 ^ p
whole_lt p n den = subst (λ (x : ℕ). x < 2 ^ p) (div-div-eq-div-mul n den (2 ^ drop p n den)) (kept-lt p (n / den))

-- where digits are dropped it has p digits
pub whole_ge : (p n den : ℕ) → 0 < p → 0 < drop p n den → 2 ^ (p - 1) ≤ whole p n den
whole_ge p n den P K =
    let k = drop p n den in
    subst (λ (x : ℕ). 2 ^ (p - 1) ≤ x) (div-div-eq-div-mul n den (2 ^ k))
    ((le-div_iff_mul-le (pow_pos k)).1 (le_trans (le_of_eq (sym (pow-add 2 (p - 1) k))) (size_reaches (n / den) (p - 1 + k) (omega arith))))

-- c * 2 ^ z is as near to n / den as the chosen multiple only where it is that one, or the odd one at a tie
pub record Beside (n den k q w C : ℕ) : Type 0 where
  pub near : apart n (w * 2 ^ k * den) ≤ apart n (C * den)
  pub same : apart n (w * 2 ^ k * den) ≡ apart n (C * den) → (C ≡ w * 2 ^ k) ⊎ ((j : ℕ) × (C ≡ j * 2 ^ k) × Other q w j)

-- what is a multiple of 2 ^ k
multiple : (n den k q w j C : ℕ) → C ≡ j * 2 ^ k → Best n (den * 2 ^ k) q w j → Beside n den k q w C
multiple n den k q w j C e b =
    let x : w * (den * 2 ^ k) ≡ w * 2 ^ k * den = omega arith in
    let y : j * (den * 2 ^ k) ≡ C * den = omega arith ∙ ap (λ (a : ℕ). a * den) (sym e) in
    record {
      near = subst (λ (a : ℕ). apart n a ≤ apart n (C * den)) x (subst (λ (a : ℕ). apart n (w * (den * 2 ^ k)) ≤ apart n a) y b.near);
      same = λ h. elim (b.same (ap (apart n) x ∙ h ∙ ap (apart n) (sym y))) [ inl i ↦ inl (e ∙ ap (λ (a : ℕ). a * 2 ^ k) i) | inr o ↦ inr (j, e, o) ];
    }

-- what is less than q * 2 ^ k, which is at most n / den
less : (n den k q w C : ℕ) → C * den < q * (den * 2 ^ k) → q * (den * 2 ^ k) ≤ n → Best n (den * 2 ^ k) q w q → Beside n den k q w C
less n den k q w C l h b =
    let x : w * (den * 2 ^ k) ≡ w * 2 ^ k * den = omega arith in
    let far : apart n (w * 2 ^ k * den) < apart n (C * den) = subst (λ (a : ℕ). apart n a < apart n (C * den)) x (omega (arith, b.near)) in
    record { near = le_of_lt far; same = λ g. absurd (lt_irrefl (apart n (C * den)) (subst (λ (a : ℕ). a < apart n (C * den)) g far)) }

-- a number of p digits with fewer zeros after it is smaller than one that has all of its p digits
pub fewer : (p c z k q : ℕ) → 0 < p → c < 2 ^ p → z < k → 2 ^ (p - 1) ≤ q → c * 2 ^ z < q * 2 ^ k
fewer p c z k q P F g l = lt_of_lt_of_le (shl_lt p z F) (le_trans (pow_mono (omega arith)) (le_trans (le_of_eq (pow-add 2 (p - 1) k)) (mul-le-mul_right (2 ^ k) l)))

-- Of all numbers of at most p digits and zeros after them none is nearer.
pub best_number : (p n den c z : ℕ) → 0 < p → 0 < den → c < 2 ^ p → Beside n den (drop p n den) (whole p n den) (kept p n den) (c * 2 ^ z)
best_number p n den c z P D F = elim (le_or_lt k z) [
  | inl g ↦ multiple n den k q (kept p n den) (c * 2 ^ (z - k)) (c * 2 ^ z) (shifted c k z g) (best_multiple n (den * 2 ^ k) (c * 2 ^ (z - k)) U)
  | inr g ↦
      less n den k q (kept p n den) (c * 2 ^ z)
      (lt_of_lt_of_le (mul-lt-mul_of_pos_right (fewer p c z k q P F g (whole_ge p n den P (omega arith))) D) (le_of_eq (sym (omega arith))))
      (div-mul-le_self n (den * 2 ^ k)) (best_multiple n (den * 2 ^ k) q U)
]
  where
    k : ℕ
    k = drop p n den

    q : ℕ
    q = whole p n den

    U : 0 < den * 2 ^ k
    U = mul-pos D (pow_pos k)

-- ---- where the chosen number reaches 2 ^ (p + K), the fraction reaches the middle between (2 ^ p - 1) * 2 ^ K and it
-- at most half a unit is added
gained : (n u : ℕ) → 0 < u → 2 * (closest n u * u) ≤ 2 * n + u
gained n u U = subst (λ (x : ℕ). 2 * (closest n u * u) ≤ 2 * x + u) (div-add-mod' n u) (go (n / u) (n % u) (compare (n % u * 2) u) (cmp (n % u * 2) u))
  where
    go : (q r : ℕ) (o : Ordering) → Cmp o (r * 2) u → 2 * (nearest q o * u) ≤ 2 * (q * u + r) + u
    go q r Ordering.lt c = omega arith
    go q r Ordering.eq c =
        let l : (q + q % 2) * u ≤ suc q * u = mul-le-mul_right u (omega arith) in
        omega arith
    go q r Ordering.gt c = omega arith

-- what is kept has at most p digits, or is 2 ^ p
pub kept_le : (p n den : ℕ) → kept p n den ≤ 2 ^ p
kept_le p n den = le_trans (nearest-le (whole p n den) (compare (n % (den * 2 ^ drop p n den) * 2) (den * 2 ^ drop p n den))) (whole_lt p n den)

-- so a count from 2 ^ (p + K) on is that of a fraction from the middle on, here twice as large
pub overflows : (p K n den : ℕ) → 0 < den → 2 ^ (p + K) ≤ kept p n den * 2 ^ drop p n den → (2 ^ (p + 1) - 1) * 2 ^ K * den ≤ 2 * n
overflows p K n den D h = elim (le_or_lt ((2 ^ (p + 1) - 1) * 2 ^ K * den) (2 * n)) [
  | inl l ↦ l
  | inr l ↦
      let k = drop p n den in
      let few : k ≤ K = omega (arith, size-le (n / den) (p + K) ((div-lt_iff_lt-mul D).1 (subst (λ (x : ℕ). n < x * den) (sym (pow-add 2 p K)) (halved (2 ^ p) (2 ^ K) n (subst (λ (x : ℕ). 2 * n < (x - 1) * 2 ^ K * den) (pow-add 2 p 1) l))))) in
      let many : K ≤ k = add-le_cancel_left p (pow_le_back (p + K) (p + k) (le_trans h (le_trans (mul-le-mul_right (2 ^ k) (kept_le p n den)) (le_of_eq (sym (pow-add 2 p k)))))) in
      let e : k ≡ K = le_antisymm few many in
      let top : 2 ^ p ≤ kept p n den = le_of_mul-le-mul_right (subst (λ (x : ℕ). 2 ^ p * 2 ^ K ≤ kept p n den * 2 ^ x) e (subst (λ (x : ℕ). x ≤ kept p n den * 2 ^ k) (pow-add 2 p K) h)) (pow_pos K) in
      subst (λ (x : ℕ). (x - 1) * 2 ^ K * den ≤ 2 * n) (sym (pow-add 2 p 1))
      (reached (2 ^ p) (2 ^ K) (kept p n den) top (subst (λ (x : ℕ). 2 * (kept p n den * (den * 2 ^ x)) ≤ 2 * n + den * 2 ^ x) e (gained n (den * 2 ^ k) (mul-pos D (pow_pos k)))))
]
  where
    halved : (a b n : ℕ) → 2 * n < (a * 2 - 1) * b * den → n < a * b * den
    halved a b n h =
        let l : (a * 2 - 1) * b * den ≤ a * 2 * b * den = mul-le-mul_right den (mul-le-mul_right b (omega arith)) in
        omega arith

    less_one : (w X : ℕ) → 2 * (w * (den * X)) ≤ 2 * n + den * X → (w * 2 - 1) * X * den ≤ 2 * n
    less_one zero X g = omega arith
    less_one (suc w) X g = let o : 2 * w + 1 ≡ suc w * 2 - 1 = omega arith in subst (λ (x : ℕ). x * X * den ≤ 2 * n) o (omega arith)

    reached : (a X w : ℕ) → a ≤ w → 2 * (w * (den * X)) ≤ 2 * n + den * X → (a * 2 - 1) * X * den ≤ 2 * n
    reached a X w l g = le_trans (mul-le-mul_right den (mul-le-mul_right X (omega arith))) (less_one w X g)

-- ---- the largest number of p digits and zeros after them
-- Below 2 ^ (p + K) none is above (2 ^ p - 1) * 2 ^ K.
pub most : (p K c z : ℕ) → c < 2 ^ p → c * 2 ^ z < 2 ^ (p + K) → c * 2 ^ z ≤ (2 ^ p - 1) * 2 ^ K
most p K c z F h = elim (le_or_lt K z) [
  | inl g ↦
      let e : c * 2 ^ z ≡ c * 2 ^ (z - K) * 2 ^ K = shifted c K z g in
      le_trans (le_of_eq e) (mul-le-mul_right (2 ^ K) (le_ones p (lt_of_mul-lt-mul_right (2 ^ K) (lt_of_le_of_lt (le_of_eq (sym e)) (lt_of_lt_of_le h (le_of_eq (pow-add 2 p K)))))))
  | inr g ↦ mul-le-mul (le_ones p F) (pow_mono (le_of_lt g))
]
