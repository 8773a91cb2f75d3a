-- Square roots of whole numbers: what `root` is, and how a root of n1 gives that of n1 * B * B + a1 * B + a0 by one division. Assumes nothing.
use Rattle.std.proofs.Common.{◌≡◌, ℕ, zero, suc, ◌+◌, ◌-◌, ◌*◌, ◌/◌, ◌%◌, ◌^◌, ◌<◌, ◌≤◌, Bool, true, false, cond, not, T, leb, ◌⊎◌, sym, refl, ap, ◌∙◌, subst, inl, inr, le_trans, le_of_eq, le_refl, lt_of_lt_of_le, le_of_suc-le-suc, lt_of_le_of_lt, lt_irrefl, mul-le-mul_right, zero-lt-suc, mul-le-mul, le_antisymm, lt_of_mul-lt-mul_right, mul-lt-mul_of_pos_right, mul-pos, lt_of_not-le, div-le_self, not-le_of_lt, mul-div_cancel, arith, leb→le, pow_pos, pow-add, shr-shr}
use Prim.Native.Nat.{compare, Ordering}
use native.Mathlib.Nat.{mul-mul-mul_comm, pow-succ'}
use lib.Dec.{nleb→lt}
use lib.Ieee.{Format, prec, low, size, nearest, units}
use lib.Ieee.Digits.{size-lt}
use lib.Ieee.Fits.{two, two-le_pos}
use Rattle.numbers.specs.SquareRoot.{another, root_by, root, root_of}
use Rattle.numbers.specs.Inner.{IsRoot, nearest_root}
use Rattle.numbers.proofs.floats.Compared.{le_or_lt, compare_scale, compare_lt, compare_gt}
use Rattle.numbers.proofs.floats.Patterns.{size_drop}

-- ---- squares
pub square_le : (a b : ℕ) → a * a < suc b * suc b → a ≤ b
square_le a b h = le_of_suc-le-suc (lt_of_not-le (λ (g : suc b ≤ a). not-le_of_lt h (mul-le-mul g g)))

-- the squares of s and s + 1 are on the two sides of n
abbrev pub Around : ℕ → ℕ → Type 0
Around n s = (s * s ≤ n) × (n < suc s * suc s)

around_unique : (n q r : ℕ) → Around n q → Around n r → q ≡ r
around_unique n q r a b = le_antisymm (square_le q r (lt_of_le_of_lt a.0 b.1)) (square_le r q (lt_of_le_of_lt b.0 a.1))

pub around : (n s r : ℕ) → IsRoot n s r → Around n s
around n s r h = (omega (arith, h.0), omega (arith, h.0, h.1))

another_around : (s n : ℕ) → Around (n / 4) s → Around n (another (2 * s) n)
another_around s n h = go (leb (suc (2 * s) * suc (2 * s)) n) (leb→le (suc (2 * s) * suc (2 * s)) n) (nleb→lt (suc (2 * s) * suc (2 * s)) n)
  where
    go : (b : Bool) → (T b → suc (2 * s) * suc (2 * s) ≤ n) → (T (not b) → n < suc (2 * s) * suc (2 * s)) → Around n (cond b (suc (2 * s)) (2 * s))
    go true a b = (a tt, omega (arith, h.1))
    go false a b = (omega (arith, h.0), b tt)

root_by_around : (d n : ℕ) → n < 4 ^ d → Around n (root_by d n)
unfolding root_by
root_by_around zero n h = (omega arith, h)
root_by_around (suc d) n h = another_around (root_by d (n / 4)) n (root_by_around d (n / 4) (omega (arith, subst (λ (x : ℕ). n < x) (pow-succ' 4 d) h)))

pub four_pow : (d : ℕ) → 4 ^ d ≡ 2 ^ d * 2 ^ d
four_pow zero = refl
four_pow (suc d) = pow-succ' 4 d ∙ ap (λ (x : ℕ). 4 * x) (four_pow d) ∙ omega arith ∙ ap (λ (x : ℕ). x * x) (sym (pow-succ' 2 d))

pub root_around : (n : ℕ) → Around n (root n)
unfolding root
root_around n = root_by_around (size n) n (lt_of_lt_of_le (size-lt n) (le_trans (grow (2 ^ size n) (pow_pos (size n))) (le_of_eq (sym (four_pow (size n))))))
  where
    grow : (x : ℕ) → 0 < x → x ≤ x * x
    grow x h = le_trans (le_of_eq (omega arith)) (mul-le-mul_right x h)

sq_pos : (n r : ℕ) → n < r * r → 0 < r
sq_pos n zero h = absurd (omega arith)
sq_pos n (suc k) h = zero-lt-suc k

-- one less for the root
shrink : (s rem qq n : ℕ) → 0 < s → s * s + rem ≡ n + qq → rem < qq → qq ≤ rem + 2 * s - 1 → IsRoot n (s - 1) (rem + 2 * s - 1 - qq)
shrink zero rem qq n p e l g = absurd (lt_irrefl 0 p)
shrink (suc t) rem qq n p e l g = let back : t ≡ suc t - 1 = omega arith in subst (λ (x : ℕ). IsRoot n x (rem + 2 * suc t - 1 - qq)) back (omega arith, omega arith)

-- ---- from the root of n1 to that of n, by one division: B is a power of two in the code, and here any number up to 2 * s1
module _ (B s1 r1 a1 a0 n1 : ℕ) (h1 : s1 * s1 + r1 ≡ n1) (h2 : r1 ≤ 2 * s1) (A1 : a1 < B) (A0 : a0 < B) (big : B ≤ 2 * s1) (S : 0 < s1) where
  divided : (q u : ℕ) → q * (2 * s1) + u ≡ r1 * B + a1 → u < 2 * s1 → q ≤ B
  divided q u e l =
      le_of_suc-le-suc (lt_of_mul-lt-mul_right (2 * s1) (omega (arith, e, mul-le-mul_right B h2)))

  whole : (q u : ℕ) → q * (2 * s1) + u ≡ r1 * B + a1 → (s1 * B + q) * (s1 * B + q) + (u * B + a0) ≡ n1 * (B * B) + a1 * B + a0 + q * q
  whole q u e = omega (arith, ap (λ (x : ℕ). x * B) e, ap (λ (x : ℕ). x * (B * B)) h1)

  pub as_is : (q u : ℕ) → q * (2 * s1) + u ≡ r1 * B + a1 → u < 2 * s1 → q * q ≤ u * B + a0 → IsRoot (n1 * (B * B) + a1 * B + a0) (s1 * B + q) (u * B + a0 - q * q)
  as_is q u e l g = (omega (arith, whole q u e), omega (arith, mul-le-mul_right B l))

  pub less_one : (q u : ℕ) → q * (2 * s1) + u ≡ r1 * B + a1 → u < 2 * s1 → u * B + a0 < q * q → IsRoot (n1 * (B * B) + a1 * B + a0) (s1 * B + q - 1) (u * B + a0 + 2 * (s1 * B + q) - 1 - q * q)
  less_one q u e l g =
      let Q : q ≤ B = divided q u e l in
      let P : 0 < q = sq_pos (u * B + a0) q g in
      shrink (s1 * B + q) (u * B + a0) (q * q) (n1 * (B * B) + a1 * B + a0) (omega arith) (whole q u e) g (omega (arith, mul-le-mul Q Q, mul-le-mul_right B big))

-- ---- the nearest value to a root
pub square_lt : (a b : ℕ) → a * a < b * b → a < b
square_lt a b h = lt_of_not-le (λ (g : b ≤ a). not-le_of_lt h (mul-le-mul g g))

-- (x * 2 ^ k) squared
scaled : (x k : ℕ) → x * 2 ^ k * (x * 2 ^ k) ≡ x * x * 4 ^ k
scaled x k = mul-mul-mul_comm x (2 ^ k) x (2 ^ k) ∙ ap (λ (z : ℕ). x * x * z) (sym (four_pow k))

four_pos : (k : ℕ) → 0 < 4 ^ k
four_pos k = subst (λ (x : ℕ). 0 < x) (sym (four_pow k)) (mul-pos (pow_pos k) (pow_pos k))

root_size : (p M k q : ℕ) → 0 < p → Around M q → 2 ^ (p - 1) ≤ q → q < 2 ^ p → size (root (M * 4 ^ k)) - p ≡ k
root_size p M k q P a lo hi =
    let R = root (M * 4 ^ k) in
    let r = root_around (M * 4 ^ k) in
    let ge : q * 2 ^ k ≤ R = square_le (q * 2 ^ k) R (lt_of_le_of_lt (le_trans (le_of_eq (scaled q k)) (mul-le-mul_right (4 ^ k) a.0)) r.1) in
    let lt : R < suc q * 2 ^ k = square_lt R (suc q * 2 ^ k) (lt_of_le_of_lt r.0 (lt_of_lt_of_le (mul-lt-mul_of_pos_right a.1 (four_pos k)) (le_of_eq (sym (scaled (suc q) k))))) in
    size_drop p R k P (le_trans (le_of_eq (pow-add 2 (p - 1) k)) (le_trans (mul-le-mul_right (2 ^ k) lo) ge))
    (lt_of_lt_of_le lt (le_trans (mul-le-mul_right (2 ^ k) hi) (le_of_eq (sym (pow-add 2 p k)))))

pub root_of_at : (f : Format) (num den M k q : ℕ) → 0 < den → num * 4 ^ low f ≡ M * (den * 4 ^ k) → Around M q → 2 ^ (prec f - 1) ≤ q → q < 2 ^ prec f
    → root_of f num den ≡ units f false (nearest q (compare (M * 4) ((2 * q + 1) * (2 * q + 1)))) k
unfolding root_of
root_of_at f num den M k q D e a lo hi =
    let n = num * 4 ^ low f in
    let U : 0 < den * 4 ^ k = mul-pos D (four_pos k) in
    let e1 : n / den ≡ M * 4 ^ k = ap (λ (x : ℕ). x / den) (e ∙ omega arith) ∙ mul-div_cancel (M * 4 ^ k) D in
    let e2 : size (root (n / den)) - prec f ≡ k = ap (λ (x : ℕ). size (root x) - prec f) e1 ∙ root_size (prec f) M k q (two-le_pos (prec f) (two f)) a lo hi in
    let e3 : n / (den * 4 ^ k) ≡ M = ap (λ (x : ℕ). x / (den * 4 ^ k)) e ∙ mul-div_cancel M U in
    let e4 : root (n / (den * 4 ^ k)) ≡ q = ap root e3 ∙ around_unique M (root M) q (root_around M) a in
    let e5 : compare (n * 4) ((2 * q + 1) * (2 * q + 1) * (den * 4 ^ k)) ≡ compare (M * 4) ((2 * q + 1) * (2 * q + 1)) =
    ap (λ (x : ℕ). compare x ((2 * q + 1) * (2 * q + 1) * (den * 4 ^ k))) (ap (λ (x : ℕ). x * 4) e ∙ omega arith) ∙ compare_scale (M * 4) ((2 * q + 1) * (2 * q + 1)) (den * 4 ^ k) U in
    ap (λ (j : ℕ). units f false (nearest (root (n / (den * 4 ^ j))) (compare (n * 4) ((2 * root (n / (den * 4 ^ j)) + 1) * (2 * root (n / (den * 4 ^ j)) + 1) * (den * 4 ^ j)))) j) e2
    ∙ ap (λ (r : ℕ). units f false (nearest r (compare (n * 4) ((2 * r + 1) * (2 * r + 1) * (den * 4 ^ k)))) k) e4
    ∙ ap (λ (o : Ordering). units f false (nearest q o) k) e5

-- with what is left of M: up where it is more than q
up_or_not : (M q r : ℕ) → IsRoot M q r → (r ≤ q → nearest q (compare (M * 4) ((2 * q + 1) * (2 * q + 1))) ≡ q) × (q < r → nearest q (compare (M * 4) ((2 * q + 1) * (2 * q + 1))) ≡ q + 1)
up_or_not M q r h =
    let e = h.0 in (
      λ l. ap (nearest q) (compare_lt (M * 4) ((2 * q + 1) * (2 * q + 1)) (omega arith)),
      λ g. ap (nearest q) (compare_gt (M * 4) ((2 * q + 1) * (2 * q + 1)) (omega arith)) ∙ omega arith,
    )

-- ---- digit by digit: n / 2 ^ (2 * k) is what stands before the last k digits of n to the base 4
pub none_yet : (n : ℕ) → n < 18014398509481984 → IsRoot (n / 18014398509481984) 0 0
none_yet n h = (omega arith, omega arith)

before : (n k : ℕ) → 0 < k → n / 2 ^ (2 * k) ≡ n / 2 ^ (2 * (k - 1)) / 4
before n k h = ap (λ (j : ℕ). n / 2 ^ j) (omega arith) ∙ sym (shr-shr n (2 * (k - 1)) 2)

pub half_root : (n k s r : ℕ) → n < 18014398509481984 → 0 < k → IsRoot (n / 2 ^ (2 * k)) s r → s < 67108864
half_root n k s r h K i =
    let a = around (n / 2 ^ (2 * k)) s r i in
    let l : n / 2 ^ (2 * k) ≤ n / 4 = le_trans (le_of_eq (ap (λ (j : ℕ). n / 2 ^ j) (omega arith) ∙ sym (shr-shr n 2 (2 * k - 2)))) (div-le_self (n / 4) (2 ^ (2 * k - 2))) in
    square_lt s 67108864 (lt_of_le_of_lt a.0 (omega arith))

pub next_digit : (n k s r t u : ℕ) → 0 < k → IsRoot (n / 2 ^ (2 * k)) s r → IsRoot ((s * s + r) * 4 + n / 2 ^ (2 * (k - 1)) % 4) t u → IsRoot (n / 2 ^ (2 * (k - 1))) t u
next_digit n k s r t u K i j = subst (λ (m : ℕ). IsRoot m t u) (omega (arith, i.0, before n k K)) j

-- a root of a number between two squares
pub between : (n s r lo hi : ℕ) → IsRoot n s r → lo * lo ≤ n → n < hi * hi → (lo ≤ s) × (s < hi)
between n s r lo hi h a b =
    let w = around n s r h in
    (square_le lo s (lt_of_le_of_lt a w.1), square_lt s hi (lt_of_le_of_lt w.0 b))

pub nearest_down : (M s r : ℕ) → IsRoot M s r → r ≤ s → nearest_root M ≡ s
unfolding nearest_root
nearest_down M s r h l = ap (λ (q : ℕ). nearest q (compare (M * 4) ((2 * q + 1) * (2 * q + 1)))) (around_unique M (root M) s (root_around M) (around M s r h)) ∙ (up_or_not M s r h).0 l

pub nearest_up : (M s r : ℕ) → IsRoot M s r → s < r → nearest_root M ≡ s + 1
unfolding nearest_root
nearest_up M s r h l = ap (λ (q : ℕ). nearest q (compare (M * 4) ((2 * q + 1) * (2 * q + 1)))) (around_unique M (root M) s (root_around M) (around M s r h)) ∙ (up_or_not M s r h).1 l

-- a number of 53 digits, or twice it
pub doubled : (m w : ℕ) → 4503599627370496 ≤ m → m < 9007199254740992 → 1 ≤ w → w ≤ 2 → (4503599627370496 ≤ m * w) × (m * w < 18014398509481984)
doubled m w a b c d = (omega (arith, mul-le-mul (le_refl m) c), omega (arith, mul-le-mul (le_refl m) d))

-- what `nearest_root` is, by squares: the halves on its two sides, squared, are on the two sides of M. (A half's square is no whole number, so neither is met.)
pub bracket : (M : ℕ) → (M * 4 < (2 * nearest_root M + 1) * (2 * nearest_root M + 1)) × ((2 * nearest_root M - 1) * (2 * nearest_root M - 1) < M * 4 + 1)
bracket M = go (le_or_lt (M - root M * root M) (root M))
  where
    is : IsRoot M (root M) (M - root M * root M)
    is = let a = root_around M in (omega (arith, a.0), omega (arith, a.0, a.1))

    down_is : (M s r : ℕ) → s * s + r ≡ M → r ≤ s → (M * 4 < (2 * s + 1) * (2 * s + 1)) × ((2 * s - 1) * (2 * s - 1) < M * 4 + 1)
    down_is M zero r e l = (omega arith, omega arith)
    down_is M (suc s) r e l = let o : suc (2 * s) ≡ 2 * suc s - 1 = omega arith in (omega arith, subst (λ (x : ℕ). x * x < M * 4 + 1) o (omega arith))

    up_is : (M s r : ℕ) → s * s + r ≡ M → r ≤ 2 * s → s < r → (M * 4 < (2 * (s + 1) + 1) * (2 * (s + 1) + 1)) × ((2 * (s + 1) - 1) * (2 * (s + 1) - 1) < M * 4 + 1)
    up_is M s r e h l = let o : 2 * s + 1 ≡ 2 * (s + 1) - 1 = omega arith in (omega arith, subst (λ (x : ℕ). x * x < M * 4 + 1) o (omega arith))

    go : (M - root M * root M ≤ root M) ⊎ (root M < M - root M * root M) → (M * 4 < (2 * nearest_root M + 1) * (2 * nearest_root M + 1)) × ((2 * nearest_root M - 1) * (2 * nearest_root M - 1) < M * 4 + 1)
    go (inl l) = subst (λ (n : ℕ). (M * 4 < (2 * n + 1) * (2 * n + 1)) × ((2 * n - 1) * (2 * n - 1) < M * 4 + 1)) (sym (nearest_down M (root M) (M - root M * root M) is l)) (down_is M (root M) (M - root M * root M) is.0 l)
    go (inr g) = subst (λ (n : ℕ). (M * 4 < (2 * n + 1) * (2 * n + 1)) × ((2 * n - 1) * (2 * n - 1) < M * 4 + 1)) (sym (nearest_up M (root M) (M - root M * root M) is g)) (up_is M (root M) (M - root M * root M) is.0 is.1 g)

-- ---- the last step, from the root s of n1 to the nearest whole number to the root of n1 * 2 ^ 52
module _ (s r q u : ℕ) (lo : 67108864 ≤ s) (hi : s < 134217728) (left : r ≤ 2 * s) (e : q * (2 * s) + u ≡ r * 67108864) (l : u < 2 * s) where
  pub last_quotient : q ≤ 67108864
  last_quotient = divided 67108864 s r 0 0 (s * s + r) refl left (omega arith) (omega arith) (omega arith) (omega arith) q u (omega arith) l

  square : q * q ≤ 4503599627370496
  square = mul-le-mul last_quotient last_quotient

  same : (s * s + r) * (67108864 * 67108864) + 0 * 67108864 + 0 ≡ (s * s + r) * 4503599627370496
  same = omega arith

  pub last_up : s * 67108864 + q + q * q < u * 67108864 → s * 67108864 + q + 1 ≡ nearest_root ((s * s + r) * 4503599627370496)
  last_up g =
      sym (nearest_up ((s * s + r) * 4503599627370496) (s * 67108864 + q) (u * 67108864 + 0 - q * q)
      (subst (λ (n : ℕ). IsRoot n (s * 67108864 + q) (u * 67108864 + 0 - q * q)) same
      (as_is 67108864 s r 0 0 (s * s + r) refl left (omega arith) (omega arith) (omega arith) (omega arith) q u (omega arith) l (omega arith)))
      (omega arith))

  pub last_down : u * 67108864 ≤ s * 67108864 + q + q * q → s * 67108864 + q ≡ nearest_root ((s * s + r) * 4503599627370496)
  last_down g = go (leb (q * q) (u * 67108864 + 0)) (leb→le (q * q) (u * 67108864 + 0)) (nleb→lt (q * q) (u * 67108864 + 0))
    where
      go : (b : Bool) → (T b → q * q ≤ u * 67108864 + 0) → (T (not b) → u * 67108864 + 0 < q * q) → s * 67108864 + q ≡ nearest_root ((s * s + r) * 4503599627370496)
      go true h k =
          sym (nearest_down ((s * s + r) * 4503599627370496) (s * 67108864 + q) (u * 67108864 + 0 - q * q)
          (subst (λ (n : ℕ). IsRoot n (s * 67108864 + q) (u * 67108864 + 0 - q * q)) same
          (as_is 67108864 s r 0 0 (s * s + r) refl left (omega arith) (omega arith) (omega arith) (omega arith) q u (omega arith) l (h tt)))
          (omega arith))
      go false h k =
          let P : 0 < q = sq_pos (u * 67108864 + 0) q (k tt) in
          let Q : u * 67108864 + 0 < q * q = k tt in
          let W = square in
          omega arith
          ∙ sym (nearest_up ((s * s + r) * 4503599627370496) (s * 67108864 + q - 1) (u * 67108864 + 0 + 2 * (s * 67108864 + q) - 1 - q * q)
          (subst (λ (n : ℕ). IsRoot n (s * 67108864 + q - 1) (u * 67108864 + 0 + 2 * (s * 67108864 + q) - 1 - q * q)) same
          (less_one 67108864 s r 0 0 (s * s + r) refl left (omega arith) (omega arith) (omega arith) (omega arith) q u (omega arith) l (k tt)))
          (omega arith))
