-- The square root's definition is the right one: it is the one value that is nearest to the root. Assumes nothing.
--     root_nearest  the square root of a positive value that binary64 holds is a value nearest to its root
--     root_only     two values that are nearest to the root of one fraction are the same
--     root_is       so whatever value is nearest to the root of x is the square root of x
--     normal_root_is       the root of the number that a pattern's fields stand for is the square root wherever the pattern is that of a positive normal value
--     normal_root_nearest  and of every pattern it is a value nearest to that number's root
--     infinite_root, subnormal_root  where a pattern is none of a positive normal value the two differ: evaluated for infinity and for the smallest subnormal
use Rattle.std.proofs.Common.{◌≡◌, ℕ, zero, suc, ◌+◌, ◌-◌, ◌*◌, ◌/◌, ◌%◌, ◌^◌, ◌<◌, ◌≤◌, false, T, ◌⊎◌, ℤ, pos, negsuc, sym, refl, ap, ◌∙◌, subst, inl, inr, le_trans, le_of_eq, lt_of_lt_of_le, lt_of_le_of_lt, le_of_lt, lt_irrefl, mul-le-mul_right, zero-lt-suc, mul_assoc, mul_comm, mul-le-mul, lt_of_mul-lt-mul_right, eq-or-lt_of_le, mul-lt-mul_of_pos_right, mul-pos, one-mul, lt_of_not-le, not-le_of_lt, arith, lit<, lit≤, pow_pos, pow_mono, pow-add, shl_lt}
use native.Mathlib.Nat.{mul-mul-mul_comm, pow-succ'}
use lib.Ieee.{Float, inf, fin, Format, binary64, up, down, size, units, fits, of_bits, to_bits}
use lib.Ieee.Digits.{size-lt, size-le, size_reaches}
use lib.Ieee.Fits.{up_pos, down_pos}
use lib.Ieee.Exact.{units_val}
use lib.Ieee.Bits.{of_bits-fits}
use Rattle.numbers.specs.SquareRoot.{root_by, root, root_of, sqrt_of, PositiveNormal, normal_size, normal_root, NearestRoot, MidpointAbove, MidpointBelow}
use Rattle.numbers.proofs.floats.Values.{with_value}
use Rattle.numbers.proofs.floats.Held.{held, count, value_unique}
use Rattle.numbers.specs.Inner.{nearest_root}
use Rattle.numbers.proofs.floats.Patterns.{pattern, pow_lt_back, size_gt, shifted}
use Rattle.numbers.proofs.floats.Compared.{le_or_lt}
use Rattle.numbers.proofs.floats.Distances.{units_order}
use Rattle.numbers.proofs.floats.Multiples.{fewer}
use Rattle.numbers.proofs.square_root.Roots.{bracket, four_pow}
use Rattle.numbers.proofs.square_root.Rooting.{Wide, sqrt_units, nearest_wide, four_two, k_of, M_of, wide_of, field_of, digits_of, size_is, spread, fields_units, normal}

-- ---- x = N / L is M * 4 ^ k / L ^ 2, with an M of 105 or 106 digits
record Square (N : ℕ) : Type 0 where
  M : ℕ
  k : ℕ
  is : N * 2 ^ 1074 ≡ M * 4 ^ k
  wide : Wide M
  some : 1 ≤ k
  few : k ≤ 2000

square : (n j : ℕ) → 0 < n → n < 2 ^ 53 → j < 2098 → Square (n * 2 ^ j)
square n j P F J =
    let z = size n in
    let c = 105 - z + (z + 1 + j) % 2 in
    let k = (j + 1074 - c) / 2 in
    let zp : 0 < z = size_gt n 0 P in
    let zl : z ≤ 53 = size-le n 53 F in
    let split : j + 1074 ≡ c + (k + k) = omega arith in
    record {
      M = n * 2 ^ c;
      k = k;
      is = mul_assoc n (2 ^ j) (2 ^ 1074)
          ∙ ap (λ (x : ℕ). n * x) (sym (pow-add 2 j 1074) ∙ ap (λ (x : ℕ). 2 ^ x) split ∙ pow-add 2 c (k + k) ∙ ap (λ (x : ℕ). 2 ^ c * x) (sym (four_two k)))
          ∙ sym (mul_assoc n (2 ^ c) (4 ^ k));
      wide = (
        le_trans (pow_mono {i = 104} (omega arith)) (le_trans (le_of_eq (pow-add 2 (z - 1) c)) (mul-le-mul_right (2 ^ c) (size_reaches n (z - 1) (omega arith)))),
        lt_of_lt_of_le (shl_lt z c (size-lt n)) (pow_mono {j = 106} (omega arith)),
      );
      some = omega arith;
      few = omega arith;
    }

-- ---- the steps from q * 2 ^ k, a number of 53 digits and k zeros, to the next values on its two sides
gap_above : (q k n j : ℕ) → 4503599627370496 ≤ q → n < 2 ^ 53 → q * 2 ^ k < n * 2 ^ j → suc q * 2 ^ k ≤ n * 2 ^ j
gap_above q k n j Q F h = elim (le_or_lt k j) [
  | inl g ↦ le_trans (mul-le-mul_right (2 ^ k) (lt_of_mul-lt-mul_right (2 ^ k) (lt_of_lt_of_le h (le_of_eq (shifted n k j g))))) (le_of_eq (sym (shifted n k j g)))
  | inr g ↦ absurd (not-le_of_lt h (le_of_lt (fewer 53 n j k q (lit< tt) F g Q)))
]

gap_below : (q k n j : ℕ) → 4503599627370496 < q → n < 2 ^ 53 → n * 2 ^ j < q * 2 ^ k → n * 2 ^ j + 2 ^ k ≤ q * 2 ^ k
gap_below q k n j Q F h = elim (le_or_lt k j) [
  | inl g ↦
      let a = n * 2 ^ (j - k) in
      let l : suc a * 2 ^ k ≤ q * 2 ^ k = mul-le-mul_right (2 ^ k) (lt_of_mul-lt-mul_right (2 ^ k) (lt_of_le_of_lt (le_of_eq (sym (shifted n k j g))) h)) in
      le_trans (le_of_eq (ap (λ (x : ℕ). x + 2 ^ k) (shifted n k j g))) (omega arith)
  | inr g ↦ omega (arith, fewer 53 n j k 4503599627370496 (lit< tt) F g (lit≤ tt), mul-le-mul_right (2 ^ k) Q)
]

-- ---- the squares of the midpoints, in units
above_units : (q p B M : ℕ) → 0 < p → suc q * p ≤ B → M * 4 < (2 * q + 1) * (2 * q + 1) → 4 * (M * (p * p)) < (q * p + B) * (q * p + B)
above_units q p B M P g h =
    let l : (2 * q + 1) * p ≤ q * p + B = omega arith in
    lt_of_le_of_lt (le_of_eq (omega arith))
    (lt_of_lt_of_le (mul-lt-mul_of_pos_right h (mul-pos P P)) (le_trans (le_of_eq (sym (mul-mul-mul_comm (2 * q + 1) p (2 * q + 1) p))) (mul-le-mul l l)))

below_units : (r p B M : ℕ) → 0 < p → B + p ≤ suc r * p → (2 * suc r - 1) * (2 * suc r - 1) < M * 4 + 1 → (suc r * p + B) * (suc r * p + B) < 4 * (M * (p * p))
below_units r p B M P g h =
    let l : suc r * p + B ≤ (2 * r + 1) * p = omega arith in
    let e : 2 * suc r - 1 ≡ 2 * r + 1 = omega arith in
    let o : (2 * r + 1) * (2 * r + 1) < M * 4 = omega (arith, subst (λ (x : ℕ). x * x < M * 4 + 1) e h) in
    lt_of_le_of_lt (le_trans (mul-le-mul l l) (le_of_eq (mul-mul-mul_comm (2 * r + 1) p (2 * r + 1) p))) (lt_of_lt_of_le (mul-lt-mul_of_pos_right o (mul-pos P P)) (le_of_eq (omega arith)))

-- the step below a power of two is half as large
below_half : (r p B M : ℕ) → 0 < p → 2 * B + p ≤ 2 * (suc r * p) → suc r * suc r ≤ M → (suc r * p + B) * (suc r * p + B) < 4 * (M * (p * p))
below_half r p B M P g h =
    let l : 2 * (suc r * p + B) ≤ (4 * r + 3) * p = omega arith in
    let t : 4 * ((suc r * p + B) * (suc r * p + B)) < 16 * (M * (p * p)) =
    lt_of_le_of_lt (le_trans (le_of_eq (omega arith)) (le_trans (mul-le-mul l l) (le_of_eq (mul-mul-mul_comm (4 * r + 3) p (4 * r + 3) p))))
    (lt_of_lt_of_le (mul-lt-mul_of_pos_right (omega arith) (mul-pos P P)) (le_of_eq (mul_assoc 16 M (p * p)))) in
    omega arith

-- ---- from units to fractions: a / c is Q / L, b / d is B / L and num / den is P / L ^ 2
sum_units : (a c b d L Q B : ℕ) → a * L ≡ Q * c → b * L ≡ B * d → (a * d + b * c) * L ≡ (Q + B) * (c * d)
sum_units a c b d L Q B e g = omega (arith, ap (λ (x : ℕ). x * d) e, ap (λ (x : ℕ). x * c) g)

squared : (S L X w den : ℕ) → S * L ≡ X * w → S * S * den * (L * L) ≡ X * X * (w * w * den)
squared S L X w den e = omega arith ∙ ap (λ (z : ℕ). z * z * den) e ∙ omega arith

scaled : (num den L P w : ℕ) → num * (L * L) ≡ P * den → 4 * num * (w * w) * (L * L) ≡ 4 * P * (w * w * den)
scaled num den L P w e = omega arith ∙ ap (λ (z : ℕ). 4 * z * (w * w)) e ∙ omega arith

module _ (a c b d num den L P Q B : ℕ) (C : 0 < c) (D : 0 < d) (E : 0 < den) (e : a * L ≡ Q * c) (g : b * L ≡ B * d) (h : num * (L * L) ≡ P * den) where
  abbrev S : ℕ
  S = a * d + b * c

  W : 0 < c * d * (c * d) * den
  W = mul-pos (mul-pos (mul-pos C D) (mul-pos C D)) E

  left : S * S * den * (L * L) ≡ (Q + B) * (Q + B) * (c * d * (c * d) * den)
  left = squared S L (Q + B) (c * d) den (sum_units a c b d L Q B e g)

  right : 4 * num * (c * d * (c * d)) * (L * L) ≡ 4 * P * (c * d * (c * d) * den)
  right = scaled num den L P (c * d) h

  to_above : 4 * P < (Q + B) * (Q + B) → MidpointAbove a c b d num den
  to_above l = lt_of_mul-lt-mul_right (L * L) (lt_of_le_of_lt (le_of_eq right) (lt_of_lt_of_le (mul-lt-mul_of_pos_right l W) (le_of_eq (sym left))))

  to_below : (Q + B) * (Q + B) < 4 * P → MidpointBelow a c b d num den
  to_below l = lt_of_mul-lt-mul_right (L * L) (lt_of_le_of_lt (le_of_eq left) (lt_of_lt_of_le (mul-lt-mul_of_pos_right l W) (le_of_eq (sym right))))

-- of two fractions the smaller counts less
less_units : (a c b d L Q B : ℕ) → 0 < L → a * L ≡ Q * c → b * L ≡ B * d → a * d < b * c → Q < B
less_units a c b d L Q B P e g h = lt_of_not-le (λ (k : B ≤ Q). not-le_of_lt h (units_order L b d B a c Q P g e k))

-- ---- the value q * 2 ^ k is the nearest to the root of M * 4 ^ k
four_square : (M k : ℕ) → M * 4 ^ k ≡ M * (2 ^ k * 2 ^ k)
four_square M k = ap (λ (x : ℕ). M * x) (four_pow k)

over : (M k q n j : ℕ) → 4503599627370496 ≤ q → n < 2 ^ 53 → M * 4 < (2 * q + 1) * (2 * q + 1) → q * 2 ^ k < n * 2 ^ j → 4 * (M * 4 ^ k) < (q * 2 ^ k + n * 2 ^ j) * (q * 2 ^ k + n * 2 ^ j)
over M k q n j lo F br h =
    subst (λ (x : ℕ). 4 * x < (q * 2 ^ k + n * 2 ^ j) * (q * 2 ^ k + n * 2 ^ j)) (sym (four_square M k))
    (above_units q (2 ^ k) (n * 2 ^ j) M (pow_pos k) (gap_above q k n j lo F h) br)

under : (M k q n j : ℕ) → 1 ≤ k → 2 ^ 104 ≤ M → 4503599627370496 ≤ q → n < 2 ^ 53 → (2 * q - 1) * (2 * q - 1) < M * 4 + 1 → n * 2 ^ j < q * 2 ^ k
    → (q * 2 ^ k + n * 2 ^ j) * (q * 2 ^ k + n * 2 ^ j) < 4 * (M * 4 ^ k)
under M k zero n j K big lo F br h = absurd (omega arith)
under M zero (suc r) n j K big lo F br h = absurd (lt_irrefl 0 K)
under M (suc i) (suc r) n j K big lo F br h =
    let q = suc r in
    let k = suc i in
    subst (λ (x : ℕ). (q * 2 ^ k + n * 2 ^ j) * (q * 2 ^ k + n * 2 ^ j) < 4 * x) (sym (four_square M k))
    (elim (eq-or-lt_of_le lo) [
      | inl e ↦
          let dbl : q * 2 ^ k ≡ 2 * q * 2 ^ i = ap (λ (x : ℕ). q * x) (pow-succ' 2 i) ∙ sym (mul_assoc q 2 (2 ^ i)) ∙ ap (λ (x : ℕ). x * 2 ^ i) (mul_comm q 2) in
          below_half r (2 ^ k) (n * 2 ^ j) M (pow_pos k)
          (half (n * 2 ^ j) (2 ^ i) (2 ^ k) (q * 2 ^ k) (pow-succ' 2 i)
          (le_trans (gap_below (2 * q) i n j (omega arith) F (lt_of_lt_of_le h (le_of_eq dbl))) (le_of_eq (sym dbl))))
          (le_trans (le_of_eq (ap (λ (x : ℕ). x * x) (sym e))) big)
      | inr g ↦ below_units r (2 ^ k) (n * 2 ^ j) M (pow_pos k) (gap_below q k n j g F h) br
    ])
  where
    half : (b p t x : ℕ) → t ≡ 2 * p → b + p ≤ x → 2 * b + t ≤ 2 * x
    half b p t x e h = omega arith

near : (num den M k : ℕ) (n : ℕ) (d : ℤ) → 0 < den → num * (2 ^ 1074 * 2 ^ 1074) ≡ M * 4 ^ k * den → Wide M → 1 ≤ k → T (fits binary64 (fin false n d))
    → n * up d * 2 ^ 1074 ≡ nearest_root M * 2 ^ k * down d → NearestRoot binary64 num den n d
near num den M k n d E is w K fit v = record {
  held = fit;
  above = λ n' d' fit' l.
      let h = held binary64 false n' d' fit' in
      let less = less_units (n * up d) (down d) (n' * up d') (down d') (2 ^ 1074) (q * 2 ^ k) (count binary64 n' d' h) (pow_pos 1074) v h.value l in
      to_above (n * up d) (down d) (n' * up d') (down d') num den (2 ^ 1074) (M * 4 ^ k) (q * 2 ^ k) (count binary64 n' d' h) (down_pos d) (down_pos d') E v h.value is
      (over M k q h.digits h.zeros (nearest_wide M w).0 h.few (bracket M).0 less);
  below = λ n' d' fit' l.
      let h = held binary64 false n' d' fit' in
      let less = less_units (n' * up d') (down d') (n * up d) (down d) (2 ^ 1074) (count binary64 n' d' h) (q * 2 ^ k) (pow_pos 1074) h.value v l in
      to_below (n * up d) (down d) (n' * up d') (down d') num den (2 ^ 1074) (M * 4 ^ k) (q * 2 ^ k) (count binary64 n' d' h) (down_pos d) (down_pos d') E v h.value is
      (under M k q h.digits h.zeros K w.0 (nearest_wide M w).0 h.few (bracket M).1 less);
}
  where
    q : ℕ
    q = nearest_root M

-- what is nearest to the root of num / den, wherever it is known to be M * 4 ^ k in units of 2 ^ -2148
found : (num den M k : ℕ) (r : Float) → 0 < den → num * (2 ^ 1074 * 2 ^ 1074) ≡ M * 4 ^ k * den → Wide M → 1 ≤ k → k ≤ 2000 → r ≡ units binary64 false (nearest_root M) k
    → (n : ℕ) × (d : ℤ) × (r ≡ fin false n d) × NearestRoot binary64 num den n d
found num den M k r E is w K few e =
    let b = nearest_wide M w in
    let u = units binary64 false (nearest_root M) k in
    let v = units_val binary64 false (nearest_root M) k (lt_of_le_of_lt (mul-le-mul b.1 (pow_mono few)) (lit< tt)) in
    let f = subst (λ (y : Float). T (fits binary64 y)) (pattern binary64 false (nearest_root M) k b.1 (inr b.0) (omega (arith, few, b.1))) (of_bits-fits binary64 _) in
    with_value (λ y. r ≡ y → T (fits binary64 y) → (n : ℕ) × (d : ℤ) × (r ≡ fin false n d) × NearestRoot binary64 num den n d)
    u false (nearest_root M * 2 ^ k) (2 ^ 1074) v (λ n d q is' f'. (n, d, is', near num den M k n d E is w K f' q)) e f

pub root_nearest : (m : ℕ) (e : ℤ) → T (fits binary64 (fin false (suc m) e))
    → (n : ℕ) × (d : ℤ) × (sqrt_of (fin false (suc m) e) ≡ fin false n d) × NearestRoot binary64 (suc m * up e) (down e) n d
root_nearest m e fit =
    let h = held binary64 false (suc m) e fit in
    let P : 0 < h.digits = some h.digits (2 ^ h.zeros) (down e) (suc m * up e * 2 ^ 1074) (mul-pos (mul-pos (zero-lt-suc m) (up_pos e)) (pow_pos 1074)) h.value in
    let s = square h.digits h.zeros P h.few (pow_lt_back h.zeros 2098 (lt_of_le_of_lt (le_trans (le_of_eq (sym (one-mul (2 ^ h.zeros)))) (mul-le-mul_right (2 ^ h.zeros) P)) h.fine)) in
    let N = h.digits * 2 ^ h.zeros in
    found (suc m * up e) (down e) s.M s.k (sqrt_of (fin false (suc m) e)) (down_pos e) (twice (suc m * up e) (down e) (2 ^ 1074) N (s.M * 4 ^ s.k) h.value s.is) s.wide s.some s.few
    (sqrt_units (fin false (suc m) e) N s.M s.k (refl, h.value) (mul-pos P (pow_pos h.zeros)) s.is s.wide)
  where
    some : (n p d x : ℕ) → 0 < x → x ≡ n * p * d → 0 < n
    some zero p d x h e = absurd (omega arith)
    some (suc n) p d x h e = zero-lt-suc n

    twice : (a d L N Q : ℕ) → a * L ≡ N * d → N * L ≡ Q → a * (L * L) ≡ Q * d
    twice a d L N Q e g = sym (mul_assoc a L L) ∙ ap (λ (z : ℕ). z * L) e ∙ omega arith ∙ ap (λ (z : ℕ). z * d) g

pub root_only : (f : Format) (num den m : ℕ) (e : ℤ) (n : ℕ) (d : ℤ) → NearestRoot f num den m e → NearestRoot f num den n d → fin false m e ≡ fin false n d
root_only f num den m e n d x y = go (le_or_lt (m * up e * down d) (n * up d * down e))
  where
    clash : (a c b d num den : ℕ) → MidpointAbove a c b d num den → MidpointBelow b d a c num den → ⊥
    clash a c b d num den h k = lt_irrefl (4 * num * (c * d * (c * d))) (lt_of_lt_of_le h (le_trans (le_of_eq (ap (λ (z : ℕ). z * z * den) (omega arith))) (le_trans (le_of_lt k) (le_of_eq (ap (λ (z : ℕ). 4 * num * (z * z)) (mul_comm d c))))))

    go : (m * up e * down d ≤ n * up d * down e) ⊎ (n * up d * down e < m * up e * down d) → fin false m e ≡ fin false n d
    go (inl l) = elim (eq-or-lt_of_le l) [
      | inl s ↦ value_unique f (fin false m e) (fin false n d) false (m * up e) (down e) (down_pos e) x.held y.held (refl, refl) (refl, sym s)
      | inr s ↦ absurd (clash (m * up e) (down e) (n * up d) (down d) num den (x.above n d y.held s) (y.below m e x.held s))
    ]
    go (inr g) = absurd (clash (n * up d) (down d) (m * up e) (down e) num den (y.above m e x.held g) (x.below n d y.held g))

pub root_is : (m : ℕ) (e : ℤ) (n : ℕ) (d : ℤ) → T (fits binary64 (fin false (suc m) e)) → NearestRoot binary64 (suc m * up e) (down e) n d → sqrt_of (fin false (suc m) e) ≡ fin false n d
root_is m e n d fit x =
    let r = root_nearest m e fit in
    r.2 ∙ root_only binary64 (suc m * up e) (down e) r.0 r.1 n d r.3 x

-- ---- the root of the number that a pattern's fields stand for
pub normal_root_is : (x : Float) → T (fits binary64 x) → PositiveNormal x → normal_root (to_bits binary64 x) ≡ sqrt_of x
normal_root_is x h p = normal x h p.0 p.1

pub normal_root_nearest : (b : ℕ) → (n : ℕ) × (d : ℤ) × (normal_root b ≡ fin false n d) × NearestRoot binary64 (normal_size b) (2 ^ 1075) n d
normal_root_nearest b =
    let M = M_of (field_of b) (digits_of b) in
    let k = k_of (field_of b) in
    found (normal_size b) (2 ^ 1075) M k (normal_root b) (pow_pos 1075) (spread (normal_size b) (M * 4 ^ k) (size_is b)) (wide_of (field_of b) (digits_of b) (omega arith)) (omega arith) (omega arith) (fields_units b)

-- infinity's fields stand for 2 ^ 1024, and the smallest subnormal's for (1 + 2 ^ -52) * 2 ^ -1023
pub infinite_root : normal_root (to_bits binary64 (inf false)) ≡ fin false 1 (pos 512)
unfolding normal_root root_of root root_by units to_bits
infinite_root = refl

pub subnormal_root : (sqrt_of (of_bits binary64 1) ≡ fin false 1 (negsuc 536)) × (normal_root 1 ≡ fin false 6369051672525773 (negsuc 563))
unfolding normal_root sqrt_of root_of root root_by units of_bits size
subnormal_root = (refl, refl)
