-- A sum in binary64 with 2 ^ 52 of some unit, a power of two: of the other operand it keeps the nearest whole number of units, at a tie the even one, and its pattern counts them.
-- Assumes nothing.
--     Counted      the sum is no NaN, and its pattern is that of 2 ^ 52 and q units
--     add_counts   so it is with the q that is nearest
--     add_ones     with 2 ^ 52 itself the unit is 1
use Rattle.std.proofs.Common.{◌≡◌, ℕ, ◌+◌, ◌*◌, ◌/◌, ◌%◌, ◌^◌, ◌<◌, ◌≤◌, Bool, false, not, T, sym, refl, ap, ◌∙◌, subst, inr, le_trans, le_of_eq, lt_of_lt_of_le, mul-le-mul_right, mul_assoc, div-lt_iff_lt-mul, mul-lt-mul_of_pos_right, mul-pos, arith, lit<, pow_pos, pow-add}
use Prim.Native.Nat.{compare}
use lib.Ieee.{Float, binary64, units, round, add, is_nan, of_bits, to_bits}
use lib.Ieee.Fits.{nearest-le}
use lib.Ieee.Exact.{HasValue}
use lib.Ieee.Nearest.{closest, closest_same}
use lib.Ieee.Bits.{to_bits-of_bits, nan_bits_is}
use Rattle.numbers.proofs.floats.Values.{rescale, add_value}
use Rattle.numbers.proofs.floats.Patterns.{drop_is, round_at, closest_shift, pattern, pattern_no_nan}

-- ---- fractions
swapped : (a c t : ℕ) → a * t * c ≡ a * (c * t)
swapped a c t = omega arith

-- A / c + P, where A / c is below P, has the digits of P and no more before its point
at_least : (A P c t : ℕ) → P * (c * t) ≤ (A + P * c) * t
at_least A P c t = le_trans (le_of_eq (sym (mul_assoc P c t))) (mul-le-mul_right t (omega arith))

below_twice : (A P c t : ℕ) → A < P * c → 0 < t → (A + P * c) * t < 2 * P * (c * t)
below_twice A P c t h T = lt_of_lt_of_le (mul-lt-mul_of_pos_right (twice (P * c) h) T) (le_of_eq (omega arith))
  where
    twice : (B : ℕ) → A < B → A + B < 2 * B
    twice B l = omega arith

-- 2 ^ 52 units over c
in_units : (c k : ℕ) → 2 ^ (52 + k) * c ≡ 4503599627370496 * (c * 2 ^ k)
in_units c k = ap (λ (w : ℕ). w * c) (pow-add 2 52 k) ∙ turned c (2 ^ k)
  where
    turned : (c K : ℕ) → 4503599627370496 * K * c ≡ 4503599627370496 * (c * K)
    turned c K = omega arith

-- ---- the sum, rounded
sum_at : (a c k : ℕ) → 0 < c → a * 2 ^ 1074 < 2 ^ (52 + k) * c
    → round binary64 false (a * 2 ^ 1074 + 2 ^ (52 + k) * c) (c * 2 ^ 1074) ≡ units binary64 false (closest (a * 2 ^ 1074) (c * 2 ^ k) + 4503599627370496) k
sum_at a c k C h =
    round_at binary64 false (A + P * c) (c * t) k
    (drop_is 53 ((A + P * c) * t) (c * t) k (lit< tt) (mul-pos C (pow_pos 1074)) (at_least A P c t)
    (subst (λ (w : ℕ). (A + P * c) * t < w * (c * t)) (sym (next k)) (below_twice A P c t h (pow_pos 1074))))
    ∙ ap (λ (q : ℕ). units binary64 false q k)
    (closest_same ((A + P * c) * t) (c * t * K) (A + P * c) (c * K) (mul-pos (mul-pos C (pow_pos 1074)) (pow_pos k)) (mul-pos C (pow_pos k)) (across (A + P * c) c t K)
    ∙ ap (λ (w : ℕ). closest (A + w) (c * K)) (in_units c k)
    ∙ closest_shift A (c * K) 4503599627370496 (mul-pos C (pow_pos k)) refl)
  where
    t : ℕ
    t = 2 ^ 1074

    A : ℕ
    A = a * 2 ^ 1074

    P : ℕ
    P = 2 ^ (52 + k)

    K : ℕ
    K = 2 ^ k

    next : (k : ℕ) → 2 ^ (53 + k) ≡ 2 * 2 ^ (52 + k)
    next k = ap (λ (x : ℕ). 2 ^ x) (one_more k) ∙ pow-add 2 1 (52 + k)
      where
        one_more : (k : ℕ) → 53 + k ≡ 1 + (52 + k)
        one_more k = omega arith

    across : (n c t K : ℕ) → n * t * (c * K) ≡ n * (c * t * K)
    across n c t K = omega arith

-- ---- its pattern
pub record Counted (x y : Float) (k q : ℕ) : Type 0 where
  pub some : T (not (is_nan (add binary64 x y)))
  pub bits : to_bits binary64 (add binary64 x y) ≡ k * 4503599627370496 + (q + 4503599627370496)

counted : (x y : Float) (k q : ℕ) → k ≤ 2044 → q ≤ 4503599627370496 → add binary64 x y ≡ units binary64 false (q + 4503599627370496) k → Counted x y k q
counted x y k q l h e =
    let b = k * 4503599627370496 + (q + 4503599627370496) in
    let is : add binary64 x y ≡ of_bits binary64 (0 + b) = e ∙ sym (pattern binary64 false (q + 4503599627370496) k (omega arith) (inr (omega arith)) (omega arith)) in
    let no_nan : T (not (is_nan (of_bits binary64 (0 + b)))) =
    subst (λ (x : Bool). T (not x)) (nan_bits_is binary64 (0 + b)) (pattern_no_nan binary64 false (q + 4503599627370496) k (omega arith) (inr (omega arith)) (omega arith)) in
    let bits = ap (to_bits binary64) is ∙ to_bits-of_bits binary64 (0 + b) (omega arith) no_nan in
    record { some = subst (λ (v : Float). T (not (is_nan v))) (sym is) no_nan; bits = omega (arith, bits) }

-- fewer units than 2 ^ 52, and as many where they are rounded up
few : (a c k : ℕ) → 0 < c → a * 2 ^ 1074 < 2 ^ (52 + k) * c → closest (a * 2 ^ 1074) (c * 2 ^ k) ≤ 4503599627370496
few a c k C h =
    le_trans (nearest-le (a * 2 ^ 1074 / (c * 2 ^ k)) (compare (a * 2 ^ 1074 % (c * 2 ^ k) * 2) (c * 2 ^ k)))
    ((div-lt_iff_lt-mul (mul-pos C (pow_pos k))).1 (lt_of_lt_of_le h (le_of_eq (in_units c k))))

pub add_counts : (x y : Float) (a c k : ℕ) → 0 < c → k ≤ 2044 → HasValue x false a c → HasValue y false (2 ^ (52 + k)) (2 ^ 1074) → a * 2 ^ 1074 < 2 ^ (52 + k) * c
    → Counted x y k (closest (a * 2 ^ 1074) (c * 2 ^ k))
add_counts x y a c k C l v w h =
    counted x y k (closest (a * 2 ^ 1074) (c * 2 ^ k)) l (few a c k C h)
    (add_value binary64 x y (a * 2 ^ 1074) (2 ^ (52 + k) * c) (c * 2 ^ 1074) (mul-pos C (pow_pos 1074)) (rescale x false a c (a * 2 ^ 1074) (c * 2 ^ 1074) C (swapped a c (2 ^ 1074)) v)
    (rescale y false (2 ^ (52 + k)) (2 ^ 1074) (2 ^ (52 + k) * c) (c * 2 ^ 1074) (pow_pos 1074) (mul_assoc (2 ^ (52 + k)) c (2 ^ 1074)) w)
    ∙ sum_at a c k C h)

-- ---- ones
-- 2 ^ 52
abbrev pub ones_unit : Float
ones_unit = of_bits binary64 0x4330_0000_0000_0000

pub add_ones : (x : Float) (a c : ℕ) → 0 < c → HasValue x false a c → a < 4503599627370496 * c → Counted x ones_unit 1074 (closest a c)
add_ones x a c C v h =
    subst (Counted x ones_unit 1074) (closest_same (a * 2 ^ 1074) (c * 2 ^ 1074) a c (mul-pos C (pow_pos 1074)) C (swapped a c (2 ^ 1074)))
    (add_counts x ones_unit a c 1074 C (omega arith) v unit_value (wide a c (2 ^ 1074) (pow_pos 1074) h))
  where
    unit_value : HasValue ones_unit false (2 ^ (52 + 1074)) (2 ^ 1074)
    unit_value = unfold of_bits in (refl, refl)

    wide : (a c t : ℕ) → 0 < t → a < 4503599627370496 * c → a * t < 4503599627370496 * t * c
    wide a c t P h = lt_of_lt_of_le (mul-lt-mul_of_pos_right h P) (le_of_eq (omega arith))
