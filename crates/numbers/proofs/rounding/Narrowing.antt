-- A binary64 pattern, rounded to binary32. Assumes nothing.
use Rattle.std.proofs.Common.{◌≡◌, ℕ, zero, suc, ◌+◌, ◌-◌, ◌*◌, ◌/◌, ◌%◌, ◌^◌, ◌<◌, ◌≤◌, Bool, true, false, cond, not, T, eqb, ltb, leb, ◌⊎◌, sym, refl, ap, ◌∙◌, subst, inl, inr, le_trans, le_of_eq, lt_of_lt_of_le, lt_of_le_of_lt, mul-le-mul_right, mul_assoc, div-lt_iff_lt-mul, eq-or-lt_of_le, mul-le-mul_left, mul-lt-mul_of_pos_right, mul-pos, arith, lit<, lit≤, eqb→eq, leb→le, pow_pos, pow_mono, pow-add, shl_lt}
use Prim.Native.Nat.{compare, Ordering}
use lib.Dec.{eqb-suc-zero, not_T, nleb→lt}
use lib.Ieee.{Float, nan, inf, binary32, binary64, up, down, nearest, odd, units, round, add, is_nan, of_fields, of_bits, to_bits, nan_bits}
use lib.Ieee.Fits.{down_pos, nearest-le}
use lib.Ieee.Exact.{HasValue, odd_sign}
use lib.Ieee.Nearest.{closest, closest_same, nearest-ge}
use Rattle.numbers.proofs.floats.Compared.{Cmp, cmp}
use lib.Ieee.Scale.{round_same}
use lib.Arith.{lt→nleb, le→nltb}
use lib.Ieee.Bits.{cond_no, is_false, nan_bits_is}
use Rattle.numbers.specs.Rounding.{narrow_of}
use Rattle.numbers.proofs.floats.Values.{with_value, value_no_nan}
use Rattle.numbers.proofs.floats.Patterns.{drop_is, drop_none, round_at, closest_shift, pattern, pattern_no_nan}
use Rattle.numbers.proofs.Laws.LastDigit.{add_counts}

-- ---- by the fraction that a value equals
narrow_value : (x : Float) (s : Bool) (a c : ℕ) → 0 < c → HasValue x s a c → narrow_of x ≡ round binary32 s a c
unfolding narrow_of
narrow_value x s a c C h = with_value (λ x. narrow_of x ≡ round binary32 s a c) x s a c h (λ m e p. round_same binary32 s (m * up e) (down e) a c (down_pos e) C p)

-- ---- the number that the fields stand for, in units of 2 ^ -1074
abbrev pub val : ℕ → ℕ → ℕ
val zero t = t * 2 ^ 0
val (suc x) t = (4503599627370496 + t) * 2 ^ x

pub fields_value : (s : Bool) (E t : ℕ) → E < 2047 → HasValue (of_fields binary64 s E t) s (val E t) (2 ^ 1074)
unfolding of_fields
fields_value s zero t h = odd_sign 53 s t 0 1074
fields_value s (suc x) t h =
    subst (λ (v : Float). HasValue v s (val (suc x) t) (2 ^ 1074))
    (sym (cond_no (eqb (suc x) 2047) (cond (eqb t 0) (inf s) nan) (odd 53 s (4503599627370496 + t) x 1074) (not_T (eqb (suc x) 2047) (λ (u : T (eqb (suc x) 2047)). (omega (arith, eqb→eq (suc x) 2047 u))))))
    (odd_sign 53 s (4503599627370496 + t) x 1074)

-- ---- below 2 ^ -126
val_low : (E t : ℕ) → E < 897 → t < 4503599627370496 → val E t < 2 ^ 948
val_low zero t h l = lt_of_lt_of_le (shl_lt 52 0 l) (lit≤ tt)
val_low (suc x) t h l = lt_of_lt_of_le (shl_lt 53 x (omega arith)) (pow_mono {j = 948} (omega arith))

-- N / 2 ^ 925 to the nearest whole number
abbrev pub tiny : ℕ → ℕ
tiny N = closest N (2 ^ 925)

tiny_le : (N : ℕ) → N < 2 ^ 948 → tiny N ≤ 8388608
tiny_le N h = le_trans (nearest-le (N / 2 ^ 925) (compare (N % 2 ^ 925 * 2) (2 ^ 925))) ((div-lt_iff_lt-mul (pow_pos 925)).1 (lt_of_lt_of_le h (lit≤ tt)))

round_tiny : (s : Bool) (N : ℕ) → N < 2 ^ 948 → round binary32 s N (2 ^ 1074) ≡ units binary32 s (tiny N) 0
round_tiny s N h =
    round_at binary32 s N (2 ^ 1074) 0 (drop_none 24 (N * 2 ^ 149) (2 ^ 1074) (pow_pos 1074) (lt_of_lt_of_le (shl_lt 948 149 h) (lit≤ tt)))
    ∙ ap (λ (q : ℕ). units binary32 s q 0) (closest_same (N * 2 ^ 149) (2 ^ 1074 * 2 ^ 0) N (2 ^ 925) (pow_pos 1074) (pow_pos 925) (mul_assoc N (2 ^ 149) (2 ^ 925)))

-- ---- a pattern's fields
-- the pattern without its sign
abbrev pub size_of : ℕ → ℕ
size_of n = n % 9223372036854775808

abbrev pub exp : ℕ → ℕ
exp n = n % 9223372036854775808 / 4503599627370496

abbrev pub digits : ℕ → ℕ
digits n = n % 4503599627370496

unsigned : (n : ℕ) → of_bits binary64 (size_of n) ≡ of_fields binary64 false (exp n) (digits n)
unfolding of_bits
unsigned n =
    let s = is_false (leb 9223372036854775808 (size_of n)) (lt→nleb 9223372036854775808 (size_of n) (omega arith)) in
    let e : exp (size_of n) ≡ exp n = omega arith in
    let d : digits (size_of n) ≡ digits n = omega arith in
    λ i. of_fields binary64 (s i) (e i) (d i)

pub signed : (n : ℕ) → of_bits binary64 n ≡ of_fields binary64 (leb 9223372036854775808 n) (exp n) (digits n)
unfolding of_bits
signed n = refl

-- the number that a pattern stands for
abbrev pub value : ℕ → ℕ
value n = val (exp n) (digits n)

-- the sign's bit, moved down
sign_bit : (n : ℕ) → n < 18446744073709551616 → cond (leb 9223372036854775808 n) 2147483648 0 ≡ n / 9223372036854775808 * 2147483648
sign_bit n h = go (leb 9223372036854775808 n) (leb→le 9223372036854775808 n) (nleb→lt 9223372036854775808 n)
  where
    go : (b : Bool) → (T b → 9223372036854775808 ≤ n) → (T (not b) → n < 9223372036854775808) → cond b 2147483648 0 ≡ n / 9223372036854775808 * 2147483648
    go true p q = omega (arith, p tt)
    go false p q = omega (arith, q tt)

-- ---- below 2 ^ -126, by the pattern
abbrev pub y_of : ℕ → Float
y_of n = add binary64 (of_bits binary64 (size_of n)) (of_bits binary64 4170333254945079296)

value_small : (n : ℕ) → size_of n < 4039728865751334912 → value n < 2 ^ 948
value_small n h = val_low (exp n) (digits n) (omega arith) (omega arith)

magic_value : HasValue (of_bits binary64 4170333254945079296) false (2 ^ 977) (2 ^ 1074)
unfolding of_bits
magic_value = (refl, refl)

pub size_value : (n : ℕ) → exp n < 2047 → HasValue (of_bits binary64 (size_of n)) false (value n) (2 ^ 1074)
size_value n h = subst (λ (v : Float). HasValue v false (value n) (2 ^ 1074)) (sym (unsigned n)) (fields_value false (exp n) (digits n) h)

-- the sum is no NaN, and the program has its last digits for those of the result
pub record Tiny (n : ℕ) : Type 0 where
  pub some : T (not (is_nan (y_of n)))
  pub lo : 4170333254945079296 ≤ to_bits binary64 (y_of n)
  pub rest : to_bits binary64 (y_of n) - 4170333254945079296 ≡ tiny (value n)
  pub small : tiny (value n) ≤ 8388608

pub small_digits : (n : ℕ) → size_of n < 4039728865751334912 → Tiny n
small_digits n h =
    let l : tiny (value n) ≤ 8388608 = tiny_le (value n) (value_small n h) in
    let w : value n < 2 ^ 977 = lt_of_lt_of_le (value_small n h) (lit≤ tt) in
    let s =
    add_counts (of_bits binary64 (size_of n)) (of_bits binary64 4170333254945079296) (value n) (2 ^ 1074) 925 (pow_pos 1074) (lit≤ tt) (size_value n (omega arith)) magic_value
    (mul-lt-mul_of_pos_right w (pow_pos 1074)) in
    let same = closest_same (value n * 2 ^ 1074) (2 ^ 1074 * 2 ^ 925) (value n) (2 ^ 925) (mul-pos (pow_pos 1074) (pow_pos 925)) (pow_pos 925) (mul_assoc (value n) (2 ^ 1074) (2 ^ 925)) in
    let b = s.bits ∙ ap (λ (q : ℕ). 925 * 4503599627370496 + (q + 4503599627370496)) same in
    record { some = s.some; lo = omega (arith, b); rest = omega (arith, b); small = l }

pub size_no_nan : (n : ℕ) → exp n < 2047 → T (not (nan_bits binary64 (size_of n)))
size_no_nan n h = subst (λ (x : Bool). T (not x)) (sym (nan_bits_is binary64 (size_of n))) (value_no_nan (of_bits binary64 (size_of n)) false (value n) (2 ^ 1074) (size_value n h))

-- ---- the pattern that the program makes, with its sign
pasted : (n q r : ℕ) → n < 18446744073709551616 → q ≡ r → cond (leb 9223372036854775808 n) 2147483648 0 + q ≡ n / 9223372036854775808 * 2147483648 + r
pasted n q r h e = λ i. sign_bit n h i + e i

-- from what `units` it is
made : (n q k r : ℕ) → n < 18446744073709551616 → q ≤ 16777216 → (k ≡ 0) ⊎ (8388608 ≤ q) → k * 8388608 + q ≤ 255 * 8388608 → k * 8388608 + q ≡ r
    → (of_bits binary32 (n / 9223372036854775808 * 2147483648 + r) ≡ units binary32 (leb 9223372036854775808 n) q k) × T (not (nan_bits binary32 (n / 9223372036854775808 * 2147483648 + r)))
made n q k r h hi lo fit e = (
  ap (of_bits binary32) (sym (pasted n (k * 8388608 + q) r h e)) ∙ pattern binary32 (leb 9223372036854775808 n) q k hi lo fit,
  subst (λ (b : ℕ). T (not (nan_bits binary32 b))) (pasted n (k * 8388608 + q) r h e) (pattern_no_nan binary32 (leb 9223372036854775808 n) q k hi lo fit),
)

-- the value that the pattern n is narrowed to
narrow_pattern : (n : ℕ) → exp n < 2047 → narrow_of (of_bits binary64 n) ≡ round binary32 (leb 9223372036854775808 n) (value n) (2 ^ 1074)
narrow_pattern n h =
    let s = leb 9223372036854775808 n in
    ap narrow_of (signed n) ∙ narrow_value (of_fields binary64 s (exp n) (digits n)) s (value n) (2 ^ 1074) (pow_pos 1074) (fields_value s (exp n) (digits n) h)

abbrev pub Right : ℕ → ℕ → Type 0
Right n r = (of_bits binary32 (n / 9223372036854775808 * 2147483648 + r) ≡ narrow_of (of_bits binary64 n)) × T (not (nan_bits binary32 (n / 9223372036854775808 * 2147483648 + r)))

pub narrow_small : (n : ℕ) → n < 18446744073709551616 → size_of n < 4039728865751334912 → Right n (to_bits binary64 (y_of n) - 4170333254945079296)
narrow_small n h l =
    let N = value n in
    let d = small_digits n l in
    let m = made n (tiny N) 0 (to_bits binary64 (y_of n) - 4170333254945079296) h (omega arith) (inl refl) (omega arith) (omega arith) in
    (m.0 ∙ sym (narrow_pattern n (omega arith) ∙ round_tiny (leb 9223372036854775808 n) N (value_small n l)), m.1)

-- ---- from 2 ^ -126 up: with x for the exponent's field less one, and k for x - 896
-- sig * 2 ^ x units of binary64
mid_round : (s : Bool) (sig k : ℕ) → 4503599627370496 ≤ sig → sig < 9007199254740992
    → round binary32 s (sig * 2 ^ (896 + k)) (2 ^ 1074) ≡ units binary32 s (closest sig 536870912) k
mid_round s sig k lo hi =
    let x = 896 + k in
    let n = sig * 2 ^ x * 2 ^ 149 in
    let shape : n ≡ sig * 2 ^ (x + 149) = mul_assoc sig (2 ^ x) (2 ^ 149) ∙ ap (λ (z : ℕ). sig * z) (sym (pow-add 2 x 149)) in
    let a : 2 ^ (24 - 1 + k) * 2 ^ 1074 ≤ n =
    le_trans (le_of_eq (sym (pow-add 2 (23 + k) 1074) ∙ ap (λ (z : ℕ). 2 ^ z) (omega arith) ∙ pow-add 2 52 (x + 149))) (le_trans (mul-le-mul_right (2 ^ (x + 149)) lo) (le_of_eq (sym shape))) in
    let b : n < 2 ^ (24 + k) * 2 ^ 1074 =
    lt_of_le_of_lt (le_of_eq shape) (lt_of_lt_of_le (mul-lt-mul_of_pos_right hi (pow_pos (x + 149))) (le_of_eq (sym (pow-add 2 53 (x + 149)) ∙ ap (λ (z : ℕ). 2 ^ z) (omega arith) ∙ pow-add 2 (24 + k) 1074))) in
    let c : n * 536870912 ≡ sig * (2 ^ 1074 * 2 ^ k) =
    ap (λ (z : ℕ). z * 536870912) shape ∙ mul_assoc sig (2 ^ (x + 149)) 536870912 ∙ ap (λ (z : ℕ). sig * z) (sym (pow-add 2 (x + 149) 29) ∙ ap (λ (z : ℕ). 2 ^ z) (omega arith) ∙ pow-add 2 1074 k) in
    round_at binary32 s (sig * 2 ^ x) (2 ^ 1074) k (drop_is 24 n (2 ^ 1074) k (lit< tt) (pow_pos 1074) a b)
    ∙ ap (λ (q : ℕ). units binary32 s q k) (closest_same n (2 ^ 1074 * 2 ^ k) sig 536870912 (mul-pos (pow_pos 1074) (pow_pos k)) (lit< tt) c)

-- ---- to the nearest multiple of 2 ^ 29, as the program does it
rounded : (b : ℕ) → closest b 536870912 ≡ (b + 268435455 + b / 536870912 % 2) / 536870912
rounded b = go (compare (b % 536870912 * 2) 536870912) (cmp (b % 536870912 * 2) 536870912)
  where
    go : (o : Ordering) → Cmp o (b % 536870912 * 2) 536870912 → nearest (b / 536870912) o ≡ (b + 268435455 + b / 536870912 % 2) / 536870912
    go Ordering.lt h = omega arith
    go Ordering.eq h = omega arith
    go Ordering.gt h = omega arith

mid_lo : (sig : ℕ) → 4503599627370496 ≤ sig → 8388608 ≤ closest sig 536870912
mid_lo sig h = le_trans (omega arith) (nearest-ge (sig / 536870912) (compare (sig % 536870912 * 2) 536870912))

mid_hi : (sig : ℕ) → sig < 9007199254740992 → closest sig 536870912 ≤ 16777216
mid_hi sig h = le_trans (nearest-le (sig / 536870912) (compare (sig % 536870912 * 2) 536870912)) (omega arith)

mid_units : (n k : ℕ) → exp n ≡ suc (896 + k) → exp n < 2047 → narrow_of (of_bits binary64 n) ≡ units binary32 (leb 9223372036854775808 n) (closest (4503599627370496 + digits n) 536870912) k
mid_units n k e h =
    narrow_pattern n h
    ∙ ap (λ (E : ℕ). round binary32 (leb 9223372036854775808 n) (val E (digits n)) (2 ^ 1074)) e
    ∙ mid_round (leb 9223372036854775808 n) (4503599627370496 + digits n) k (omega arith) (omega arith)

mid_is : (n k : ℕ) → exp n ≡ suc (896 + k) → k * 8388608 + closest (4503599627370496 + digits n) 536870912 ≡ (size_of n + 268435455 + size_of n / 536870912 % 2) / 536870912 - 7516192768
mid_is n k e =
    let sig = 4503599627370496 + digits n in
    let s : size_of n ≡ sig + (896 + k) * 8388608 * 536870912 = omega arith in
    let a : closest (size_of n) 536870912 ≡ closest sig 536870912 + (896 + k) * 8388608 = ap (λ (b : ℕ). closest b 536870912) s ∙ closest_shift sig 536870912 ((896 + k) * 8388608) (lit< tt) (omega arith) in
    omega (arith, rounded (size_of n))

pub narrow_mid : (n : ℕ) → n < 18446744073709551616 → 4039728865751334912 ≤ size_of n → size_of n < 5183643171103440896
    → Right n ((size_of n + 268435455 + size_of n / 536870912 % 2) / 536870912 - 7516192768)
narrow_mid n h lo hi =
    let k = exp n - 897 in
    let e : exp n ≡ suc (896 + k) = omega arith in
    let sig = 4503599627370496 + digits n in
    let q = closest sig 536870912 in
    let q-hi : q ≤ 16777216 = mid_hi sig (omega arith) in
    let m = made n q k ((size_of n + 268435455 + size_of n / 536870912 % 2) / 536870912 - 7516192768) h q-hi (inr (mid_lo sig (omega arith))) (omega arith) (mid_is n k e) in
    (m.0 ∙ sym (mid_units n k e (omega arith)), m.1)

-- ---- from 2 ^ 128 up
over : (s : Bool) (q k : ℕ) → 8388608 ≤ q → 254 ≤ k → units binary32 s q k ≡ inf s
unfolding units
over s q k a b = cond_no (ltb (q * 2 ^ k) (2 ^ 277)) (odd 25 s q k 149) (inf s) (le→nltb (q * 2 ^ k) (2 ^ 277) (le_trans (le_trans (lit≤ tt) (mul-le-mul_left 8388608 (pow_mono b))) (mul-le-mul_right (2 ^ k) a)))

-- an infinity: the field is all ones, and no NaN has no digits
pub top_field : (s : Bool) (t : ℕ) → T (not (is_nan (of_fields binary64 s 2047 t))) → of_fields binary64 s 2047 t ≡ inf s
unfolding of_fields is_nan
top_field s zero n = refl
top_field s (suc t) n = absurd (subst (λ (b : Bool). T (not (is_nan (cond b (inf s) nan)))) (eqb-suc-zero t) n)

high_is : (n : ℕ) → 5183643171103440896 ≤ size_of n → T (not (is_nan (of_bits binary64 n))) → narrow_of (of_bits binary64 n) ≡ inf (leb 9223372036854775808 n)
unfolding narrow_of
high_is n h t = let E : exp n ≤ 2047 = omega arith in elim (eq-or-lt_of_le E) [
  | inl e ↦
      let f : of_bits binary64 n ≡ of_fields binary64 (leb 9223372036854775808 n) 2047 (digits n) = signed n ∙ ap (λ (E : ℕ). of_fields binary64 (leb 9223372036854775808 n) E (digits n)) e in
      ap narrow_of (f ∙ top_field (leb 9223372036854775808 n) (digits n) (subst (λ (v : Float). T (not (is_nan v))) f t))
  | inr l ↦
      let k = exp n - 897 in
      mid_units n k (omega arith) l ∙ over (leb 9223372036854775808 n) (closest (4503599627370496 + digits n) 536870912) k (mid_lo (4503599627370496 + digits n) (omega arith)) (omega arith)
]

inf_units : (s : Bool) → units binary32 s 8388608 254 ≡ inf s
inf_units s = over s 8388608 254 (lit≤ tt) (lit≤ tt)

pub narrow_high : (n : ℕ) → n < 18446744073709551616 → 5183643171103440896 ≤ size_of n → T (not (is_nan (of_bits binary64 n))) → Right n 2139095040
narrow_high n h g t =
    let m = made n 8388608 254 2139095040 h (lit≤ tt) (inr (lit≤ tt)) (lit≤ tt) refl in
    (m.0 ∙ inf_units (leb 9223372036854775808 n) ∙ sym (high_is n g t), m.1)
