-- The square root of a binary64 value, by its pattern. Assumes nothing.
use Rattle.std.proofs.Common.{◌≡◌, ℕ, zero, suc, ◌+◌, ◌-◌, ◌*◌, ◌/◌, ◌%◌, ◌^◌, ◌<◌, ◌≤◌, Bool, true, false, not, ◌&&◌, ◌||◌, T, eqb, ltb, leb, ◌⊎◌, ℤ, sym, refl, ap, ◌∙◌, subst, inl, inr, true≢false, le_trans, lt_of_lt_of_le, lt_of_le_of_lt, lt_irrefl, zero-lt-suc, mul_assoc, mul_comm, mul-le-mul, mul-pos, zero-mul, mul-one, mul_right_comm, arith, lit<, lit≤, eqb→eq, lt→ltb, pow_pos, pow_mono, pow-add, shl_lt}
use Prim.Native.Nat.{compare}
use native.Mathlib.Nat.{eq_of_mul-eq-mul_right}
use mathlib.Core.Bool.{beq, false≢true}
use lib.Ieee.{Float, nan, inf, fin, binary64, up, down, size, units, mul, lt, eq, is_nan, fits, of_fields, of_bits, to_bits, nan_bits}
use lib.Ieee.Fits.{and_l, up_pos, down_pos, nearest-le, kept-lt, mul-fits}
use lib.Ieee.Digits.{size-le}
use lib.Ieee.Exact.{HasValue, units_val, round_exact}
use lib.Ieee.Nearest.{nearest-ge}
use lib.Ieee.Bits.{of_bits-to_bits, of_bits-fits}
use Rattle.numbers.specs.SquareRoot.{root, sqrt_of, normal_size, normal_root}
use Rattle.numbers.specs.Inner.{nearest_root}
use Rattle.numbers.proofs.floats.Differences.{zero_of_law}
use Rattle.numbers.proofs.floats.Values.{with_value, value_no_nan, same_value, mul_value}
use Rattle.numbers.proofs.floats.Patterns.{pattern, pattern_no_nan, to_bits_val, size_gt}
use Rattle.numbers.proofs.rounding.Narrowing.{val, value, exp, digits, size_of, size_value, signed, top_field}
use Rattle.numbers.proofs.square_root.Roots.{root_around, root_of_at, square_le, square_lt, four_pow, doubled}
use Rattle.numbers.proofs.floats.Signs.{size_lt_top}
use Rattle.numbers.proofs.Laws.Order.{nought}
use Rattle.numbers.proofs.Laws.Exact.{round_value}

-- ---- the root of a value with N * 2 ^ 1074 = M * 4 ^ k, for an M of 105 or 106 digits
abbrev pub Wide : ℕ → Type 0
Wide M = (2 ^ 104 ≤ M) × (M < 2 ^ 106)

root_wide : (M : ℕ) → Wide M → (4503599627370496 ≤ root M) × (root M < 9007199254740992)
root_wide M w =
    let a = root_around M in
    (square_le 4503599627370496 (root M) (lt_of_le_of_lt w.0 a.1), square_lt (root M) 9007199254740992 (lt_of_le_of_lt a.0 w.1))

pub sqrt_units : (x : Float) (N M k : ℕ) → HasValue x false N (2 ^ 1074) → 0 < N → N * 2 ^ 1074 ≡ M * 4 ^ k → Wide M → sqrt_of x ≡ units binary64 false (nearest_root M) k
unfolding sqrt_of nearest_root
sqrt_units nan N M k h P e w = absurd h
sqrt_units (inf t) N M k h P e w = absurd h
sqrt_units (fin true m d) N M k h P e w = absurd (true≢false h.0)
sqrt_units (fin false zero d) N M k h P e w = absurd (lt_irrefl 0 (subst (λ (n : ℕ). 0 < n) (zero_of_law N (down d) (down_pos d) (sym h.1 ∙ ap (λ (x : ℕ). x * 2 ^ 1074) (zero-mul (up d)) ∙ zero-mul (2 ^ 1074))) P))
sqrt_units (fin false (suc m) d) N M k h P e w =
    root_of_at binary64 (suc m * up d) (down d) M k (root M) (down_pos d)
    (sym (mul_assoc (suc m * up d) (2 ^ 1074) (2 ^ 1074))
    ∙ ap (λ (x : ℕ). x * 2 ^ 1074) h.1
    ∙ mul_right_comm N (down d) (2 ^ 1074)
    ∙ ap (λ (x : ℕ). x * down d) e
    ∙ mul_assoc M (4 ^ k) (down d)
    ∙ ap (λ (x : ℕ). M * x) (mul_comm (4 ^ k) (down d)))
    (root_around M) (root_wide M w).0 (root_wide M w).1

pub nearest_wide : (M : ℕ) → Wide M → (4503599627370496 ≤ nearest_root M) × (nearest_root M ≤ 9007199254740992)
unfolding nearest_root
nearest_wide M w = (le_trans (root_wide M w).0 (nearest-ge (root M) (compare (M * 4) ((2 * root M + 1) * (2 * root M + 1)))), le_trans (nearest-le (root M) (compare (M * 4) ((2 * root M + 1) * (2 * root M + 1)))) (root_wide M w).1)

-- the pattern of such a root
patterned : (M k b : ℕ) → Wide M → k ≤ 2045 → k * 4503599627370496 + nearest_root M ≡ b → (of_bits binary64 b ≡ units binary64 false (nearest_root M) k) × T (not (nan_bits binary64 b))
patterned M k b w l is =
    let n = nearest_wide M w in
    let fit : k * 4503599627370496 + nearest_root M ≤ 2047 * 4503599627370496 = omega arith in
    let z : 0 + (k * 4503599627370496 + nearest_root M) ≡ b = omega arith in (
      ap (of_bits binary64) (sym z) ∙ pattern binary64 false (nearest_root M) k n.1 (inr n.0) fit,
      subst (λ (y : ℕ). T (not (nan_bits binary64 y))) z (pattern_no_nan binary64 false (nearest_root M) k n.1 (inr n.0) fit),
    )

-- ---- the number with the field e and the digits t: (2 ^ 52 + t) * 2 ^ e / 2 ^ 1075, whatever the field
pub four_two : (k : ℕ) → 4 ^ k ≡ 2 ^ (k + k)
four_two k = four_pow k ∙ sym (pow-add 2 k k)

-- half of the root's exponent's field
abbrev pub k_of : ℕ → ℕ
k_of e = (e + 1021) / 2

halves : (e w k : ℕ) → ((w ≡ 1) × (e + 1073 ≡ 52 + (k + k))) ⊎ ((w ≡ 2) × (e + 1073 ≡ 53 + (k + k))) → 2 ^ e * 2 ^ 1073 ≡ w * 4503599627370496 * 4 ^ k
halves e w k (inl h) = sym (pow-add 2 e 1073) ∙ ap (λ (z : ℕ). 2 ^ z) h.1 ∙ pow-add 2 52 (k + k) ∙ ap (λ (z : ℕ). 4503599627370496 * z) (sym (four_two k)) ∙ ap (λ (z : ℕ). z * 4503599627370496 * 4 ^ k) (sym h.0)
halves e w k (inr h) = sym (pow-add 2 e 1073) ∙ ap (λ (z : ℕ). 2 ^ z) h.1 ∙ pow-add 2 53 (k + k) ∙ ap (λ (z : ℕ). 9007199254740992 * z) (sym (four_two k)) ∙ ap (λ (z : ℕ). z * 4503599627370496 * 4 ^ k) (sym h.0)

parity : (e : ℕ) → ((2 - e % 2 ≡ 1) × (e + 1073 ≡ 52 + (k_of e + k_of e))) ⊎ ((2 - e % 2 ≡ 2) × (e + 1073 ≡ 53 + (k_of e + k_of e)))
parity e = go (e % 2) refl (omega arith)
  where
    go : (r : ℕ) → e % 2 ≡ r → e % 2 < 2 → ((2 - e % 2 ≡ 1) × (e + 1073 ≡ 52 + (k_of e + k_of e))) ⊎ ((2 - e % 2 ≡ 2) × (e + 1073 ≡ 53 + (k_of e + k_of e)))
    go zero z l = inr (omega arith, omega arith)
    go (suc zero) z l = inl (omega arith, omega arith)
    go (suc (suc r)) z l = absurd (omega arith)

-- the number whose root is taken
abbrev pub M_of : ℕ → ℕ → ℕ
M_of e t = (4503599627370496 + t) * (2 - e % 2) * 4503599627370496

scaled : (e t : ℕ) → (4503599627370496 + t) * 2 ^ e * 2 ^ 1073 ≡ M_of e t * 4 ^ k_of e
scaled e t =
    mul_assoc (4503599627370496 + t) (2 ^ e) (2 ^ 1073)
    ∙ ap (λ (z : ℕ). (4503599627370496 + t) * z) (halves e (2 - e % 2) (k_of e) (parity e))
    ∙ omega arith

pub wide_of : (e t : ℕ) → t < 4503599627370496 → Wide (M_of e t)
wide_of e t h =
    let d = doubled (4503599627370496 + t) (2 - e % 2) (omega arith) (omega arith) (omega arith) (omega arith) in
    (omega (arith, d.0), omega (arith, d.1))

-- the fields of a pattern
abbrev pub field_of : ℕ → ℕ
field_of b = b / 4503599627370496 % 2048

abbrev pub digits_of : ℕ → ℕ
digits_of b = b % 4503599627370496

pub size_is : (b : ℕ) → normal_size b * 2 ^ 1073 ≡ M_of (field_of b) (digits_of b) * 4 ^ k_of (field_of b)
size_is b =
    let e : b % 9223372036854775808 / 4503599627370496 ≡ field_of b = omega arith in
    ap (λ (z : ℕ). (4503599627370496 + digits_of b) * 2 ^ z * 2 ^ 1073) e ∙ scaled (field_of b) (digits_of b)

-- that number is n / 2 ^ 1075, and in units of 2 ^ -2148 it is a whole one
pub spread : (n p : ℕ) → n * 2 ^ 1073 ≡ p → n * (2 ^ 1074 * 2 ^ 1074) ≡ p * 2 ^ 1075
spread n p h = ap (λ (z : ℕ). n * z) (sym (pow-add 2 1074 1074) ∙ pow-add 2 1073 1075) ∙ sym (mul_assoc n (2 ^ 1073) (2 ^ 1075)) ∙ ap (λ (z : ℕ). z * 2 ^ 1075) h

-- its root
pub fields_units : (b : ℕ) → normal_root b ≡ units binary64 false (nearest_root (M_of (field_of b) (digits_of b))) (k_of (field_of b))
unfolding normal_root nearest_root
fields_units b =
    let M = M_of (field_of b) (digits_of b) in
    let k = k_of (field_of b) in
    let w = wide_of (field_of b) (digits_of b) (omega arith) in
    root_of_at binary64 (normal_size b) (2 ^ 1075) M k (root M) (pow_pos 1075)
    (ap (λ (z : ℕ). normal_size b * z) (four_pow 1074) ∙ spread (normal_size b) (M * 4 ^ k) (size_is b) ∙ mul_assoc M (4 ^ k) (2 ^ 1075) ∙ ap (λ (z : ℕ). M * z) (mul_comm (4 ^ k) (2 ^ 1075)))
    (root_around M) (root_wide M w).0 (root_wide M w).1

-- and its pattern
abbrev pub bits_of : ℕ → ℕ
bits_of b = k_of (field_of b) * 4503599627370496 + nearest_root (M_of (field_of b) (digits_of b))

pub fields_root : (b : ℕ) → (of_bits binary64 (bits_of b) ≡ normal_root b) × T (not (nan_bits binary64 (bits_of b)))
fields_root b =
    let p = patterned (M_of (field_of b) (digits_of b)) (k_of (field_of b)) (bits_of b) (wide_of (field_of b) (digits_of b) (omega arith)) (omega arith) refl in
    (p.0 ∙ sym (fields_units b), p.1)

-- ---- a normal pattern b
pub normal_value : (b x : ℕ) → b / 4503599627370496 ≡ suc x → suc x < 2047 → HasValue (of_bits binary64 b) false ((4503599627370496 + b % 4503599627370496) * 2 ^ x) (2 ^ 1074)
normal_value b x e l =
    let B : b < 9223372036854775808 = omega arith in
    let E : exp b ≡ suc x = omega arith in
    subst (λ (z : ℕ). HasValue (of_bits binary64 z) false ((4503599627370496 + b % 4503599627370496) * 2 ^ x) (2 ^ 1074)) (omega arith)
    (subst (λ (z : ℕ). HasValue (of_bits binary64 (size_of b)) false (val z (b % 4503599627370496)) (2 ^ 1074)) E (size_value b (subst (λ (z : ℕ). z < 2047) (sym E) l)))

-- the field is one more than the zeros behind the digits
lifted : (x t : ℕ) → (4503599627370496 + t) * 2 ^ x * 2 ^ 1074 ≡ M_of (suc x) t * 4 ^ k_of (suc x)
lifted x t =
    mul_assoc (4503599627370496 + t) (2 ^ x) (2 ^ 1074)
    ∙ ap (λ (z : ℕ). (4503599627370496 + t) * z) (sym (pow-add 2 x 1074) ∙ ap (λ (z : ℕ). 2 ^ z) (omega arith) ∙ pow-add 2 (suc x) 1073)
    ∙ sym (mul_assoc (4503599627370496 + t) (2 ^ suc x) (2 ^ 1073))
    ∙ scaled (suc x) t

normal_units : (b : ℕ) → 4503599627370496 ≤ b → b < 9218868437227405312 → sqrt_of (of_bits binary64 b) ≡ normal_root b
normal_units b lo hi =
    let x = b / 4503599627370496 - 1 in
    let t = digits_of b in
    let e : b / 4503599627370496 ≡ suc x = omega arith in
    let f : suc x ≡ field_of b = omega arith in
    sqrt_units (of_bits binary64 b) ((4503599627370496 + t) * 2 ^ x) (M_of (suc x) t) (k_of (suc x)) (normal_value b x e (omega arith)) (mul-pos (omega arith) (pow_pos x)) (lifted x t) (wide_of (suc x) t (omega arith))
    ∙ ap (λ (z : ℕ). units binary64 false (nearest_root (M_of z t)) (k_of z)) f
    ∙ sym (fields_units b)

-- ---- a subnormal pattern: 2 ^ 54 times the value is normal, and its root 2 ^ 27 times as large
scale_value : HasValue (of_bits binary64 4850376798678024192) false (2 ^ 54) 1
unfolding of_bits
scale_value = (refl, refl)

abbrev pub larger : Float → Float
larger x = mul binary64 x (of_bits binary64 4850376798678024192)

larger_value : (x : Float) (N : ℕ) → HasValue x false N (2 ^ 1074) → N < 4503599627370496 → HasValue (larger x) false (N * 2 ^ 54) (2 ^ 1074)
larger_value x N h l =
    subst (λ (y : Float). HasValue y false (N * 2 ^ 54) (2 ^ 1074)) (sym (mul_value binary64 x (of_bits binary64 4850376798678024192) false false N (2 ^ 1074) (2 ^ 54) 1 (pow_pos 1074) (lit< tt) h scale_value))
    (round_exact binary64 false (N * 2 ^ 54) (2 ^ 1074) N 54 (pow_pos 1074) (omega arith) (lt_of_lt_of_le (shl_lt 52 54 l) (lit≤ tt)) refl)

small_value : (b : ℕ) → b < 4503599627370496 → HasValue (of_bits binary64 b) false b (2 ^ 1074)
small_value b h =
    let B : b < 9223372036854775808 = omega arith in
    let x : exp b ≡ 0 = omega arith in
    let d : digits b ≡ b = omega arith in
    let v = size_value b (omega arith) in
    subst (λ (z : ℕ). HasValue (of_bits binary64 b) false z (2 ^ 1074)) (ap (λ (E : ℕ). val E (digits b)) x ∙ mul-one (digits b) ∙ d)
    (subst (λ (z : ℕ). HasValue (of_bits binary64 z) false (value b) (2 ^ 1074)) (omega arith) v)

-- the pattern of the larger value
larger_bits : (x : Float) (N : ℕ) → HasValue x false N (2 ^ 1074) → 0 < N → N < 4503599627370496 → (9007199254740992 ≤ to_bits binary64 (larger x)) × (to_bits binary64 (larger x) < 252201579132747776)
larger_bits x N h P l =
    let a = N * 2 ^ 54 in
    let D = size a - 53 in
    let e = to_bits_val binary64 (larger x) false a (larger_value x N h l) in
    let s1 : 54 < size a = size_gt a 54 (omega arith) in
    let s2 : size a ≤ 106 = size-le a 106 (shl_lt 52 54 l) in
    let k = kept-lt 53 a in
    (omega arith, omega arith)

fraction_value : HasValue (of_bits binary64 4485585228861014016) false 1 (2 ^ 27)
unfolding of_bits
fraction_value = (refl, refl)

abbrev pub smaller : Float → Float
smaller y = mul binary64 y (of_bits binary64 4485585228861014016)

smaller_units : (q k : ℕ) → 4503599627370496 ≤ q → q ≤ 9007199254740992 → k ≤ 2000 → smaller (units binary64 false q (k + 27)) ≡ units binary64 false q k
smaller_units q k lo hi l =
    mul_value binary64 (units binary64 false q (k + 27)) (of_bits binary64 4485585228861014016) false false (q * 2 ^ (k + 27)) (2 ^ 1074) 1 (2 ^ 27) (pow_pos 1074) (pow_pos 27) (counted (k + 27) (omega arith)) fraction_value
    ∙ round_value binary64 (units binary64 false q k) false (q * 2 ^ (k + 27) * 1) (2 ^ 1074 * 2 ^ 27) (mul-pos (pow_pos 1074) (pow_pos 27))
    (subst (λ (y : Float). T (fits binary64 y)) (pattern binary64 false q k hi (inr lo) (omega arith)) (of_bits-fits binary64 _))
    (with_value (λ y. HasValue y false (q * 2 ^ (k + 27) * 1) (2 ^ 1074 * 2 ^ 27)) (units binary64 false q k) false (q * 2 ^ k) (2 ^ 1074) (counted k (omega arith))
    (λ m e v. (refl, grow (m * up e) (2 ^ 1074) (2 ^ 27) (q * 2 ^ k) (down e) (q * 2 ^ (k + 27)) v (mul_assoc q (2 ^ k) (2 ^ 27) ∙ ap (λ (z : ℕ). q * z) (sym (pow-add 2 k 27))))))
  where
    counted : (j : ℕ) → j ≤ 2044 → HasValue (units binary64 false q j) false (q * 2 ^ j) (2 ^ 1074)
    counted j h = units_val binary64 false q j (lt_of_le_of_lt (mul-le-mul hi (pow_mono h)) (lit< tt))

    grow : (A L P B D N : ℕ) → A * L ≡ B * D → B * P ≡ N → A * (L * P) ≡ N * 1 * D
    grow A L P B D N e g = sym (mul_assoc A L P) ∙ ap (λ (z : ℕ). z * P) e ∙ mul_right_comm B D P ∙ ap (λ (z : ℕ). z * D) (g ∙ sym (mul-one N))

small_root : (b : ℕ) → 0 < b → b < 4503599627370496 → smaller (normal_root (to_bits binary64 (larger (of_bits binary64 b)))) ≡ sqrt_of (of_bits binary64 b)
small_root b P l =
    let v = of_bits binary64 b in
    let h = small_value b l in
    let y = larger v in
    let c = to_bits binary64 y in
    let r = larger_bits v b h P l in
    let x = c / 4503599627370496 - 1 in
    let t = digits_of c in
    let e : c / 4503599627370496 ≡ suc x = omega arith in
    let k = k_of (suc x) in
    let M = M_of (suc x) t in
    let w = wide_of (suc x) t (omega arith) in
    let f : field_of c ≡ suc x = omega arith in
    let kk : k ≡ k - 27 + 27 = omega arith in
    let back : of_bits binary64 c ≡ y = of_bits-to_bits binary64 y (mul-fits binary64 v (of_bits binary64 4850376798678024192)) in
    let same : (4503599627370496 + t) * 2 ^ x ≡ b * 2 ^ 54 =
    same_value y false ((4503599627370496 + t) * 2 ^ x) (b * 2 ^ 54) (2 ^ 1074) (subst (λ (z : Float). HasValue z false ((4503599627370496 + t) * 2 ^ x) (2 ^ 1074)) back (normal_value c x e (omega arith))) (larger_value v b h l) in
    let exact : b * 2 ^ 1074 ≡ M * 4 ^ (k - 27) =
    eq_of_mul-eq-mul_right (2 ^ 54) (pow_pos 54) (b * 2 ^ 1074) (M * 4 ^ (k - 27))
    (mul_right_comm b (2 ^ 1074) (2 ^ 54)
    ∙ ap (λ (z : ℕ). z * 2 ^ 1074) (sym same)
    ∙ lifted x t
    ∙ ap (λ (z : ℕ). M * z) (ap (λ (j : ℕ). 4 ^ j) kk ∙ pow-add 4 (k - 27) 27)
    ∙ sym (mul_assoc M (4 ^ (k - 27)) (2 ^ 54))) in
    ap smaller (fields_units c ∙ ap (λ (z : ℕ). units binary64 false (nearest_root (M_of z t)) (k_of z)) f ∙ ap (units binary64 false (nearest_root M)) kk)
    ∙ smaller_units (nearest_root M) (k - 27) (nearest_wide M w).0 (nearest_wide M w).1 (omega arith)
    ∙ sym (sqrt_units v b M (k - 27) h P exact w)

-- ---- the other ways
false_pos : (a b : ℕ) → ltb a b ≡ false → a ≡ 0 → 0 < b → ⊥
false_pos a b e p q = absurd (subst (λ (t : Bool). T t) e (lt→ltb a b (subst (λ (k : ℕ). k < b) (sym p) q)))

pos_num : (m : ℕ) (e : ℤ) → 0 < suc m * up e * 1
pos_num m e = mul-pos (mul-pos (zero-lt-suc m) (up_pos e)) (zero-lt-suc 0)

-- what is above zero has a pattern with no sign
pub above_bits : (x : Float) → T (fits binary64 x) → lt nought x ≡ true → (T (not (is_nan x))) × (to_bits binary64 x < 9223372036854775808)
unfolding lt is_nan
above_bits nan h t = absurd (false≢true t)
above_bits (inf true) h t = absurd (false≢true t)
above_bits (inf false) h t = (tt, unfold to_bits in lit< tt)
above_bits (fin true m e) h t = absurd (false≢true t)
above_bits (fin false m e) h t = (tt, size_lt_top binary64 m e h)

above_some : (b : ℕ) → lt nought (of_bits binary64 b) ≡ true → 0 < b
unfolding lt of_bits
above_some zero t = absurd (false≢true t)
above_some (suc b) t = zero-lt-suc b

pub above_top : (x : Float) → T (fits binary64 x) → lt nought x ≡ true → 9218868437227405312 ≤ to_bits binary64 x → x ≡ sqrt_of x
unfolding sqrt_of lt
above_top x h t g =
    let b = to_bits binary64 x in
    let n = above_bits x h t in
    let back : of_bits binary64 b ≡ x = of_bits-to_bits binary64 x h in
    let e : exp b ≡ 2047 = omega (arith, n.1) in
    let f : x ≡ of_fields binary64 (leb 9223372036854775808 b) 2047 (digits b) = sym back ∙ signed b ∙ ap (λ (E : ℕ). of_fields binary64 (leb 9223372036854775808 b) E (digits b)) e in
    plus x (leb 9223372036854775808 b) (f ∙ top_field (leb 9223372036854775808 b) (digits b) (subst (λ (v : Float). T (not (is_nan v))) f n.0)) t
  where
    plus : (x : Float) (s : Bool) → x ≡ inf s → lt nought x ≡ true → x ≡ sqrt_of x
    plus x true e t = absurd (false≢true (sym (ap (lt nought) e) ∙ t))
    plus x false e t = e ∙ sym (ap sqrt_of e)

pub at_zero : (x : Float) → eq x nought ≡ true → x ≡ sqrt_of x
unfolding eq sqrt_of
at_zero nan t = absurd (false≢true t)
at_zero (inf s) t = absurd (false≢true t)
at_zero (fin s zero e) t = refl
at_zero (fin s (suc m) e) t = absurd (not_level (suc m * up e * 1) (0 * down e) (beq s false || eqb (suc m * up e * 1) 0) (pos_num m e) (zero-mul (down e)) t)
  where
    not_level : (a b : ℕ) (o : Bool) → 0 < a → b ≡ 0 → (eqb a b && o) ≡ true → ⊥
    not_level a b o p q t = lt_irrefl 0 (subst (λ (k : ℕ). 0 < k) (eqb→eq a b (and_l (eqb a b) o (subst T (sym t) tt)) ∙ q) p)

pub at_rest : (x : Float) → lt nought x ≡ false → eq x nought ≡ false → sqrt_of x ≡ nan
unfolding lt eq sqrt_of
at_rest nan t u = refl
at_rest (inf true) t u = refl
at_rest (inf false) t u = absurd (true≢false t)
at_rest (fin s zero e) t u = absurd (is_level s (0 * up e * 1) (0 * down e) (ap (λ (k : ℕ). k * 1) (zero-mul (up e)) ∙ zero-mul 1) (zero-mul (down e)) u)
  where
    is_level : (s : Bool) (a b : ℕ) → a ≡ 0 → b ≡ 0 → (eqb a b && (beq s false || eqb a 0)) ≡ false → ⊥
    is_level true a b p q t = true≢false (sym (λ i. eqb (p i) (q i) && (false || eqb (p i) 0)) ∙ t)
    is_level false a b p q t = true≢false (sym (λ i. eqb (p i) (q i) && (true || eqb (p i) 0)) ∙ t)
at_rest (fin true (suc m) e) t u = refl
at_rest (fin false (suc m) e) t u = absurd (false_pos (0 * down e) (suc m * up e * 1) t (zero-mul (down e)) (pos_num m e))

-- ---- a value above zero, by its pattern
pub record Small (x : Float) : Type 0 where
  pub some : T (not (is_nan (larger x)))
  pub right : smaller (normal_root (to_bits binary64 (larger x))) ≡ sqrt_of x

pub small : (x : Float) → T (fits binary64 x) → lt nought x ≡ true → to_bits binary64 x < 4503599627370496 → Small x
small x h t l =
    let b = to_bits binary64 x in
    let back : of_bits binary64 b ≡ x = of_bits-to_bits binary64 x h in
    let P : 0 < b = above_some b (ap (lt nought) back ∙ t) in
    let some = value_no_nan (larger (of_bits binary64 b)) false (b * 2 ^ 54) (2 ^ 1074) (larger_value (of_bits binary64 b) b (small_value b l) l) in
    subst Small back (record { some = some; right = small_root b P l })

pub normal : (x : Float) → T (fits binary64 x) → 4503599627370496 ≤ to_bits binary64 x → to_bits binary64 x < 9218868437227405312 → normal_root (to_bits binary64 x) ≡ sqrt_of x
normal x h lo hi = sym (normal_units (to_bits binary64 x) lo hi) ∙ ap sqrt_of (of_bits-to_bits binary64 x h)
