-- The floor of a binary64 pattern, as the program works it out. Assumes nothing.
use Rattle.std.proofs.Common.{◌≡◌, ℕ, zero, suc, ◌+◌, ◌-◌, ◌*◌, ◌/◌, ◌%◌, ◌^◌, ◌<◌, ◌≤◌, min, Bool, true, false, cond, not, T, leb, ℤ, pos, negsuc, ◌-ℤ◌, neg_ℤ, sym, refl, ap, ◌∙◌, subst, inl, inr, le_trans, le_of_eq, lt_of_lt_of_le, le_of_suc-le-suc, not-suc-le-zero, lt_of_le_of_lt, le_of_lt, mul-le-mul_right, mod-lt, mul_assoc, div-lt_iff_lt-mul, le_antisymm, eq-or-lt_of_le, div-add-mod', le-div_iff_mul-le, zero-add, mul_right_comm, le_of_mul-le-mul_right, mul-div_cancel, arith, lit<, lit≤, le→leb, pow_pos, pow_mono, pow-add, shl_lt, shl_exact, shr-shr, w64, SFits, to_z, of_z}
use native.Mathlib.Nat.{div-eq_of_lt, add-mul-div_right, pow-succ'}
use lib.IntN.{+ℤ_idl}
use lib.Pow.{shl-shr}
use lib.Arith.{lt→nleb, digits_div}
use lib.Ieee.{Float, inf, binary64, up, down, is_nan, of_fields, of_bits}
use lib.Ieee.Fits.{down_pos}
use lib.Ieee.Exact.{HasValue}
use lib.Ieee.Nearest.{div_same}
use lib.Ieee.Bits.{is_true, is_false}
use mir.ValLaws.{to_z_pos, to_z-of_z}
use Rattle.numbers.specs.Rounding.{floor_of}
use Rattle.numbers.specs.Inner.{scaled}
use Rattle.numbers.proofs.rounding.Narrowing.{val, fields_value, exp, signed, top_field}
use Rattle.numbers.proofs.floats.Values.{with_value}
use Rattle.numbers.proofs.floats.Patterns.{shifted}

-- ---- m * 2 ^ e / 2 ^ 1075, by shifts
pub scaled_none : (m e : ℕ) → m < 9007199254740992 → e < 1023 → 0 ≡ scaled m e
unfolding scaled
scaled_none m e h l = sym (div-eq_of_lt (lt_of_lt_of_le (shl_lt 53 e h) (pow_mono {j = 1075} (omega arith))))

pub scaled_down : (m e : ℕ) → e ≤ 1075 → m / 2 ^ (1075 - e) ≡ scaled m e
unfolding scaled
scaled_down m e h =
    let j : e + (1075 - e) ≡ 1075 = omega arith in
    ap (λ (k : ℕ). k / 2 ^ (1075 - e)) (sym (shl-shr m e)) ∙ shr-shr (m * 2 ^ e) e (1075 - e) ∙ ap (λ (k : ℕ). m * 2 ^ e / 2 ^ k) j

pub scaled_up : (m e : ℕ) → m < 9007199254740992 → 1075 ≤ e → e < 1086 → m * 2 ^ (e - 1075) % 18446744073709551616 ≡ scaled m e
unfolding scaled
scaled_up m e h lo hi = shl_exact 53 (e - 1075) 64 h (omega arith) ∙ sym (ap (λ (k : ℕ). k / 2 ^ 1075) (shifted m 1075 e lo) ∙ shl-shr (m * 2 ^ (e - 1075)) 1075)

pub scaled_lt : (m e : ℕ) → m < 9007199254740992 → e < 1086 → scaled m e < 9223372036854775808
unfolding scaled
scaled_lt m e h l = (div-lt_iff_lt-mul (pow_pos 1075)).1 (lt_of_lt_of_le (shl_lt 53 e h) (le_trans (pow_mono {j = 1138} (omega arith)) (lit≤ tt)))

-- ---- a quotient rounded up
abbrev pub ceiling : ℕ → ℕ → ℕ
ceiling a c = (a + (c - 1)) / c

pub ceiling_le : (a c q : ℕ) → 0 < c → a ≤ q * c → ceiling a c ≤ q
ceiling_le a c q C h = let l : a + (c - 1) < suc q * c = omega arith in le_of_suc-le-suc ((div-lt_iff_lt-mul C).1 l)

le_ceiling : (a c : ℕ) → 0 < c → a ≤ ceiling a c * c
le_ceiling a c C = omega (arith, div-add-mod' (a + (c - 1)) c, mod-lt (a + (c - 1)) C)

pub ceiling_mono : (a b c d : ℕ) → 0 < b → 0 < d → a * d ≤ c * b → ceiling a b ≤ ceiling c d
ceiling_mono a b c d B D h = ceiling_le a b (ceiling c d) B (le_of_mul-le-mul_right (le_trans h (le_trans (mul-le-mul_right b (le_ceiling c d D)) (le_of_eq (mul_right_comm (ceiling c d) d b)))) D)

ceiling_same : (a b c d : ℕ) → 0 < b → 0 < d → a * d ≡ c * b → ceiling a b ≡ ceiling c d
ceiling_same a b c d B D e = le_antisymm (ceiling_mono a b c d B D (le_of_eq e)) (ceiling_mono c d a b D B (le_of_eq (sym e)))

-- of a number above 0 it is one more than the quotient of one less
pub ceiling_suc : (a c : ℕ) → 0 < a → 0 < c → ceiling a c ≡ suc ((a - 1) / c)
ceiling_suc a c A C = ap (λ (k : ℕ). k / c) (omega arith) ∙ add-mul-div_right (a - 1) 1 C ∙ omega arith

pub ceiling_zero : (c : ℕ) → 0 < c → ceiling 0 c ≡ 0
ceiling_zero c C = div-eq_of_lt (omega arith)

ceiling_whole : (q c : ℕ) → 0 < c → ceiling (q * c) c ≡ q
ceiling_whole q c C = digits_div q (omega arith)

-- ---- by the fraction that a value equals
abbrev floor_frac : Bool → ℕ → ℕ → ℤ
floor_frac s a c = cond s (neg_ℤ (pos (min (ceiling a c) 9223372036854775808))) (pos (min (a / c) 9223372036854775807))

floor_value : (x : Float) (s : Bool) (a c : ℕ) → 0 < c → HasValue x s a c → floor_of x ≡ floor_frac s a c
unfolding floor_of
floor_value x s a c C h =
    with_value (λ x. floor_of x ≡ floor_frac s a c) x s a c h
    (λ m e p i. cond s (neg_ℤ (pos (min (ceiling_same (m * up e) (down e) a c (down_pos e) C p i) 9223372036854775808))) (pos (min (div_same (m * up e) (down e) a c (down_pos e) C p i) 9223372036854775807)))

-- ---- the number that the fields stand for, in units of 2 ^ -1074, cut and rounded up
val_div : (e t : ℕ) → t < 4503599627370496 → val e t / 2 ^ 1074 ≡ scaled (4503599627370496 + t) e
unfolding scaled
val_div zero t h = div-eq_of_lt (lt_of_lt_of_le (shl_lt 52 0 h) (lit≤ tt)) ∙ scaled_none (4503599627370496 + t) 0 (omega arith) (lit< tt)
val_div (suc x) t h = div_same ((4503599627370496 + t) * 2 ^ x) (2 ^ 1074) ((4503599627370496 + t) * 2 ^ suc x) (2 ^ 1075) (pow_pos 1074) (pow_pos 1075) (doubled (4503599627370496 + t) (2 ^ x) (2 ^ suc x) (2 ^ 1074) (pow-succ' 2 x))
  where
    doubled : (m p r l : ℕ) → r ≡ 2 * p → m * p * (2 * l) ≡ m * r * l
    doubled m p r l e = omega arith ∙ sym (ap (λ (k : ℕ). m * k * l) e)

-- from 2 ^ 52 on there is nothing to cut
val_whole : (e t : ℕ) → t < 4503599627370496 → 1075 ≤ e → ceiling (val e t) (2 ^ 1074) ≡ scaled (4503599627370496 + t) e
val_whole zero t h l = absurd (not-suc-le-zero l)
val_whole (suc x) t h l =
    let m = 4503599627370496 + t in
    let is = shifted m 1074 x (le_of_suc-le-suc l) in
    ap (λ (k : ℕ). ceiling k (2 ^ 1074)) is
    ∙ ceiling_whole (m * 2 ^ (x - 1074)) (2 ^ 1074) (pow_pos 1074)
    ∙ sym (mul-div_cancel (m * 2 ^ (x - 1074)) (pow_pos 1074))
    ∙ ap (λ (k : ℕ). k / 2 ^ 1074) (sym is)
    ∙ val_div (suc x) t h

-- below it, of a number above 0, the next whole number is that after what one digit less is cut to
val_next : (e t : ℕ) → t < 4503599627370496 → e < 1075 → 0 < e + t → ceiling (val e t) (2 ^ 1074) ≡ suc (scaled (4503599627370496 + t - 1) e)
val_next zero t h l p =
    ceiling_suc (t * 2 ^ 0) (2 ^ 1074) (omega arith) (pow_pos 1074)
    ∙ ap suc (div-eq_of_lt (lt_of_le_of_lt (omega arith) (lt_of_lt_of_le (shl_lt 52 0 h) (lit≤ tt))) ∙ scaled_none (4503599627370496 + t - 1) 0 (omega arith) (lit< tt))
val_next (suc x) t h l p =
    let m = 4503599627370496 + t in
    let j : x + (1074 - x) ≡ 1074 = omega arith in
    ceiling_same (m * 2 ^ x) (2 ^ 1074) m (2 ^ (1074 - x)) (pow_pos 1074) (pow_pos (1074 - x))
    (mul_assoc m (2 ^ x) (2 ^ (1074 - x)) ∙ ap (λ (k : ℕ). m * k) (sym (pow-add 2 x (1074 - x)) ∙ ap (λ (k : ℕ). 2 ^ k) j))
    ∙ ceiling_suc m (2 ^ (1074 - x)) (omega arith) (pow_pos (1074 - x))
    ∙ ap suc (ap (λ (k : ℕ). (m - 1) / 2 ^ k) (omega arith) ∙ scaled_down (m - 1) (suc x) (omega arith))

-- from 2 ^ 63 on it is out of the range
val_large : (e t : ℕ) → 1086 ≤ e → 9223372036854775808 * 2 ^ 1074 ≤ val e t
val_large zero t l = absurd (not-suc-le-zero l)
val_large (suc x) t l = le_trans (le_trans (lit≤ tt) (pow_mono {i = 1137} (omega arith))) (le_trans (le_of_eq (pow-add 2 52 x)) (mul-le-mul_right (2 ^ x) (omega arith)))

-- ---- a pattern's fields
abbrev pub t_of : ℕ → ℕ
t_of n = n % 9223372036854775808 % 4503599627370496

abbrev pub m_of : ℕ → ℕ
m_of n = 4503599627370496 + t_of n

reads : (n : ℕ) → of_bits binary64 n ≡ of_fields binary64 (leb 9223372036854775808 n) (exp n) (t_of n)
reads n = signed n ∙ ap (of_fields binary64 (leb 9223372036854775808 n) (exp n)) (omega arith)

-- its floor, where it is finite
finite_floor : (n : ℕ) (s : Bool) → leb 9223372036854775808 n ≡ s → exp n < 2047 → floor_of (of_bits binary64 n) ≡ floor_frac s (val (exp n) (t_of n)) (2 ^ 1074)
finite_floor n s p h =
    ap floor_of (reads n ∙ ap (λ (b : Bool). of_fields binary64 b (exp n) (t_of n)) p)
    ∙ floor_value (of_fields binary64 s (exp n) (t_of n)) s (val (exp n) (t_of n)) (2 ^ 1074) (pow_pos 1074) (fields_value s (exp n) (t_of n) h)

-- and where it is an infinity
infinite_floor : (n : ℕ) (s : Bool) → leb 9223372036854775808 n ≡ s → exp n ≡ 2047 → T (not (is_nan (of_bits binary64 n))) → floor_of (of_bits binary64 n) ≡ floor_of (inf s)
infinite_floor n s p h t =
    let is : of_bits binary64 n ≡ of_fields binary64 s 2047 (t_of n) = reads n ∙ (λ i. of_fields binary64 (p i) (h i) (t_of n)) in
    ap floor_of (is ∙ top_field s (t_of n) (subst (λ (v : Float). T (not (is_nan v))) is t))

pub no_sign : (n : ℕ) → n < 9223372036854775808 → leb 9223372036854775808 n ≡ false
no_sign n h = is_false (leb 9223372036854775808 n) (lt→nleb 9223372036854775808 n h)

pub sign : (n : ℕ) → 9223372036854775808 ≤ n → leb 9223372036854775808 n ≡ true
sign n h = is_true (leb 9223372036854775808 n) (le→leb 9223372036854775808 n h)

pub capped : (q : ℕ) → q < 9223372036854775808 → min q 9223372036854775807 ≡ q
capped q h = omega arith

pub capped_most : (q : ℕ) → q ≤ 9223372036854775808 → min q 9223372036854775808 ≡ q
capped_most q h = omega arith

-- ---- the floor by what the program tests
pub plain : (n : ℕ) → n < 9223372036854775808 → exp n < 1086 → floor_of (of_bits binary64 n) ≡ pos (scaled (m_of n) (exp n))
plain n h l =
    finite_floor n false (no_sign n h) (omega arith)
    ∙ ap (λ (q : ℕ). pos (min q 9223372036854775807)) (val_div (exp n) (t_of n) (omega arith))
    ∙ ap pos (capped (scaled (m_of n) (exp n)) (scaled_lt (m_of n) (exp n) (omega arith) l))

pub minus_none : (n : ℕ) → 9223372036854775808 ≤ n → n % 9223372036854775808 ≡ 0 → floor_of (of_bits binary64 n) ≡ pos 0
minus_none n h z =
    finite_floor n true (sign n h) (omega arith)
    ∙ ap (λ (b : ℕ). floor_frac true (val (b / 4503599627370496) (b % 4503599627370496)) (2 ^ 1074)) z

pub minus_cut : (n : ℕ) → 9223372036854775808 ≤ n → (n % 9223372036854775808 ≡ 0 → ⊥) → exp n < 1075 → floor_of (of_bits binary64 n) ≡ negsuc (scaled (m_of n - 1) (exp n))
minus_cut n h z l =
    finite_floor n true (sign n h) (omega arith)
    ∙ ap (λ (q : ℕ). neg_ℤ (pos (min q 9223372036854775808))) (val_next (exp n) (t_of n) (omega arith) l (omega arith))
    ∙ ap (λ (q : ℕ). neg_ℤ (pos q)) (capped_most (suc (scaled (m_of n - 1) (exp n))) (scaled_lt (m_of n - 1) (exp n) (omega arith) (omega arith)))

pub minus_whole : (n : ℕ) → 9223372036854775808 ≤ n → 1075 ≤ exp n → exp n < 1086 → floor_of (of_bits binary64 n) ≡ neg_ℤ (pos (scaled (m_of n) (exp n)))
minus_whole n h lo l =
    finite_floor n true (sign n h) (omega arith)
    ∙ ap (λ (q : ℕ). neg_ℤ (pos (min q 9223372036854775808))) (val_whole (exp n) (t_of n) (omega arith) lo)
    ∙ ap (λ (q : ℕ). neg_ℤ (pos q)) (capped_most (scaled (m_of n) (exp n)) (le_of_lt (scaled_lt (m_of n) (exp n) (omega arith) l)))

-- the ends of the range
pub out : (n : ℕ) (s : Bool) → leb 9223372036854775808 n ≡ s → 1086 ≤ exp n → T (not (is_nan (of_bits binary64 n))) → floor_of (of_bits binary64 n) ≡ cond s (negsuc 9223372036854775807) (pos 9223372036854775807)
out n s p l t = let E : exp n ≤ 2047 = omega arith in elim (eq-or-lt_of_le E) [
  | inl e ↦ infinite_floor n s p e t ∙ ends s
  | inr g ↦ finite_floor n s p g ∙ far s (val (exp n) (t_of n)) (2 ^ 1074) (pow_pos 1074) (val_large (exp n) (t_of n) l)
]
  where
    ends : (s : Bool) → floor_of (inf s) ≡ cond s (negsuc 9223372036854775807) (pos 9223372036854775807)
    ends true = unfold floor_of in refl
    ends false = unfold floor_of in refl

    far : (s : Bool) (a c : ℕ) → 0 < c → 9223372036854775808 * c ≤ a → floor_frac s a c ≡ cond s (negsuc 9223372036854775807) (pos 9223372036854775807)
    far true a c C h =
        let l : 9223372036854775808 ≤ ceiling a c = le_of_mul-le-mul_right (le_trans h (le_ceiling a c C)) C in
        let e : min (ceiling a c) 9223372036854775808 ≡ 9223372036854775808 = omega arith in
        ap (λ (q : ℕ). neg_ℤ (pos q)) e
    far false a c C h = ap pos (omega (arith, (le-div_iff_mul-le C).1 h))

-- ---- the machine's signed numbers
module _ (q : ℕ) (h : q < 9223372036854775808) where
  pub kept_fits : SFits w64 (pos q)
  kept_fits = record { sfits = h }

  pub kept : to_z w64 q ≡ pos q
  kept = to_z_pos w64 q h

  after : (k : ℕ) → negsuc 0 -ℤ pos k ≡ negsuc k
  after zero = refl
  after (suc k) = ap (λ (j : ℕ). negsuc (suc j)) (zero-add k)

  after_is : negsuc 0 -ℤ to_z w64 q ≡ negsuc q
  after_is = ap (λ (z : ℤ). negsuc 0 -ℤ z) kept ∙ after q

  pub after_fits : SFits w64 (negsuc 0 -ℤ to_z w64 q)
  after_fits = subst (λ (z : ℤ). SFits w64 z) (sym after_is) (record { sfits = h })

  pub after_kept : to_z w64 (of_z w64 (negsuc 0 -ℤ to_z w64 q)) ≡ negsuc q
  after_kept = to_z-of_z w64 (negsuc 0 -ℤ to_z w64 q) after_fits ∙ after_is

  minus_is : pos 0 -ℤ to_z w64 q ≡ neg_ℤ (pos q)
  minus_is = ap (λ (z : ℤ). pos 0 -ℤ z) kept ∙ +ℤ_idl (neg_ℤ (pos q))

  pub minus_fits : SFits w64 (pos 0 -ℤ to_z w64 q)
  minus_fits = subst (λ (z : ℤ). SFits w64 z) (sym minus_is) (go q h)
    where
      go : (k : ℕ) → k < 9223372036854775808 → SFits w64 (neg_ℤ (pos k))
      go zero l = record { sfits = l }
      go (suc k) l = record { sfits = le_of_lt l }

  pub minus_kept : to_z w64 (of_z w64 (pos 0 -ℤ to_z w64 q)) ≡ neg_ℤ (pos q)
  minus_kept = to_z-of_z w64 (pos 0 -ℤ to_z w64 q) minus_fits ∙ minus_is
