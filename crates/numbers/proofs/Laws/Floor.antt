-- The floor of a float: what it is, that it grows with the value, and its bounds. Assumes nothing.
--     floor_plain                            of an x not negative, and below 2 ^ 63, it is a k with k ≤ x < k + 1
--     floor_minus                            of an x below 0, and not below -2 ^ 63, it is a -(k + 1) with -(k + 1) ≤ x < -k
--     floor_zero                             of either zero it is 0
--     floor_mono                             of a larger value it is at least as large
--     floor_fits                             it is an i64
--     floor_size, floor_between, floor_cell  it is at most as large as a whole number that bounds the value, or as the larger of the floors on its two sides, as of 2 ^ 20 + 1
use Rattle.std.proofs.Common.{◌≡◌, ℕ, zero, suc, ◌+◌, ◌-◌, ◌*◌, ◌/◌, ◌%◌, ◌^◌, ◌<◌, ◌≤◌, min, Bool, true, false, T, ℤ, pos, negsuc, neg_ℤ, nat_abs, sym, ap, ◌∙◌, suc-le-suc, zero-le, le_trans, le_of_eq, le_of_suc-le-suc, mod-lt, mul_comm, div-lt_iff_lt-mul, mul-pos, div-add-mod', zero-mul, arith, lit≤, le→leb, leb→le, w64, SFits}
use native.Mathlib.Nat.{zero-div, div-le_of_le-mul}
use lib.Signed.{le_z, mag}
use lib.Ieee.{Float, nan, inf, fin, up, down, le}
use lib.Ieee.Fits.{up_pos, down_pos}
use lib.Ieee.Nearest.{div_mono}
use Rattle.numbers.specs.Rounding.{floor_of}
use Rattle.numbers.proofs.floats.Differences.{zero_of_law}
use Rattle.numbers.proofs.Laws.Order.{AtMost, le_cases}
use Rattle.numbers.proofs.rounding.Flooring.{ceiling, ceiling_le, ceiling_mono, ceiling_suc, ceiling_zero, capped, capped_most}

-- ---- what it is
pub floor_plain : (m : ℕ) (e : ℤ) → m * up e < 2 ^ 63 * down e → (k : ℕ) × (floor_of (fin false m e) ≡ pos k) × (k * down e ≤ m * up e) × (m * up e < suc k * down e)
unfolding floor_of
floor_plain m e h =
    let a = m * up e in
    let c = down e in
    let q = a / c in
    let w = around a c q (a % c) (div-add-mod' a c) (mod-lt a (down_pos e)) in
    (q, ap pos (capped q ((div-lt_iff_lt-mul (down_pos e)).1 h)), w.0, w.1)
  where
    around : (a c q r : ℕ) → q * c + r ≡ a → r < c → (q * c ≤ a) × (a < suc q * c)
    around a c q r e l = (omega arith, omega arith)

pub floor_minus : (m : ℕ) (e : ℤ) → 0 < m → m * up e ≤ 2 ^ 63 * down e → (k : ℕ) × (floor_of (fin true m e) ≡ negsuc k) × (k * down e < m * up e) × (m * up e ≤ suc k * down e)
unfolding floor_of
floor_minus m e p h =
    let a = m * up e in
    let c = down e in
    let A : 0 < a = mul-pos p (up_pos e) in
    let q = (a - 1) / c in
    let w = around a c q ((a - 1) % c) A (div-add-mod' (a - 1) c) (mod-lt (a - 1) (down_pos e)) in
    let n : ceiling a c ≡ suc q = ceiling_suc a c A (down_pos e) in (
      q,
      ap (λ (k : ℕ). neg_ℤ (pos (min k 9223372036854775808))) n ∙ ap (λ (k : ℕ). neg_ℤ (pos k)) (capped_most (suc q) (le_trans (le_of_eq (sym n)) (ceiling_le a c (2 ^ 63) (down_pos e) h))),
      w.0,
      w.1,
    )
  where
    around : (a c q r : ℕ) → 0 < a → q * c + r ≡ a - 1 → r < c → (q * c < a) × (a ≤ suc q * c)
    around a c q r A e l = (omega arith, omega arith)

pub floor_zero : (s : Bool) (e : ℤ) → floor_of (fin s 0 e) ≡ pos 0
unfolding floor_of
floor_zero true e = ap (λ (a : ℕ). neg_ℤ (pos (min (ceiling a (down e)) 9223372036854775808))) (zero-mul (up e)) ∙ ap (λ (k : ℕ). neg_ℤ (pos (min k 9223372036854775808))) (ceiling_zero (down e) (down_pos e))
floor_zero false e = ap (λ (a : ℕ). pos (min (a / down e) 9223372036854775807)) (zero-mul (up e)) ∙ ap (λ (k : ℕ). pos (min k 9223372036854775807)) (zero-div (down e))

-- ---- it grows with the value
-- the order of two numbers, turned by a sign
neg_pos : (j k : ℕ) → T (le_z (neg_ℤ (pos j)) (pos k))
neg_pos zero k = le→leb 0 k zero-le
neg_pos (suc j) k = tt

neg_neg : (j k : ℕ) → k ≤ j → T (le_z (neg_ℤ (pos j)) (neg_ℤ (pos k)))
neg_neg zero zero h = tt
neg_neg zero (suc k) h = absurd (omega arith)
neg_neg (suc j) zero h = tt
neg_neg (suc j) (suc k) h = le→leb k j (le_of_suc-le-suc h)

-- the ends of the range
floor_least : (x : Float) → T (le_z (negsuc 9223372036854775807) (floor_of x))
unfolding floor_of
floor_least nan = tt
floor_least (inf true) = tt
floor_least (inf false) = tt
floor_least (fin true m e) = neg_neg 9223372036854775808 (min (ceiling (m * up e) (down e)) 9223372036854775808) (omega arith)
floor_least (fin false m e) = tt

floor_most : (x : Float) → T (le_z (floor_of x) (pos 9223372036854775807))
unfolding floor_of
floor_most nan = tt
floor_most (inf true) = tt
floor_most (inf false) = tt
floor_most (fin true m e) = neg_pos (min (ceiling (m * up e) (down e)) 9223372036854775808) 9223372036854775807
floor_most (fin false m e) = le→leb (min (m * up e / down e) 9223372036854775807) 9223372036854775807 (omega arith)

pub floor_mono : (x y : Float) → T (le x y) → T (le_z (floor_of x) (floor_of y))
unfolding floor_of
floor_mono = le_cases (λ x y. T (le_z (floor_of x) (floor_of y))) (λ y n. floor_least y) (λ x n. floor_most x) finite_mono
  where
    finite_mono : (s : Bool) (m : ℕ) (e : ℤ) (t : Bool) (n : ℕ) (d : ℤ) → AtMost s (m * up e * down d) t (n * up d * down e) → T (le_z (floor_of (fin s m e)) (floor_of (fin t n d)))
    finite_mono false m e false n d h =
        let q = m * up e / down e in
        let r = n * up d / down d in
        let l : q ≤ r = div_mono (m * up e) (down e) (n * up d) (down d) (down_pos e) (down_pos d) (omega arith) in
        le→leb (min q 9223372036854775807) (min r 9223372036854775807) (omega arith)
    finite_mono false m e true n d h =
        let a : m ≡ 0 = zero_of_law m (up e) (up_pos e) (zero_of_law (m * up e) (down d) (down_pos d) (omega arith)) in
        let b : n ≡ 0 = zero_of_law n (up d) (up_pos d) (zero_of_law (n * up d) (down e) (down_pos e) (omega arith)) in
        rw (a, b, floor_zero false e, floor_zero true d) tt
    finite_mono true m e false n d h = neg_pos (min (ceiling (m * up e) (down e)) 9223372036854775808) (min (n * up d / down d) 9223372036854775807)
    finite_mono true m e true n d h =
        let q = ceiling (m * up e) (down e) in
        let r = ceiling (n * up d) (down d) in
        let l : r ≤ q = ceiling_mono (n * up d) (down d) (m * up e) (down e) (down_pos d) (down_pos e) (omega arith) in
        neg_neg (min q 9223372036854775808) (min r 9223372036854775808) (omega arith)

-- ---- bounds
pub floor_fits : (x : Float) → SFits w64 (floor_of x)
floor_fits x = record { sfits = go (floor_of x) (floor_least x) (floor_most x) }
  where
    go : (z : ℤ) → T (le_z (negsuc 9223372036854775807) z) → T (le_z z (pos 9223372036854775807)) → mag z < 9223372036854775808
    go (pos k) a b = omega (arith, leb→le k 9223372036854775807 b)
    go (negsuc k) a b = omega (arith, leb→le k 9223372036854775807 a)

pub floor_size : (n : ℕ) (s : Bool) (m : ℕ) (e : ℤ) → m * up e ≤ n * down e → nat_abs (floor_of (fin s m e)) ≤ n
unfolding floor_of
floor_size n true m e h = abs_neg (min (ceiling (m * up e) (down e)) 9223372036854775808) (omega (arith, ceiling_le (m * up e) (down e) n (down_pos e) h))
  where
    abs_neg : (k : ℕ) → k ≤ n → nat_abs (neg_ℤ (pos k)) ≤ n
    abs_neg zero l = l
    abs_neg (suc k) l = l
floor_size n false m e h = omega (arith, div-le_of_le-mul (down e) (le_trans h (le_of_eq (mul_comm n (down e)))))

pub floor_between : (lo x hi : Float) (n : ℕ) → T (le lo x) → T (le x hi) → nat_abs (floor_of lo) ≤ n → nat_abs (floor_of hi) ≤ n → nat_abs (floor_of x) ≤ n
floor_between lo x hi n h k a b = go (floor_of lo) (floor_of x) (floor_of hi) (floor_mono lo x h) (floor_mono x hi k) a b
  where
    go : (l z u : ℤ) → T (le_z l z) → T (le_z z u) → nat_abs l ≤ n → nat_abs u ≤ n → nat_abs z ≤ n
    go l (pos k) (pos j) h g a b = le_trans (leb→le k j g) b
    go l (pos k) (negsuc j) h g a b = absurd g
    go (pos i) (negsuc k) u h g a b = absurd h
    go (negsuc i) (negsuc k) u h g a b = le_trans (suc-le-suc (leb→le k i h)) a

pub floor_cell : (x : Float) → T (le (fin true 1048577 (pos 0)) x) → T (le x (fin false 1048577 (pos 0))) → nat_abs (floor_of x) ≤ 1048577
unfolding floor_of
floor_cell x h k = floor_between (fin true 1048577 (pos 0)) x (fin false 1048577 (pos 0)) 1048577 h k (lit≤ tt) (lit≤ tt)
