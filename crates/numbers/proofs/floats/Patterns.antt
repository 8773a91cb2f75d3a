-- What `round` keeps and drops, read off two bounds, and the bit pattern of what it gives. Assumes nothing.
-- For q * 2 ^ k units the exponent's field and the digits together are k * hid + q, also where q is 2 ^ prec and where the result is an infinity.
use Rattle.std.proofs.Common.{◌≡◌, ℕ, zero, suc, ◌+◌, ◌-◌, ◌*◌, ◌/◌, ◌%◌, ◌^◌, ◌<◌, ◌≤◌, Bool, true, false, cond, not, T, ltb, ◌⊎◌, ℤ, sym, refl, ap, ◌∙◌, subst, inl, inr, le_trans, le_of_eq, le_refl, lt_of_lt_of_le, le_of_suc-le-suc, lt_of_le_of_lt, add_assoc, lt_irrefl, mul-le-mul_right, mul_assoc, div-lt_iff_lt-mul, eq-or-lt_of_le, lt_of_not-le, le-div_iff_mul-le, mul-one, le_of_mul-le-mul_right, mul-div_cancel, arith, ltb→lt, nltb→le, pow_pos, pow_mono, pow-add, shl_lt}
use Prim.Native.Nat.{compare, Ordering}
use native.Mathlib.Nat.{le_dest, pow-succ', add-mul-div_right, add-mul-mod_self_right}
use lib.Pow.{pow-lt}
use lib.Ieee.{Float, inf, fin, Format, prec, emax, low, up, down, size, nearest, odd, units, round, hid, ones, top, of_bits, to_bits, nan_bits}
use lib.Ieee.Digits.{back, size-lt, size-le}
use lib.Ieee.Fits.{round_is, two, reach, two-le_pos, odd-fits, inf-fits, down_pos}
use lib.Ieee.Exact.{HasValue, odd_sign}
use lib.Ieee.Nearest.{closest}
use lib.Ieee.Bits.{of_bits-to_bits, nan_bits_is}
use Rattle.numbers.proofs.floats.Differences.{units_signed, signed_number}
use Rattle.numbers.proofs.floats.Values.{with_value}

-- ---- how many digits are dropped
pub pow_lt_back : (i p : ℕ) → 2 ^ i < 2 ^ p → i < p
pow_lt_back i p h = lt_of_not-le (λ (g : p ≤ i). lt_irrefl (2 ^ i) (lt_of_lt_of_le h (pow_mono g)))

pub pow_le_back : (i p : ℕ) → 2 ^ i ≤ 2 ^ p → i ≤ p
pow_le_back i p h = le_of_suc-le-suc (lt_of_not-le (λ (g : suc p ≤ i). lt_irrefl (2 ^ p) (lt_of_lt_of_le (pow-lt g) h)))

pub size_gt : (n j : ℕ) → 2 ^ j ≤ n → j < size n
size_gt n j h = pow_lt_back j (size n) (lt_of_le_of_lt h (size-lt n))

-- how many of n's digits stand after the first p
pub size_drop : (p n k : ℕ) → 0 < p → 2 ^ (p - 1 + k) ≤ n → n < 2 ^ (p + k) → size n - p ≡ k
size_drop p n k P lo hi = omega (arith, size_gt n (p - 1 + k) lo, size-le n (p + k) hi)

-- n * 2 ^ j as a multiple of 2 ^ k
pub shifted : (n k j : ℕ) → k ≤ j → n * 2 ^ j ≡ n * 2 ^ (j - k) * 2 ^ k
shifted n k j h = ap (λ (x : ℕ). n * 2 ^ x) (sym (back j k h)) ∙ ap (λ (x : ℕ). n * x) (pow-add 2 (j - k) k) ∙ sym (mul_assoc n (2 ^ (j - k)) (2 ^ k))

pub drop_is : (p n den k : ℕ) → 0 < p → 0 < den → 2 ^ (p - 1 + k) * den ≤ n → n < 2 ^ (p + k) * den → size (n / den) - p ≡ k
drop_is p n den k P D lo hi = size_drop p (n / den) k P ((le-div_iff_mul-le D).1 lo) ((div-lt_iff_lt-mul D).1 hi)

pub drop_none : (p n den : ℕ) → 0 < den → n < 2 ^ p * den → size (n / den) - p ≡ 0
drop_none p n den D hi = omega (arith, size-le (n / den) p ((div-lt_iff_lt-mul D).1 hi))

-- so `round` is `units` of the nearest multiple
pub round_at : (f : Format) (s : Bool) (num den k : ℕ) → size (num * 2 ^ low f / den) - prec f ≡ k
    → round f s num den ≡ units f s (closest (num * 2 ^ low f) (den * 2 ^ k)) k
round_at f s num den k e = round_is f s num den ∙ ap (λ (j : ℕ). units f s (closest (num * 2 ^ low f) (den * 2 ^ j)) j) e

-- ---- the nearest multiple, moved by an even number of units
nearest_shift : (c w : ℕ) (o : Ordering) → c % 2 ≡ 0 → nearest (w + c) o ≡ nearest w o + c
nearest_shift c w Ordering.lt e = refl
nearest_shift c w Ordering.eq e = omega arith
nearest_shift c w Ordering.gt e = omega arith

pub closest_shift : (n u c : ℕ) → 0 < u → c % 2 ≡ 0 → closest (n + c * u) u ≡ closest n u + c
closest_shift n u c U e =
    ap (λ (r : ℕ). nearest ((n + c * u) / u) (compare (r * 2) u)) (add-mul-mod_self_right n c u)
    ∙ ap (λ (q : ℕ). nearest q (compare (n % u * 2) u)) (add-mul-div_right n c U)
    ∙ nearest_shift c (n / u) (compare (n % u * 2) u) e

-- ---- the pattern of q * 2 ^ k units
to_bits_is : (f : Format) (s : Bool) (m : ℕ) (e : ℤ) (n : ℕ) → m * up e * 2 ^ low f / down e ≡ n
    → to_bits f (fin s m e) ≡ cond s (top f) 0 + (size n - prec f) * hid f + n / 2 ^ (size n - prec f)
unfolding to_bits
to_bits_is f s m e n p = ap (λ (x : ℕ). cond s (top f) 0 + (size x - prec f) * hid f + x / 2 ^ (size x - prec f)) p

pub to_bits_val : (f : Format) (x : Float) (s : Bool) (a : ℕ) → HasValue x s a (2 ^ low f)
    → to_bits f x ≡ cond s (top f) 0 + (size a - prec f) * hid f + a / 2 ^ (size a - prec f)
to_bits_val f x s a h =
    with_value (λ x. to_bits f x ≡ cond s (top f) 0 + (size a - prec f) * hid f + a / 2 ^ (size a - prec f)) x s a (2 ^ low f) h
    (λ m e p. to_bits_is f s m e a (ap (λ (x : ℕ). x / down e) p ∙ mul-div_cancel a (down_pos e)))

twice_hid : (p : ℕ) → 0 < p → 2 ^ p ≡ 2 * 2 ^ (p - 1)
twice_hid p h = ap (λ (x : ℕ). 2 ^ x) (omega arith) ∙ pow-succ' 2 (p - 1)

-- the field and the digits that `to_bits` writes for a
abbrev pub written : ℕ → ℕ → ℕ
written p a = (size a - p) * 2 ^ (p - 1) + a / 2 ^ (size a - p)

written_at : (p a k q : ℕ) → size a - p ≡ k → a ≡ q * 2 ^ k → written p a ≡ k * 2 ^ (p - 1) + q
written_at p a k q d e =
    ap (λ (j : ℕ). j * 2 ^ (p - 1) + a / 2 ^ j) d ∙ ap (λ (x : ℕ). k * 2 ^ (p - 1) + x / 2 ^ k) e ∙ ap (λ (x : ℕ). k * 2 ^ (p - 1) + x) (mul-div_cancel q (pow_pos k))

pub written_is : (p q k : ℕ) → 0 < p → q ≤ 2 ^ p → (k ≡ 0) ⊎ (2 ^ (p - 1) ≤ q) → written p (q * 2 ^ k) ≡ k * 2 ^ (p - 1) + q
written_is p q k P hi lo = elim (eq-or-lt_of_le hi) [
  | inl e ↦
      let a = q * 2 ^ k in
      let e1 : a ≡ 2 ^ (p - 1) * 2 ^ suc k =
      ap (λ (x : ℕ). x * 2 ^ k) (e ∙ twice_hid p P) ∙ omega arith ∙ ap (λ (x : ℕ). 2 ^ (p - 1) * x) (sym (pow-succ' 2 k)) in
      let e2 : a ≡ 2 ^ (p + k) = ap (λ (x : ℕ). x * 2 ^ k) e ∙ sym (pow-add 2 p k) in
      written_at p a (suc k) (2 ^ (p - 1))
      (omega (arith, size_gt a (p + k) (le_of_eq (sym e2)), size-le a (suc (p + k)) (lt_of_le_of_lt (le_of_eq e2) (pow-lt (le_refl (suc (p + k))))))) e1
      ∙ omega arith
      ∙ ap (λ (x : ℕ). k * 2 ^ (p - 1) + x) (sym (e ∙ twice_hid p P))
  | inr l ↦ written_at p (q * 2 ^ k) k q (below l lo) refl
]
  where
    below : q < 2 ^ p → (k ≡ 0) ⊎ (2 ^ (p - 1) ≤ q) → size (q * 2 ^ k) - p ≡ k
    below l (inl z) = subst (λ (j : ℕ). size (q * 2 ^ j) - p ≡ j) (sym z) (omega (arith, size-le (q * 2 ^ 0) p (subst (λ (x : ℕ). x < 2 ^ p) (sym (mul-one q)) l)))
    below l (inr g) = size_drop p (q * 2 ^ k) k P (le_trans (le_of_eq (pow-add 2 (p - 1) k)) (mul-le-mul_right (2 ^ k) g)) (shl_lt p k l)

-- ---- where it overflows the pattern is the infinity's
-- d is how far suc k is above 2 * e
full : (e h k q d : ℕ) → suc k ≡ 2 * e + d → 0 < h → h ≤ q → q ≤ 2 * h → (d ≡ 0 → 2 * h ≤ q) → k * h + q ≤ (2 * e + 1) * h → k * h + q ≡ (2 * e + 1) * h
full e h k q zero s p lo hi big fit = let f : 2 * h ≤ q = big refl in omega (arith, ap (λ (x : ℕ). x * h) s)
full e h k q (suc zero) s p lo hi big fit = omega (arith, ap (λ (x : ℕ). x * h) s)
full e h k q (suc (suc d)) s p lo hi big fit = omega (arith, ap (λ (x : ℕ). x * h) s)

to_bits_inf : (f : Format) (s : Bool) → to_bits f (inf s) ≡ cond s (top f) 0 + ones f * hid f
unfolding to_bits
to_bits_inf f s = refl

pub pattern : (f : Format) (s : Bool) (q k : ℕ) → q ≤ 2 ^ prec f → (k ≡ 0) ⊎ (hid f ≤ q) → k * hid f + q ≤ ones f * hid f
    → of_bits f (cond s (top f) 0 + (k * hid f + q)) ≡ units f s q k
unfolding units
pattern f s q k hi lo fit = go (ltb (q * 2 ^ k) over) (ltb→lt (q * 2 ^ k) over) (nltb→le (q * 2 ^ k) over)
  where
    p : ℕ
    p = prec f

    over : ℕ
    over = 2 ^ (low f + suc (emax f))

    P : 0 < prec f
    P = two-le_pos (prec f) (two f)

    go : (b : Bool) → (T b → q * 2 ^ k < 2 ^ (low f + suc (emax f))) → (T (not b) → 2 ^ (low f + suc (emax f)) ≤ q * 2 ^ k)
        → of_bits f (cond s (top f) 0 + (k * hid f + q)) ≡ cond b (odd (suc (prec f)) s q k (low f)) (inf s)
    go true h g =
        let v = odd (suc (prec f)) s q k (low f) in
        let a = q * 2 ^ k in
        ap (of_bits f)
        (sym (to_bits_val f v s a (odd_sign (suc (prec f)) s q k (low f))
        ∙ add_assoc (cond s (top f) 0) ((size a - prec f) * hid f) (a / 2 ^ (size a - prec f))
        ∙ ap (λ (x : ℕ). cond s (top f) 0 + x) (written_is (prec f) q k P hi lo)))
        ∙ of_bits-to_bits f v (odd-fits f (suc (prec f)) s q k (lt_of_le_of_lt hi (pow-lt (le_refl (suc (prec f))))) hi (h tt))
    go false h g =
        let up_to : low f + suc (emax f) ≤ prec f + k = pow_le_back (low f + suc (emax f)) (prec f + k) (le_trans (g tt) (le_trans (mul-le-mul_right (2 ^ k) hi) (le_of_eq (sym (pow-add 2 (prec f) k))))) in
        let k-ge : 2 * emax f ≤ suc k = omega (arith, two f) in
        let d = (le_dest k-ge).0 in
        let sk : suc k ≡ 2 * emax f + d = sym (le_dest k-ge).1 in
        let q-ge : hid f ≤ q = elim lo [ inl z ↦ absurd (omega (arith, two f, reach f)) | inr l ↦ l ] in
        let whole : d ≡ 0 → 2 * hid f ≤ q =
        λ z. le_trans (le_of_eq (sym (twice_hid (prec f) P)))
        (le_of_mul-le-mul_right (le_trans (le_of_eq (sym (pow-add 2 (prec f) k) ∙ ap (λ (x : ℕ). 2 ^ x) (omega (arith, two f, sk ∙ ap (λ (x : ℕ). 2 * emax f + x) z)))) (g tt)) (pow_pos k)) in
        ap (of_bits f)
        (ap (λ (x : ℕ). cond s (top f) 0 + x) (full (emax f) (hid f) k q d sk (pow_pos (prec f - 1)) q-ge (le_trans hi (le_of_eq (twice_hid (prec f) P))) whole fit) ∙ sym (to_bits_inf f s))
        ∙ of_bits-to_bits f (inf s) (inf-fits f s)

pub pattern_no_nan : (f : Format) (s : Bool) (q k : ℕ) → q ≤ 2 ^ prec f → (k ≡ 0) ⊎ (hid f ≤ q) → k * hid f + q ≤ ones f * hid f
    → T (not (nan_bits f (cond s (top f) 0 + (k * hid f + q))))
pattern_no_nan f s q k hi lo fit =
    rw (nan_bits_is f (cond s (top f) 0 + (k * hid f + q)), pattern f s q k hi lo fit) (signed_number s (units f s q k) (units_signed f s q k))
