-- Results of operations on bounded values are finite and bounded. Assumes nothing.
--     Within                                    x is finite, and at most 2 ^ k in size
--     within_more, within_finite, within_no_nan  so it is with any larger bound, and it is finite and no NaN
--     within_held                               so one that a format holds is a finite value of it
--     value_within                              the bound of a value that is known as a fraction
--     neg_within, abs_within                    the negative and the size are as large
--     min_within, max_within, median_within     what is chosen keeps the bound of all
--     within_of_le, le_of_within                the bound as a comparison
--     between_within, between_strictly          what lies between two bounded values is bounded, and what lies strictly between any two finite
--     round_within, narrow_within               rounding keeps a bound up to the format's, and narrowing one of up to 2 ^ 127
--     add_within, sub_within                    a sum and a difference of two of at most 2 ^ n are at most 2 ^ (n + 1)
--     mul_within                                a product of one of at most 2 ^ j and one of at most 2 ^ k is at most 2 ^ (j + k)
--     mix_within                                a mix of two of at most 2 ^ k with a weight from 0 to 1 is at most 2 ^ (k + 1)
use Rattle.std.proofs.Common.{ℕ, suc, ◌+◌, ◌*◌, ◌^◌, ◌<◌, ◌≤◌, Bool, true, false, not, T, ℤ, pos, sym, refl, ap, ◌∙◌, subst, true≢false, zero-le, le_trans, le_of_eq, mul-le-mul_right, zero-lt-suc, mul-le-mul, mul-pos, one-mul, zero-add, mul-one, mul_right_comm, le_of_mul-le-mul_right, arith, lt→ltb, pow_mono, pow-add}
use native.Mathlib.Nat.{suc-le-suc_iff, mul-mul-mul_comm}
use lib.Pow.{pow-lt}
use lib.Ieee.{Float, nan, inf, fin, Format, binary32, binary64, emax, up, down, unlike, round, add, sub, mul, neg, le, lt, is_nan, fits, of_bits}
use lib.Ieee.Fits.{down_pos}
use lib.Ieee.Order.{round_mono}
use lib.Ieee.Exact.{HasValue}
use Rattle.numbers.specs.Constants.{zero_of, one_of}
use Rattle.numbers.specs.Rounding.{narrow_of}
use Rattle.numbers.specs.Nearest.{sum_size, sum_sign}
use Rattle.numbers.specs.Whole.{Finite}
use Rattle.numbers.specs.Scalar.{mix_of, min_of, max_of, median_of, abs_of}
use Rattle.numbers.proofs.floats.Differences.{summed, sum_size_law, round_neg, Signed, round_signed}
use Rattle.numbers.proofs.floats.Values.{with_value}
use Rattle.numbers.proofs.Laws.Order.{AtMost, nought, one, IsFinite, finite_number, le→at_most, at_most→le, number_right, le_of_lt, not_below, not_above}
use Rattle.numbers.proofs.Laws.Monotone.{rest_lo, rest_hi}
use Rattle.numbers.proofs.Laws.Exact.{round_value}
use Rattle.numbers.proofs.Laws.Scalar.{min_keeps, max_keeps, median_keeps}

abbrev pub Within : ℕ → Float → Type 0
Within k nan = ⊥
Within k (inf s) = ⊥
Within k (fin s m e) = m * up e ≤ 2 ^ k * down e

within_cases : (P : Float → Type 0) (k : ℕ) (x : Float) → Within k x → ((s : Bool) (m : ℕ) (e : ℤ) → m * up e ≤ 2 ^ k * down e → P (fin s m e)) → P x
within_cases P k nan w c = absurd w
within_cases P k (inf s) w c = absurd w
within_cases P k (fin s m e) w c = c s m e w

pub within_more : (j k : ℕ) (x : Float) → j ≤ k → Within j x → Within k x
within_more j k x h w = within_cases (Within k) j x w (λ s m e l. le_trans l (mul-le-mul_right (down e) (pow_mono h)))

pub within_finite : (k : ℕ) (x : Float) → Within k x → IsFinite x
within_finite k x w = within_cases IsFinite k x w (λ s m e l. tt)

pub within_no_nan : (k : ℕ) (x : Float) → Within k x → T (not (is_nan x))
within_no_nan k x w = finite_number x (within_finite k x w)

pub within_held : (k : ℕ) (f : Format) (x : Float) → Within k x → T (fits f x) → Finite f x
within_held k f x w = within_cases (λ x. T (fits f x) → Finite f x) k x w (λ s m e l p. p)

pub value_within : (k : ℕ) (x : Float) (s : Bool) (a c : ℕ) → 0 < c → HasValue x s a c → a ≤ 2 ^ k * c → Within k x
value_within k x s a c C h l = with_value (Within k) x s a c h (λ m e q. le_of_mul-le-mul_right (le_trans (le_of_eq q) (le_trans (mul-le-mul_right (down e) l) (le_of_eq (mul_right_comm (2 ^ k) c (down e))))) C)

-- ---- signs and selection
pub neg_within : (k : ℕ) (x : Float) → Within k x → Within k (neg x)
unfolding neg
neg_within k x w = within_cases (λ x. Within k (neg x)) k x w (λ s m e l. l)

pub abs_within : (k : ℕ) (x : Float) → Within k x → Within k (abs_of x)
unfolding abs_of
abs_within k x w = within_cases (λ x. Within k (abs_of x)) k x w (λ s m e l. l)

pub min_within : (k : ℕ) (x y : Float) → Within k x → Within k y → Within k (min_of x y)
min_within k x y = min_keeps (Within k) x y

pub max_within : (k : ℕ) (x y : Float) → Within k x → Within k y → Within k (max_of x y)
max_within k x y = max_keeps (Within k) x y

pub median_within : (k : ℕ) (a b c : Float) → Within k a → Within k b → Within k c → Within k (median_of a b c)
median_within k a b c = median_keeps (Within k) a b c

-- ---- from comparisons
pub within_of_le : (k : ℕ) (x : Float) → T (le (abs_of x) (fin false 1 (pos k))) → Within k x
unfolding abs_of
within_of_le k nan h = unfold le in h
within_of_le k (inf s) h = unfold le in h
within_of_le k (fin s m e) h = omega (arith, le→at_most false m e false 1 (pos k) h)

pub le_of_within : (k : ℕ) (x : Float) → Within k x → T (le (abs_of x) (fin false 1 (pos k)))
unfolding abs_of
le_of_within k x w = within_cases (λ x. T (le (abs_of x) (fin false 1 (pos k)))) k x w (λ s m e l. at_most→le false m e false 1 (pos k) (omega arith))

pub between_within : (k : ℕ) (lo x hi : Float) → Within k lo → Within k hi → T (le lo x) → T (le x hi) → Within k x
between_within k nan x hi v w h g = absurd v
between_within k (inf s) x hi v w h g = absurd v
between_within k (fin s m e) x nan v w h g = absurd w
between_within k (fin s m e) x (inf t) v w h g = absurd w
between_within k (fin s m e) nan (fin t n d) v w h g = unfold le in g
between_within k (fin s m e) (inf true) (fin t n d) v w h g = absurd (unfold le in h)
between_within k (fin s m e) (inf false) (fin t n d) v w h g = absurd (unfold le in g)
between_within k (fin s m e) (fin false o q) (fin t n d) v w h g =
    le_of_mul-le-mul_right (le_trans (up_to t (o * up q * down d) (n * up d * down q) (le→at_most false o q t n d g)) (le_trans (mul-le-mul_right (down q) w) (le_of_eq (mul_right_comm (2 ^ k) (down d) (down q))))) (down_pos d)
  where
    up_to : (t : Bool) (a b : ℕ) → AtMost false a t b → a ≤ b
    up_to true a b h = omega arith
    up_to false a b h = omega arith
between_within k (fin s m e) (fin true o q) (fin t n d) v w h g =
    le_of_mul-le-mul_right (le_trans (up_to s (m * up e * down q) (o * up q * down e) (le→at_most s m e true o q h)) (le_trans (mul-le-mul_right (down q) v) (le_of_eq (mul_right_comm (2 ^ k) (down e) (down q))))) (down_pos e)
  where
    up_to : (s : Bool) (a b : ℕ) → AtMost s a true b → b ≤ a
    up_to true a b h = omega arith
    up_to false a b h = omega arith

pub between_strictly : (lo x hi : Float) → T (lt lo x) → T (lt x hi) → IsFinite x
between_strictly lo nan hi h g = unfold is_nan in number_right lo nan (le_of_lt lo nan h)
between_strictly lo (inf true) hi h g = not_below lo h
between_strictly lo (inf false) hi h g = not_above hi g
between_strictly lo (fin t n d) hi h g = tt

-- ---- rounding
power_lt : (k n : ℕ) → k ≤ n → 1 * 2 ^ k < 2 ^ suc n * 1
power_lt k n h = subst (λ (x : ℕ). x < 2 ^ suc n * 1) (sym (one-mul (2 ^ k))) (subst (λ (x : ℕ). 2 ^ k < x) (sym (mul-one (2 ^ suc n))) (pow-lt (suc-le-suc_iff.1 h)))

power_fits : (f : Format) (k : ℕ) → k ≤ emax f → T (fits f (fin false 1 (pos k)))
unfolding fits
power_fits binary32 k h = lt→ltb (1 * 2 ^ k) (2 ^ 128 * 1) (power_lt k 127 h)
power_fits binary64 k h = lt→ltb (1 * 2 ^ k) (2 ^ 1024 * 1) (power_lt k 1023 h)

round_positive : (f : Format) (k a c : ℕ) → 0 < c → k ≤ emax f → a ≤ 2 ^ k * c → Within k (round f false a c)
round_positive f k a c C K h =
    go (round f false a c) (round_signed f false a c)
    (subst (λ (v : Float). T (le (round f false a c) v)) (round_value f (fin false 1 (pos k)) false (2 ^ k) 1 (zero-lt-suc 0) (power_fits f k K) (refl, omega arith))
    (round_mono f a c (2 ^ k) 1 C (zero-lt-suc 0) (le_trans (le_of_eq (mul-one a)) h)))
  where
    go : (x : Float) → Signed false x → T (le x (fin false 1 (pos k))) → Within k x
    go nan s l = absurd s
    go (inf true) s l = absurd (true≢false s)
    go (inf false) s l = absurd (unfold le in l)
    go (fin true m e) s l = absurd (true≢false s)
    go (fin false m e) s l = omega (arith, le→at_most false m e false 1 (pos k) l)

pub round_within : (f : Format) (k : ℕ) (s : Bool) (a c : ℕ) → 0 < c → k ≤ emax f → a ≤ 2 ^ k * c → Within k (round f s a c)
round_within f k false a c C K h = round_positive f k a c C K h
round_within f k true a c C K h = subst (Within k) (sym (round_neg f a c)) (neg_within k (round f false a c) (round_positive f k a c C K h))

pub narrow_within : (k : ℕ) (x : Float) → k ≤ 127 → Within k x → Within k (narrow_of x)
unfolding narrow_of
narrow_within k x K w = within_cases (λ x. Within k (narrow_of x)) k x w (λ s m e l. round_within binary32 k s (m * up e) (down e) (down_pos e) K l)

-- ---- arithmetic
pub add_within : (f : Format) (j k n : ℕ) (x y : Float) → j ≤ n → k ≤ n → n + 1 ≤ emax f → Within j x → Within k y → Within (n + 1) (add f x y)
unfolding add
add_within f j k n x y J K N v w =
    within_cases (λ x. Within (n + 1) (add f x y)) n x (within_more j n x J v)
    (λ s m e v. within_cases (λ y. Within (n + 1) (add f (fin s m e) y)) n y (within_more k n y K w) (λ t o d w.
    let a = m * up e * down d in
    let b = o * up d * down e in
    let c = down e * down d in
    let r = sum_size s a t b in
    subst (Within (n + 1)) (sym (summed f s a t b c).is)
    (round_within f (n + 1) (sum_sign s a t b) r c (mul-pos (down_pos e) (down_pos d)) N
    (subst (λ (p : ℕ). r ≤ p * c) (sym (pow-add 2 n 1)) (total r (2 ^ n) (m * up e) (down e) (o * up d) (down d) v w (sum_size_law s a t b))))))
  where
    total : (r p x c y d : ℕ) → x ≤ p * c → y ≤ p * d → r ≤ x * d + y * c → r ≤ p * 2 * (c * d)
    total r p x c y d h g l = omega (arith, mul-le-mul_right d h, mul-le-mul_right c g)

pub sub_within : (f : Format) (j k n : ℕ) (x y : Float) → j ≤ n → k ≤ n → n + 1 ≤ emax f → Within j x → Within k y → Within (n + 1) (sub f x y)
unfolding sub
sub_within f j k n x y J K N v w = add_within f j k n x (neg y) J K N v (neg_within k y w)

pub mul_within : (f : Format) (j k : ℕ) (x y : Float) → j + k ≤ emax f → Within j x → Within k y → Within (j + k) (mul f x y)
unfolding mul
mul_within f j k x y N v w =
    within_cases (λ x. Within (j + k) (mul f x y)) j x v
    (λ s m e v. within_cases (λ y. Within (j + k) (mul f (fin s m e) y)) k y w
    (λ t n d w. round_within f (j + k) (unlike s t) (m * up e * (n * up d)) (down e * down d) (mul-pos (down_pos e) (down_pos d)) N
    (le_trans (mul-le-mul v w) (le_of_eq (mul-mul-mul_comm (2 ^ j) (down e) (2 ^ k) (down d) ∙ ap (λ (p : ℕ). p * (down e * down d)) (sym (pow-add 2 j k)))))))

-- ---- mixing
weight_within : (w : Float) → T (le nought w) → T (le w one) → Within 0 w
weight_within w lo hi = between_within 0 nought w one zero-le (le_of_eq refl) lo hi

pub mix_within : (k : ℕ) (a b w : Float) → k + 1 ≤ 127 → Within k a → Within k b → T (le (zero_of binary64) w) → T (le w (one_of binary64)) → Within (k + 1) (mix_of a b w)
unfolding mix_of of_bits
mix_within k a b w K v u lo hi =
    let r = sub binary64 one w in
    narrow_within (k + 1) (add binary64 (mul binary64 r a) (mul binary64 w b)) K
    (add_within binary64 k k k (mul binary64 r a) (mul binary64 w b) (le_of_eq refl) (le_of_eq refl) (omega arith) (times r a (weight_within r (rest_lo w lo hi) (rest_hi w lo hi)) v) (times w b (weight_within w lo hi) u))
  where
    times : (x y : Float) → Within 0 x → Within k y → Within k (mul binary64 x y)
    times x y v w = subst (λ (j : ℕ). Within j (mul binary64 x y)) (zero-add k) (mul_within binary64 0 k x y (omega arith) v w)
