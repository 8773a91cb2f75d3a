-- Quotients that are not inside. Assumes nothing.
use Rattle.std.proofs.Common.{◌≡◌, ℕ, zero, suc, ◌+◌, ◌*◌, ◌^◌, ◌<◌, ◌≤◌, Bool, true, false, cond, not, ◌&&◌, T, eqb, ℤ, pos, negsuc, sym, refl, ap, ◌∙◌, subst, inl, inr, zero-lt-suc, mul-pos, zero-mul, arith}
use lib.Dec.{not_T, eqb-suc-zero}
use lib.Ieee.{Float, nan, inf, fin, Format, binary32, binary64, up, down, unlike, round, neg, add, sub, div, le, lt, is_nan, fits, of_bits}
use lib.Ieee.Fits.{up_pos, down_pos, and_l, and_r}
use lib.Ieee.Bits.{is_false}
use Rattle.ranges.specs.Constants.{epsilon, one_less_epsilon}
use Rattle.numbers.proofs.Laws.Order as Order
use Rattle.numbers.proofs.Laws.Order.{plus, minus, AtMost, nought, IsFinite}
use Rattle.numbers.proofs.Laws.Monotone.{round_at_most, sub_number, sub_not_negative, sub_mono_left, sub_anti_right}
use Rattle.numbers.proofs.Laws.Exact.{round_held, sub_exact_eq, add_zero_eq}
use Rattle.numbers.proofs.floats.Differences.{round_zero}
use Rattle.detectors.specs.Pairs.{inside}
use Rattle.detectors.specs.Linear.{crossing}

-- What is at most 0 is not inside.
low_outside : (t : Float) → T (le t nought) → inside t ≡ false
unfolding inside
low_outside t h = is_false (lt epsilon t && lt t one_less_epsilon) (not_T (lt epsilon t && lt t one_less_epsilon) (λ g. Order.lt_not_le epsilon t (and_l (lt epsilon t) (lt t one_less_epsilon) g) (Order.le_trans t nought epsilon h (unfold le of_bits in tt))))

-- What is at least 1 − 0.01 is not inside.
high_outside : (t : Float) → T (le one_less_epsilon t) → inside t ≡ false
unfolding inside
high_outside t h = is_false (lt epsilon t && lt t one_less_epsilon) (not_T (lt epsilon t && lt t one_less_epsilon) (λ g. Order.lt_not_le t one_less_epsilon (and_r (lt epsilon t) (lt t one_less_epsilon) g) h))

pub nan_outside : inside nan ≡ false
unfolding inside lt of_bits
nan_outside = refl

pub inf_outside : (s : Bool) → inside (inf s) ≡ false
unfolding inside lt of_bits
inf_outside true = refl
inf_outside false = refl

pub zero_outside : (s : Bool) → inside (fin s 0 (pos 0)) ≡ false
unfolding inside lt of_bits
zero_outside true = refl
zero_outside false = refl

zero_divisor : (b u : Bool) → inside (cond b nan (inf u)) ≡ false
zero_divisor true u = nan_outside
zero_divisor false u = inf_outside u

-- the constant, as a fraction
abbrev edge : Float
edge = fin false 4458563631096791 (negsuc 51)

edge_is : one_less_epsilon ≡ edge
unfolding of_bits
edge_is = refl

edge_fits : T (fits binary64 edge)
unfolding fits
edge_fits = tt

-- a fraction that is at least 1981 / 2000 rounds to what is not inside
round_high : (a c : ℕ) → 0 < c → 1981 * c ≤ 2000 * a → inside (round binary64 false a c) ≡ false
round_high a c C h = high_outside (round binary64 false a c)
    (subst (λ (v : Float). T (le v (round binary64 false a c))) (round_held binary64 false 4458563631096791 (negsuc 51) edge_fits ∙ sym edge_is)
    (round_at_most binary64 false 4458563631096791 (2 ^ 52) false a c (zero-lt-suc 4503599627370495) C (omega arith)))

round_low : (s : Bool) (a c : ℕ) → 0 < c → AtMost s a false 0 → inside (round binary64 s a c) ≡ false
round_low s a c C h = low_outside (round binary64 s a c)
    (subst (λ (v : Float). T (le (round binary64 s a c) v)) (round_zero binary64 false 1 (zero-lt-suc 0))
    (round_at_most binary64 s a c false 0 1 C (zero-lt-suc 0) (go s a c h)))
  where
    go : (s : Bool) (a c : ℕ) → AtMost s a false 0 → AtMost s (a * 1) false (0 * c)
    go true a c h = omega arith
    go false a c h = omega (arith, zero-mul c)

-- ---- quotients of finite values
pub fin_div : (s : Bool) (m : ℕ) (e : ℤ) (t : Bool) (n : ℕ) (d : ℤ) → (0 < n → inside (round binary64 (unlike s t) (m * up e * down d) (n * up d * down e)) ≡ false) → inside (div binary64 (fin s m e) (fin t n d)) ≡ false
unfolding div
fin_div s m e t zero d h = zero_divisor (eqb m 0) (unlike s t)
fin_div s m e t (suc n) d h =
    subst (λ (b : Bool). inside (cond b (cond (eqb m 0) nan (inf (unlike s t))) (round binary64 (unlike s t) (m * up e * down d) (suc n * up d * down e))) ≡ false) (sym (eqb-suc-zero n)) (h (zero-lt-suc n))

divisor_pos : (n : ℕ) (d e : ℤ) → 0 < n → 0 < n * up d * down e
divisor_pos n d e h = mul-pos (mul-pos h (up_pos d)) (down_pos e)

pub fin_high : (s : Bool) (m : ℕ) (e : ℤ) (t : Bool) (n : ℕ) (d : ℤ) → unlike s t ≡ false → 1981 * (n * up d * down e) ≤ 2000 * (m * up e * down d) → inside (div binary64 (fin s m e) (fin t n d)) ≡ false
fin_high s m e t n d u h = fin_div s m e t n d (λ p. subst (λ (b : Bool). inside (round binary64 b (m * up e * down d) (n * up d * down e)) ≡ false) (sym u) (round_high (m * up e * down d) (n * up d * down e) (divisor_pos n d e p) h))

pub fin_low : (s : Bool) (m : ℕ) (e : ℤ) (t : Bool) (n : ℕ) (d : ℤ) → (0 < n → AtMost (unlike s t) (m * up e * down d) false 0) → inside (div binary64 (fin s m e) (fin t n d)) ≡ false
fin_low s m e t n d h = fin_div s m e t n d (λ p. round_low (unlike s t) (m * up e * down d) (n * up d * down e) (divisor_pos n d e p) (h p))

-- ---- quotients by signs and order
-- ±a of the sign s at most 0
nonpositive : (s : Bool) (m : ℕ) (e : ℤ) (c : ℕ) → T (le (fin s m e) nought) → AtMost s (m * up e * c) false 0
nonpositive true m e c h = omega arith
nonpositive false m e c h = omega (arith, ap (λ (x : ℕ). x * c) (zero m e h), zero-mul c)
  where
    zero : (m : ℕ) (e : ℤ) → T (le (fin false m e) nought) → m * up e ≡ 0
    zero m e h = omega (arith, Order.le→at_most false m e false 0 (pos 0) h, zero-mul (down e))

nonnegative : (s : Bool) (m : ℕ) (e : ℤ) (c : ℕ) → T (le nought (fin s m e)) → AtMost (not s) (m * up e * c) false 0
nonnegative false m e c h = omega arith
nonnegative true m e c h = omega (arith, ap (λ (x : ℕ). x * c) (zero m e h), zero-mul c)
  where
    zero : (m : ℕ) (e : ℤ) → T (le nought (fin true m e)) → m * up e ≡ 0
    zero m e h = omega (arith, Order.le→at_most false 0 (pos 0) true m e h, zero-mul (down e))

-- a sign of what is above 0
positive_sign : (t : Bool) (n : ℕ) (d : ℤ) → 0 < n → T (le nought (fin t n d)) → t ≡ false
positive_sign false n d p h = refl
positive_sign true n d p h = absurd (no (n * up d) (mul-pos p (up_pos d)) (omega (arith, Order.le→at_most false 0 (pos 0) true n d h, zero-mul (down d))))
  where
    no : (x : ℕ) → 0 < x → x ≡ 0 → ⊥
    no x p h = omega arith

negative_sign : (t : Bool) (n : ℕ) (d : ℤ) → 0 < n → T (le (fin t n d) nought) → t ≡ true
negative_sign true n d p h = refl
negative_sign false n d p h = absurd (no (n * up d) (mul-pos p (up_pos d)) (omega (arith, Order.le→at_most false n d false 0 (pos 0) h, zero-mul (down d))))
  where
    no : (x : ℕ) → 0 < x → x ≡ 0 → ⊥
    no x p h = omega arith

unlike_f : (s : Bool) → unlike s false ≡ s
unlike_f true = refl
unlike_f false = refl

unlike_t : (s : Bool) → unlike s true ≡ not s
unlike_t true = refl
unlike_t false = refl

-- x / y with x ≤ 0 ≤ y
pub quotient_low : (x y : Float) → T (le x nought) → T (le nought y) → inside (div binary64 x y) ≡ false
quotient_low nan y h k = absurd (unfold le in h)
quotient_low (inf s) nan h k = unfold div in nan_outside
quotient_low (inf s) (inf t) h k = unfold div in nan_outside
quotient_low (inf s) (fin t n d) h k = unfold div in inf_outside (unlike s t)
quotient_low (fin s m e) nan h k = unfold div in nan_outside
quotient_low (fin s m e) (inf t) h k = unfold div in zero_outside (unlike s t)
quotient_low (fin s m e) (fin t n d) h k =
    fin_low s m e t n d (λ p. subst (λ (b : Bool). AtMost b (m * up e * down d) false 0) (sym (ap (unlike s) (positive_sign t n d p k) ∙ unlike_f s)) (nonpositive s m e (down d) h))

-- x / y with y ≤ 0 ≤ x
pub quotient_low_neg : (x y : Float) → T (le nought x) → T (le y nought) → inside (div binary64 x y) ≡ false
quotient_low_neg nan y h k = absurd (unfold le in h)
quotient_low_neg (inf s) nan h k = unfold div in nan_outside
quotient_low_neg (inf s) (inf t) h k = unfold div in nan_outside
quotient_low_neg (inf s) (fin t n d) h k = unfold div in inf_outside (unlike s t)
quotient_low_neg (fin s m e) nan h k = unfold div in nan_outside
quotient_low_neg (fin s m e) (inf t) h k = unfold div in zero_outside (unlike s t)
quotient_low_neg (fin s m e) (fin t n d) h k =
    fin_low s m e t n d (λ p. subst (λ (b : Bool). AtMost b (m * up e * down d) false 0) (sym (ap (unlike s) (negative_sign t n d p k) ∙ unlike_t s)) (nonnegative s m e (down d) h))

-- x / y with 0 ≤ y ≤ x
pub quotient_high : (x y : Float) → T (le nought y) → T (le y x) → inside (div binary64 x y) ≡ false
quotient_high nan y h k = unfold div in nan_outside
quotient_high (inf s) nan h k = unfold div in nan_outside
quotient_high (inf s) (inf t) h k = unfold div in nan_outside
quotient_high (inf s) (fin t n d) h k = unfold div in inf_outside (unlike s t)
quotient_high (fin s m e) nan h k = unfold div in nan_outside
quotient_high (fin s m e) (inf t) h k = unfold div in zero_outside (unlike s t)
quotient_high (fin s m e) (fin t zero d) h k = fin_div s m e t 0 d (λ p. absurd (no p))
  where
    no : 0 < 0 → ⊥
    no p = omega arith
quotient_high (fin s m e) (fin t (suc n) d) h k =
    let T' = positive_sign t (suc n) d (zero-lt-suc n) h in
    let k' = subst (λ (b : Bool). T (le (fin b (suc n) d) (fin s m e))) T' k in
    let S' = over s (suc n * up d * down e) (m * up e * down d) (divisor_pos (suc n) d e (zero-lt-suc n)) (Order.le→at_most false (suc n) d s m e k') in
    fin_high s m e t (suc n) d ((λ i. unlike (S'.0 i) (T' i)) ∙ refl) (omega (arith, S'.1))
  where
    over : (s : Bool) (b a : ℕ) → 0 < b → AtMost false b s a → (s ≡ false) × (b ≤ a)
    over true b a p h = absurd (no b a p h)
      where
        no : (b a : ℕ) → 0 < b → b + a ≤ 0 + 0 → ⊥
        no b a p h = omega arith
    over false b a p h = (refl, omega arith)

-- x / y with x ≤ y ≤ 0
pub quotient_high_neg : (x y : Float) → T (le y nought) → T (le x y) → inside (div binary64 x y) ≡ false
quotient_high_neg nan y h k = unfold div in nan_outside
quotient_high_neg (inf s) nan h k = unfold div in nan_outside
quotient_high_neg (inf s) (inf t) h k = unfold div in nan_outside
quotient_high_neg (inf s) (fin t n d) h k = unfold div in inf_outside (unlike s t)
quotient_high_neg (fin s m e) nan h k = unfold div in nan_outside
quotient_high_neg (fin s m e) (inf t) h k = unfold div in zero_outside (unlike s t)
quotient_high_neg (fin s m e) (fin t zero d) h k = fin_div s m e t 0 d (λ p. absurd (no p))
  where
    no : 0 < 0 → ⊥
    no p = omega arith
quotient_high_neg (fin s m e) (fin t (suc n) d) h k =
    let T' = negative_sign t (suc n) d (zero-lt-suc n) h in
    let k' = subst (λ (b : Bool). T (le (fin s m e) (fin b (suc n) d))) T' k in
    let S' = over s (suc n * up d * down e) (m * up e * down d) (divisor_pos (suc n) d e (zero-lt-suc n)) (Order.le→at_most s m e true (suc n) d k') in
    fin_high s m e t (suc n) d ((λ i. unlike (S'.0 i) (T' i)) ∙ refl) (omega (arith, S'.1))
  where
    over : (s : Bool) (b a : ℕ) → 0 < b → AtMost s a true b → (s ≡ true) × (b ≤ a)
    over false b a p h = absurd (no b a p h)
      where
        no : (b a : ℕ) → 0 < b → a + b ≤ 0 + 0 → ⊥
        no b a p h = omega arith
    over true b a p h = (refl, omega arith)

-- ---- (L)
zero_fits : (f : Format) → T (fits f nought)
unfolding fits
zero_fits f = tt

-- x − y ≤ 0 where x ≤ y
pub sub_not_positive : (f : Format) (x y : Float) → IsFinite x → IsFinite y → T (le x y) → T (le (sub f x y) nought)
sub_not_positive f x (fin t n d) i j h =
    let y = fin t n d in
    Order.le_trans (sub f x y) (sub f y y) nought (sub_mono_left f x y y h (sub_number f x y i j) (sub_number f y y j j))
    (Order.le_of_eq (sub f y y) nought (sub_exact_eq f y y nought (zero_fits f) (own t (n * up d) (down d))))
  where
    own : (t : Bool) (a c : ℕ) → plus false (0 * 1 * c * c) + plus t (a * 1 * c) + minus t (a * (1 * c)) ≡ plus t (a * (1 * c)) + minus false (0 * 1 * c * c) + minus t (a * 1 * c)
    own true a c = omega arith
    own false a c = omega arith
sub_not_positive f x nan i j h = elim j [ ]
sub_not_positive f x (inf _) i j h = elim j [ ]

less_nothing : (x : Float) → IsFinite x → T (fits binary32 x) → T (le (sub binary32 x nought) x) × T (le x (sub binary32 x nought))
less_nothing (fin s m e) i p =
    let x = fin s m e in
    let q = add_zero_eq binary32 x true p (unfold is_nan in tt) in
    unfold sub neg in (Order.le_of_eq (add binary32 x (fin true 0 (pos 0))) x q, Order.ge_of_eq (add binary32 x (fin true 0 (pos 0))) x q)
less_nothing nan i p = elim i [ ]
less_nothing (inf _) i p = elim i [ ]

-- The crossing of two values that are not negative is not inside.
pub crossing_outside : (dA dB : Float) → T (fits binary32 dA) → IsFinite dA → IsFinite dB → T (le nought dA) → T (le nought dB) → inside (crossing dA dB) ≡ false
unfolding crossing
crossing_outside dA dB p i j h k = elim (Order.le_total dA dB (Order.finite_number dA i) (Order.finite_number dB j)) [
  | inl l ↦ quotient_low_neg dA (sub binary32 dA dB) h (sub_not_positive binary32 dA dB i j l)
  | inr l ↦
      let y = sub binary32 dA dB in
      let n = sub_number binary32 dA dB i j in
      quotient_high dA y (sub_not_negative binary32 dA dB l n)
      (Order.le_trans y (sub binary32 dA nought) dA (sub_anti_right binary32 dA nought dB k (sub_number binary32 dA nought i tt) n) (less_nothing dA i p).0)
]

-- The crossing of two values that are not positive is not inside.
pub crossing_outside_neg : (dA dB : Float) → T (fits binary32 dA) → IsFinite dA → IsFinite dB → T (le dA nought) → T (le dB nought) → inside (crossing dA dB) ≡ false
unfolding crossing
crossing_outside_neg dA dB p i j h k = elim (Order.le_total dA dB (Order.finite_number dA i) (Order.finite_number dB j)) [
  | inr l ↦ quotient_low dA (sub binary32 dA dB) h (sub_not_negative binary32 dA dB l (sub_number binary32 dA dB i j))
  | inl l ↦
      let y = sub binary32 dA dB in
      let n = sub_number binary32 dA dB i j in
      quotient_high_neg dA y (sub_not_positive binary32 dA dB i j l)
      (Order.le_trans dA (sub binary32 dA nought) y (less_nothing dA i p).1 (sub_anti_right binary32 dA dB nought k n (sub_number binary32 dA nought i tt)))
]
