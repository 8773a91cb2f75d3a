-- Order and quotients of values that are whole numbers of units. Assumes nothing.
use Rattle.std.proofs.Common.{◌≡◌, ℕ, zero, suc, ◌+◌, ◌*◌, ◌^◌, ◌<◌, ◌≤◌, Bool, true, false, not, ◌&&◌, T, ℤ, pos, negsuc, sym, refl, ap, ◌∙◌, subst, le_of_eq, lt_of_lt_of_le, lt_irrefl, mul-le-mul_right, zero-lt-suc, mul_assoc, mul_comm, mul-pos, zero-mul, mul_right_comm, le_of_mul-le-mul_right, arith, pow_pos}
use lib.Dec.{not_T}
use lib.Ieee.{Float, nan, inf, fin, binary64, up, down, unlike, round, add, sub, div, neg, le, lt, eq, fits, of_bits}
use lib.Ieee.Fits.{up_pos, down_pos, and_l}
use lib.Ieee.Bits.{is_false}
use lib.Ieee.Exact.{HasValue}
use Rattle.numbers.specs.Constants.{zero_of}
use Rattle.ranges.specs.Constants.{epsilon, one_less_epsilon}
use Rattle.numbers.proofs.Laws.Order as Order
use Rattle.numbers.proofs.Laws.Order.{plus, minus, AtMost, nought, IsFinite}
use Rattle.numbers.proofs.Laws.Monotone.{round_at_most, add_number, sub_number, add_mono_right, sub_anti_right}
use Rattle.numbers.proofs.Laws.Exact.{round_held, add_zero_eq}
use Rattle.numbers.proofs.floats.Differences.{of_below, of_level, zero_of_law}
use Rattle.detectors.specs.Pairs.{inside}
use Rattle.detectors.proofs.orders.Outside.{nan_outside, inf_outside, fin_div, fin_high, fin_low}

pub value_finite : (x : Float) (s : Bool) (X L : ℕ) → HasValue x s X L → IsFinite x
value_finite nan s X L h = h
value_finite (inf t) s X L h = h
value_finite (fin t m e) s X L h = tt

-- ---- the order
-- ±A ≤ ±B, of multiples by L
scale_back : (s : Bool) (A : ℕ) (t : Bool) (B L : ℕ) → 0 < L → AtMost s (A * L) t (B * L) → AtMost s A t B
scale_back true A true B L P h = le_of_mul-le-mul_right (omega arith) P
scale_back true A false B L P h = omega arith
scale_back false A true B L P h = le_of_mul-le-mul_right (omega arith) P
scale_back false A false B L P h = le_of_mul-le-mul_right (omega arith) P

at_cross : (s : Bool) (X : ℕ) (t : Bool) (Y a c b d L : ℕ) → 0 < L → a * L ≡ X * c → b * L ≡ Y * d → AtMost s X t Y → AtMost s (a * d) t (b * c)
at_cross s X t Y a c b d L P e g h = scale_back s (a * d) t (b * c) L P (to s X t Y (a * d * L) (b * c * L) (c * d) (one a c d X L e) (two b c d Y L g) h)
  where
    one : (a c d X L : ℕ) → a * L ≡ X * c → a * d * L ≡ X * (c * d)
    one a c d X L h = mul_right_comm a d L ∙ ap (λ (z : ℕ). z * d) h ∙ mul_assoc X c d

    two : (b c d Y L : ℕ) → b * L ≡ Y * d → b * c * L ≡ Y * (c * d)
    two b c d Y L h = mul_right_comm b c L ∙ ap (λ (z : ℕ). z * c) h ∙ mul_assoc Y d c ∙ ap (λ (z : ℕ). Y * z) (mul_comm d c)

    to : (s : Bool) (X : ℕ) (t : Bool) (Y A B k : ℕ) → A ≡ X * k → B ≡ Y * k → AtMost s X t Y → AtMost s A t B
    to true X true Y A B k e g h = omega (arith, mul-le-mul_right k h)
    to true X false Y A B k e g h = omega arith
    to false X true Y A B k e g h = omega (arith, mul-le-mul_right k h)
    to false X false Y A B k e g h = omega (arith, mul-le-mul_right k h)

-- Values in the order of their numbers of units.
pub le_values : (x y : Float) (s : Bool) (X : ℕ) (t : Bool) (Y L : ℕ) → 0 < L → HasValue x s X L → HasValue y t Y L → AtMost s X t Y → T (le x y)
le_values nan y s X t Y L P h k l = absurd h
le_values (inf u) y s X t Y L P h k l = absurd h
le_values (fin u m e) nan s X t Y L P h k l = absurd k
le_values (fin u m e) (inf v) s X t Y L P h k l = absurd k
le_values (fin u m e) (fin v n d) s X t Y L P h k l =
    Order.at_most→le u m e v n d
    (subst (λ (b : Bool). AtMost b (m * up e * down d) v (n * up d * down e)) (sym h.0)
    (subst (λ (b : Bool). AtMost s (m * up e * down d) b (n * up d * down e)) (sym k.0)
    (at_cross s X t Y (m * up e) (down e) (n * up d) (down d) L P h.1 k.1 l)))

pub values_le : (x y : Float) (X Y L : ℕ) → 0 < L → HasValue x false X L → HasValue y false Y L → T (le x y) → X ≤ Y
values_le nan y X Y L P h k l = absurd h
values_le (inf u) y X Y L P h k l = absurd h
values_le (fin u m e) nan X Y L P h k l = absurd k
values_le (fin u m e) (inf v) X Y L P h k l = absurd k
values_le (fin u m e) (fin v n d) X Y L P h k l =
    let g = Order.le→at_most u m e v n d l in
    let g' : AtMost false (m * up e * down d) false (n * up d * down e) = subst (λ (b : Bool). AtMost false (m * up e * down d) b (n * up d * down e)) k.0 (subst (λ (b : Bool). AtMost b (m * up e * down d) v (n * up d * down e)) h.0 g) in
    le_of_mul-le-mul_right (go (m * up e) (down e) (n * up d) (down d) h.1 k.1 g') (mul-pos (down_pos e) (down_pos d))
  where
    go : (a c b d : ℕ) → a * L ≡ X * c → b * L ≡ Y * d → a * d + 0 ≤ b * c + 0 → X * (c * d) ≤ Y * (c * d)
    go a c b d e g h = omega (arith, ap (λ (z : ℕ). z * d) e, ap (λ (z : ℕ). z * c) g, mul-le-mul_right L h)

-- And back.
pub values_order : (x y : Float) (s : Bool) (X : ℕ) (t : Bool) (Y L : ℕ) → 0 < L → HasValue x s X L → HasValue y t Y L → T (le x y) → AtMost s X t Y
values_order nan y s X t Y L P h k l = absurd h
values_order (inf u) y s X t Y L P h k l = absurd h
values_order (fin u m e) nan s X t Y L P h k l = absurd k
values_order (fin u m e) (inf v) s X t Y L P h k l = absurd k
values_order (fin u m e) (fin v n d) s X t Y L P h k l =
    scale_back s X t Y L P
    (at_cross s (m * up e * down d) t (n * up d * down e) X L Y L (down e * down d) (mul-pos (down_pos e) (down_pos d)) (one (m * up e) (down e) (down d) X L h.1) (two (n * up d) (down e) (down d) Y L k.1)
    (subst (λ (b : Bool). AtMost s (m * up e * down d) b (n * up d * down e)) k.0 (subst (λ (b : Bool). AtMost b (m * up e * down d) v (n * up d * down e)) h.0 (Order.le→at_most u m e v n d l))))
  where
    one : (a c d X L : ℕ) → a * L ≡ X * c → X * (c * d) ≡ a * d * L
    one a c d X L h = sym (mul_assoc X c d) ∙ ap (λ (z : ℕ). z * d) (sym h) ∙ mul_right_comm a L d

    two : (b c d Y L : ℕ) → b * L ≡ Y * d → Y * (c * d) ≡ b * c * L
    two b c d Y L h = ap (λ (z : ℕ). Y * z) (mul_comm c d) ∙ sym (mul_assoc Y d c) ∙ ap (λ (z : ℕ). z * c) (sym h) ∙ mul_right_comm b L c

-- ---- zero
pub nought_value : (L : ℕ) → HasValue nought false 0 L
nought_value L = (refl, ap (λ (z : ℕ). z * L) (zero-mul 1) ∙ zero-mul L ∙ sym (zero-mul 1))

pub positive_value : (x : Float) (s : Bool) (X L : ℕ) → 0 < L → HasValue x s X L → T (lt (zero_of binary64) x) → (s ≡ false) × (0 < X)
unfolding lt of_bits
positive_value nan s X L P h l = absurd h
positive_value (inf u) s X L P h l = absurd h
positive_value (fin u m e) s X L P h l = go u (m * up e) (down e) h.0 h.1 (of_below false (0 * 1 * down e) u (m * up e * 1) l)
  where
    go : (u : Bool) (a c : ℕ) → u ≡ s → a * L ≡ X * c → plus false (0 * 1 * c) + minus u (a * 1) < plus u (a * 1) + minus false (0 * 1 * c) → (s ≡ false) × (0 < X)
    go true a c q e l = absurd (no a c l)
      where
        no : (a c : ℕ) → 0 * 1 * c + a * 1 < 0 + 0 → ⊥
        no a c h = omega arith
    go false a c q e l = (sym q, some X c (lt_of_lt_of_le (mul-pos (some' a c l) P) (le_of_eq e)))
      where
        some' : (a c : ℕ) → 0 * 1 * c + 0 < a * 1 + 0 → 0 < a
        some' a c h = omega arith

        some : (X c : ℕ) → 0 < X * c → 0 < X
        some zero c h = absurd (lt_irrefl 0 (lt_of_lt_of_le h (le_of_eq (zero-mul c))))
        some (suc X) c h = zero-lt-suc X

pub zero_value : (x : Float) (s : Bool) (X L : ℕ) → HasValue x s X L → T (eq x (zero_of binary64)) → X ≡ 0
unfolding eq of_bits
zero_value nan s X L h l = absurd h
zero_value (inf u) s X L h l = absurd h
zero_value (fin u m e) s X L h l = zero_of_law X (down e) (down_pos e) (sym h.1 ∙ ap (λ (z : ℕ). z * L) (go u (m * up e) (down e) (of_level u (m * up e * 1) false (0 * 1 * down e) l)) ∙ zero-mul L)
  where
    go : (u : Bool) (a c : ℕ) → plus u (a * 1) + minus false (0 * 1 * c) ≡ plus false (0 * 1 * c) + minus u (a * 1) → a ≡ 0
    go true a c h = omega arith
    go false a c h = omega arith

pub value_zero : (x : Float) (s : Bool) (X L : ℕ) → 0 < L → HasValue x s X L → X ≡ 0 → T (eq x (zero_of binary64))
unfolding of_bits
value_zero nan s X L P h l = absurd h
value_zero (inf u) s X L P h l = absurd h
value_zero (fin u m e) s X L P h l =
    let z : m ≡ 0 = zero_of_law m (up e) (up_pos e) (zero_of_law (m * up e) L P (h.1 ∙ ap (λ (z : ℕ). z * down e) l ∙ zero-mul (down e))) in
    subst (λ (n : ℕ). T (eq (fin u n e) nought)) (sym z) (Order.eq_zeros u e false (pos 0))

-- ---- with what is not negative added or taken off
pub grown : (x s : Float) → IsFinite x → T (fits binary64 x) → IsFinite s → T (le nought s) → T (le x (add binary64 x s))
grown x s i p j h =
    Order.le_trans x (add binary64 x nought) (add binary64 x s)
    (Order.ge_of_eq (add binary64 x nought) x (add_zero_eq binary64 x false p (Order.finite_number x i)))
    (add_mono_right binary64 x nought s h (add_number binary64 x nought i tt) (add_number binary64 x s i j))

pub shrunk : (x s : Float) → IsFinite x → T (fits binary64 x) → IsFinite s → T (le nought s) → T (le (sub binary64 x s) x)
shrunk x s i p j h =
    Order.le_trans (sub binary64 x s) (sub binary64 x nought) x
    (sub_anti_right binary64 x nought s h (sub_number binary64 x nought i tt) (sub_number binary64 x s i j))
    (unfold sub neg in Order.le_of_eq (add binary64 x (fin true 0 (pos 0))) x (add_zero_eq binary64 x true p (Order.finite_number x i)))

-- ---- quotients
pub div_neg_neg : (x y : Float) → div binary64 (neg x) (neg y) ≡ div binary64 x y
unfolding div neg
div_neg_neg nan y = refl
div_neg_neg (inf s) nan = refl
div_neg_neg (inf s) (inf t) = refl
div_neg_neg (inf s) (fin t n d) = ap inf (turned s t)
  where
    turned : (s t : Bool) → unlike (not s) (not t) ≡ unlike s t
    turned true true = refl
    turned true false = refl
    turned false true = refl
    turned false false = refl
div_neg_neg (fin s m e) nan = refl
div_neg_neg (fin s m e) (inf t) = ap (λ (b : Bool). fin b 0 (pos 0)) (turned s t)
  where
    turned : (s t : Bool) → unlike (not s) (not t) ≡ unlike s t
    turned true true = refl
    turned true false = refl
    turned false true = refl
    turned false false = refl
div_neg_neg (fin true m e) (fin true n d) = refl
div_neg_neg (fin true m e) (fin false n d) = refl
div_neg_neg (fin false m e) (fin true n d) = refl
div_neg_neg (fin false m e) (fin false n d) = refl

-- x / y with x ≥ z: y is Y / P, z is Z / (128 * P)
pub ratio_high : (x y z : Float) (Y Z : ℕ) → HasValue y false Y (2 ^ 30) → HasValue z false Z (2 ^ 37) → 0 < Z → T (le z x) → 1981 * (Y * 128) ≤ 2000 * Z → inside (div binary64 x y) ≡ false
ratio_high x nan z Y Z h k p l g = absurd h
ratio_high x (inf t) z Y Z h k p l g = absurd h
ratio_high x (fin t n d) nan Y Z h k p l g = absurd k
ratio_high x (fin t n d) (inf v) Y Z h k p l g = absurd k
ratio_high nan (fin t n d) (fin v o i) Y Z h k p l g = unfold div in nan_outside
ratio_high (inf s) (fin t n d) (fin v o i) Y Z h k p l g = unfold div in inf_outside (unlike s t)
ratio_high (fin s m e) (fin t n d) (fin v o i) Y Z h k p l g =
    let q = over s (o * up i * down e) (m * up e * down i) (mul-pos (some (o * up i) (down i) (down_pos i) k.1) (down_pos e)) (Order.le→at_most false o i s m e (subst (λ (b : Bool). T (le (fin b o i) (fin s m e))) k.0 l)) in
    fin_high s m e t n d ((λ i. unlike (q.0 i) (h.0 i)) ∙ refl)
    (le_of_mul-le-mul_right (core (n * up d) (m * up e) (o * up i) (down e) (down d) (down i) h.1 k.1 q.1) (mul-pos (pow_pos 37) (down_pos i)))
  where
    some : (K r : ℕ) → 0 < r → K * 2 ^ 37 ≡ Z * r → 0 < K
    some zero r q e = absurd (lt_irrefl 0 (lt_of_lt_of_le (mul-pos p q) (le_of_eq (sym e))))
    some (suc K) r q e = zero-lt-suc K

    over : (s : Bool) (b a : ℕ) → 0 < b → AtMost false b s a → (s ≡ false) × (b ≤ a)
    over true b a p h = absurd (no b a p h)
      where
        no : (b a : ℕ) → 0 < b → b + a ≤ 0 + 0 → ⊥
        no b a p h = omega arith
    over false b a p h = (refl, omega arith)

    core : (N M K c d r : ℕ) → N * 2 ^ 30 ≡ Y * d → K * 2 ^ 37 ≡ Z * r → K * c ≤ M * r → 1981 * (N * c) * (2 ^ 37 * r) ≤ 2000 * (M * d) * (2 ^ 37 * r)
    core N M K c d r e f l = omega (arith, ap (λ (x : ℕ). x * (c * r)) e, ap (λ (x : ℕ). x * (d * c)) f, mul-le-mul_right (d * (c * r)) g, mul-le-mul_right d l)

-- what is at most 0.01 is not inside
small_outside : (t : Float) → T (le t epsilon) → inside t ≡ false
unfolding inside
small_outside t h = is_false (lt epsilon t && lt t one_less_epsilon) (not_T (lt epsilon t && lt t one_less_epsilon) (λ g. Order.lt_not_le epsilon t (and_l (lt epsilon t) (lt t one_less_epsilon) g) h))

epsilon_is : epsilon ≡ fin false 5764607523034235 (negsuc 58)
unfolding of_bits
epsilon_is = refl

epsilon_fits : T (fits binary64 (fin false 5764607523034235 (negsuc 58)))
unfolding fits
epsilon_fits = tt

round_small : (a c : ℕ) → 0 < c → 128 * a ≤ c → inside (round binary64 false a c) ≡ false
round_small a c C h = small_outside (round binary64 false a c)
    (subst (λ (v : Float). T (le (round binary64 false a c) v)) (round_held binary64 false 5764607523034235 (negsuc 58) epsilon_fits ∙ sym epsilon_is)
    (round_at_most binary64 false a c false 5764607523034235 (2 ^ 59) C (zero-lt-suc 576460752303423487) (omega arith)))

fin_small : (m : ℕ) (e : ℤ) (t : Bool) (n : ℕ) (d : ℤ) → t ≡ false → 128 * (m * up e * down d) ≤ n * up d * down e → inside (div binary64 (fin false m e) (fin t n d)) ≡ false
fin_small m e t n d u h = fin_div false m e t n d (λ p. subst (λ (b : Bool). inside (round binary64 (unlike false b) (m * up e * down d) (n * up d * down e)) ≡ false) (sym u) (round_small (m * up e * down d) (n * up d * down e) (mul-pos (mul-pos p (up_pos d)) (down_pos e)) h))

-- x / y with x ≤ z
pub ratio_low : (x y z : Float) (Y Z : ℕ) → HasValue y false Y (2 ^ 30) → HasValue z false Z (2 ^ 37) → T (le x z) → 128 * Z ≤ Y * 128 → inside (div binary64 x y) ≡ false
ratio_low x nan z Y Z h k l g = absurd h
ratio_low x (inf t) z Y Z h k l g = absurd h
ratio_low x (fin t n d) nan Y Z h k l g = absurd k
ratio_low x (fin t n d) (inf v) Y Z h k l g = absurd k
ratio_low nan (fin t n d) (fin v o i) Y Z h k l g = unfold div in nan_outside
ratio_low (inf s) (fin t n d) (fin v o i) Y Z h k l g = unfold div in inf_outside (unlike s t)
ratio_low (fin true m e) (fin t n d) (fin v o i) Y Z h k l g = fin_low true m e t n d (λ p. subst (λ (b : Bool). AtMost (unlike true b) (m * up e * down d) false 0) (sym h.0) (omega arith))
ratio_low (fin false m e) (fin t n d) (fin v o i) Y Z h k l g =
    fin_small m e t n d h.0
    (le_of_mul-le-mul_right (core (n * up d) (m * up e) (o * up i) (down e) (down d) (down i) h.1 k.1 (Order.le→at_most false m e false o i (subst (λ (b : Bool). T (le (fin false m e) (fin b o i))) k.0 l))) (mul-pos (pow_pos 37) (down_pos i)))
  where
    core : (N M K c d r : ℕ) → N * 2 ^ 30 ≡ Y * d → K * 2 ^ 37 ≡ Z * r → M * r + 0 ≤ K * c + 0 → 128 * (M * d) * (2 ^ 37 * r) ≤ N * c * (2 ^ 37 * r)
    core N M K c d r e f l = omega (arith, ap (λ (x : ℕ). x * (c * r)) e, ap (λ (x : ℕ). x * (d * c)) f, mul-le-mul_right (d * (c * r)) g, mul-le-mul_right d l)
