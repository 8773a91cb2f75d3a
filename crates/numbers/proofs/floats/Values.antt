-- A value by the fraction that it equals. Assumes nothing.
--     with_value            what holds of each finite value of the sign and the fraction holds of the value
--     value_no_nan          it is no NaN
--     same_value            it has one numerator over one denominator
--     rescale               it has any other fraction that is as large
--     add_value             a sum of two without a sign is the rounded sum of their fractions
--     mul_value             a product is the rounded product of them
--     div_value             a quotient by one that is not zero is the rounded quotient of them
use Rattle.std.proofs.Common.{◌≡◌, ℕ, ◌+◌, ◌*◌, ◌<◌, Bool, false, cond, not, T, eqb, ℤ, sym, refl, ap, ◌∙◌, subst, le_of_eq, lt_of_lt_of_le, lt_irrefl, mul-pos, arith, eqb→eq}
use native.Mathlib.Nat.{mul-mul-mul_comm, eq_of_mul-eq-mul_right}
use lib.Dec.{not_T}
use lib.Ieee.{Float, nan, inf, fin, Format, up, down, unlike, round, add, mul, div, is_nan}
use lib.Ieee.Fits.{down_pos}
use lib.Ieee.Exact.{HasValue}
use lib.Ieee.Scale.{round_same}
use lib.Ieee.Bits.{cond_no}
use lib.Ieee.Positive.{first_pos}

pub with_value : (P : Float → Type 0) (x : Float) (s : Bool) (a c : ℕ) → HasValue x s a c → ((m : ℕ) (e : ℤ) → m * up e * c ≡ a * down e → P (fin s m e)) → P x
with_value P nan s a c h k = absurd h
with_value P (inf t) s a c h k = absurd h
with_value P (fin t m e) s a c h k = subst (λ (b : Bool). P (fin b m e)) (sym h.0) (k m e h.1)

pub value_no_nan : (x : Float) (s : Bool) (a c : ℕ) → HasValue x s a c → T (not (is_nan x))
unfolding is_nan
value_no_nan x s a c v = with_value (λ x. T (not (is_nan x))) x s a c v (λ m e p. tt)

pub same_value : (x : Float) (s : Bool) (a b c : ℕ) → HasValue x s a c → HasValue x s b c → a ≡ b
same_value x s a b c h = with_value (λ x. HasValue x s b c → a ≡ b) x s a c h (λ m e p k. eq_of_mul-eq-mul_right (down e) (down_pos e) a b (sym p ∙ k.1))

pub rescale : (x : Float) (s : Bool) (w l num den : ℕ) → 0 < l → num * l ≡ w * den → HasValue x s w l → HasValue x s num den
rescale x s w l num den L h v =
    with_value (λ x. HasValue x s num den) x s w l v
    (λ m e p. (refl, eq_of_mul-eq-mul_right l L (m * up e * den) (num * down e) (omega (arith, ap (λ (z : ℕ). z * den) p, ap (λ (z : ℕ). z * down e) h))))

pub add_value : (f : Format) (x y : Float) (a b c : ℕ) → 0 < c → HasValue x false a c → HasValue y false b c → add f x y ≡ round f false (a + b) c
unfolding add
add_value f x y a b c C h k =
    with_value (λ x. add f x y ≡ round f false (a + b) c) x false a c h
    (λ m e p. with_value (λ y. add f (fin false m e) y ≡ round f false (a + b) c) y false b c k
    (λ n d q. round_same f false (m * up e * down d + n * up d * down e) (down e * down d) (a + b) c (mul-pos (down_pos e) (down_pos d)) C
    (omega (arith, ap (λ (z : ℕ). z * down d) p, ap (λ (z : ℕ). z * down e) q))))

pub mul_value : (f : Format) (x y : Float) (s t : Bool) (a c b d : ℕ) → 0 < c → 0 < d → HasValue x s a c → HasValue y t b d → mul f x y ≡ round f (unlike s t) (a * b) (c * d)
unfolding mul
mul_value f x y s t a c b d C D h k =
    with_value (λ x. mul f x y ≡ round f (unlike s t) (a * b) (c * d)) x s a c h
    (λ m e p. with_value (λ y. mul f (fin s m e) y ≡ round f (unlike s t) (a * b) (c * d)) y t b d k
    (λ n g q. round_same f (unlike s t) (m * up e * (n * up g)) (down e * down g) (a * b) (c * d) (mul-pos (down_pos e) (down_pos g)) (mul-pos C D)
    (mul-mul-mul_comm (m * up e) (n * up g) c d ∙ (λ i. p i * q i) ∙ mul-mul-mul_comm a (down e) b (down g))))

pub div_value : (f : Format) (x y : Float) (s t : Bool) (a c b d : ℕ) → 0 < c → 0 < d → 0 < b → HasValue x s a c → HasValue y t b d → div f x y ≡ round f (unlike s t) (a * d) (b * c)
unfolding div
div_value f x y s t a c b d C D B h k =
    with_value (λ x. div f x y ≡ round f (unlike s t) (a * d) (b * c)) x s a c h
    (λ m e p. with_value (λ y. div f (fin s m e) y ≡ round f (unlike s t) (a * d) (b * c)) y t b d k
    (λ n g q.
    let N : 0 < n * up g = first_pos (n * up g) d (lt_of_lt_of_le (mul-pos B (down_pos g)) (le_of_eq (sym q))) in
    cond_no (eqb n 0) (cond (eqb m 0) nan (inf (unlike s t))) (round f (unlike s t) (m * up e * down g) (n * up g * down e)) (some_digit n (up g) N)
    ∙ round_same f (unlike s t) (m * up e * down g) (n * up g * down e) (a * d) (b * c) (mul-pos N (down_pos e)) (mul-pos B C)
    (across (m * up e) (down g) b c a (down e) d (n * up g) p q)))
  where
    across : (X G b c a E d Y : ℕ) → X * c ≡ a * E → Y * d ≡ b * G → X * G * (b * c) ≡ a * d * (Y * E)
    across X G b c a E d Y p q = omega arith ∙ (λ i. p i * sym q i) ∙ omega arith

    some_digit : (n u : ℕ) → 0 < n * u → T (not (eqb n 0))
    some_digit n u h = not_T (eqb n 0) (λ z. lt_irrefl 0 (subst (λ (k : ℕ). 0 < k) (eqb→eq n 0 z) (first_pos n u h)))
