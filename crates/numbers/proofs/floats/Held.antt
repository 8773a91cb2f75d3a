-- A finite value that a format holds, counted in the format's smallest values, and that it is written in one way. Assumes nothing.
use Rattle.std.proofs.Common.{◌≡◌, ℕ, zero, suc, ◌+◌, ◌-◌, ◌*◌, ◌%◌, ◌^◌, ◌<◌, ◌≤◌, Bool, ◌&&◌, T, eqb, ltb, leb, ℤ, pos, negsuc, sym, refl, ap, ◌∙◌, subst, mul_assoc, add_comm, mul-lt-mul_of_pos_right, zero-mul, mul-one, mul_right_comm, ltb→lt, leb→le, pow_pos, pow-add}
use native.Mathlib.Nat.{eq_of_mul-eq-mul_right}
use lib.Ieee.{Float, fin, Format, prec, emax, low, up, down, fits, to_bits, of_bits}
use lib.Ieee.Digits.{back}
use lib.Ieee.Fits.{down_pos, and_l, and_r}
use lib.Ieee.Exact.{HasValue}
use lib.Ieee.Bits.{of_bits-to_bits}
use Rattle.numbers.proofs.floats.Values.{with_value}
use Rattle.numbers.proofs.floats.Patterns.{to_bits_val, pow_le_back, shifted}

-- m * 2 ^ e, counted in the format's smallest values, is a number of no more digits than the format keeps, and zeros after it.
pub record Held (f : Format) (m : ℕ) (e : ℤ) : Type 0 where
  pub digits : ℕ
  pub zeros : ℕ
  pub few : digits < 2 ^ prec f
  pub fine : digits * 2 ^ zeros < 2 ^ (low f + suc (emax f))
  pub value : m * up e * 2 ^ low f ≡ digits * 2 ^ zeros * down e

-- how many smallest values
abbrev pub count : (f : Format) (m : ℕ) (e : ℤ) → Held f m e → ℕ
count f m e h = h.digits * 2 ^ h.zeros

whole : (f : Format) (m a : ℕ) → suc m < 2 ^ prec f → suc m * 2 ^ a < 2 ^ suc (emax f) * 1 → Held f (suc m) (pos a)
whole f m a few fine = record {
  digits = suc m;
  zeros = a + low f;
  few = few;
  fine = subst (λ (x : ℕ). x < 2 ^ (low f + suc (emax f))) same
      (subst (λ (x : ℕ). suc m * 2 ^ a * 2 ^ low f < x) (sym (pow-add 2 (suc (emax f)) (low f)) ∙ ap (λ (x : ℕ). 2 ^ x) (add_comm (suc (emax f)) (low f)))
      (mul-lt-mul_of_pos_right (subst (λ (x : ℕ). suc m * 2 ^ a < x) (mul-one (2 ^ suc (emax f))) fine) (pow_pos (low f))));
  value = same ∙ sym (mul-one (suc m * 2 ^ (a + low f)));
}
  where
    same : suc m * 2 ^ a * 2 ^ low f ≡ suc m * 2 ^ (a + low f)
    same = mul_assoc (suc m) (2 ^ a) (2 ^ low f) ∙ ap (λ (x : ℕ). suc m * x) (sym (pow-add 2 a (low f)))

parts : (f : Format) (m a : ℕ) → suc m < 2 ^ prec f → 2 ^ suc a ≤ 2 ^ low f → suc m * 1 < 2 ^ suc (emax f) * 2 ^ suc a → Held f (suc m) (negsuc a)
parts f m a few lo fine = record {
  digits = suc m;
  zeros = z;
  few = few;
  fine = subst (λ (x : ℕ). suc m * 2 ^ z < x)
      (mul_assoc (2 ^ suc (emax f)) (2 ^ suc a) (2 ^ z) ∙ ap (λ (x : ℕ). 2 ^ suc (emax f) * x) (sym split) ∙ sym (pow-add 2 (suc (emax f)) (low f)) ∙ ap (λ (x : ℕ). 2 ^ x) (add_comm (suc (emax f)) (low f)))
      (mul-lt-mul_of_pos_right (subst (λ (x : ℕ). x < 2 ^ suc (emax f) * 2 ^ suc a) (mul-one (suc m)) fine) (pow_pos z));
  value = ap (λ (x : ℕ). x * 2 ^ low f) (mul-one (suc m)) ∙ shifted (suc m) (suc a) (low f) (pow_le_back (suc a) (low f) lo);
}
  where
    z : ℕ
    z = low f - suc a

    split : 2 ^ low f ≡ 2 ^ suc a * 2 ^ (low f - suc a)
    split = ap (λ (x : ℕ). 2 ^ x) (sym (back (low f) (suc a) (pow_le_back (suc a) (low f) lo)) ∙ add_comm (low f - suc a) (suc a)) ∙ pow-add 2 (suc a) (low f - suc a)

-- what `fits` says
pub held : (f : Format) (s : Bool) (m : ℕ) (e : ℤ) → T (fits f (fin s m e)) → Held f m e
unfolding fits
held f s zero e h = record {
  digits = 0;
  zeros = 0;
  few = pow_pos (prec f);
  fine = pow_pos (low f + suc (emax f));
  value = ap (λ (x : ℕ). x * 2 ^ low f) (zero-mul (up e)) ∙ zero-mul (2 ^ low f) ∙ sym (zero-mul (down e));
}
held f s (suc m) e h =
    let A = eqb (suc m % 2) 1 in
    let B = ltb (suc m) (2 ^ prec f) in
    let C = leb (down e) (2 ^ low f) in
    let D = ltb (suc m * up e) (2 ^ suc (emax f) * down e) in
    go e (ltb→lt (suc m) (2 ^ prec f) (and_r A B (and_l (A && B) C (and_l (A && B && C) D h)))) (leb→le (down e) (2 ^ low f) (and_r (A && B) C (and_l (A && B && C) D h)))
    (ltb→lt (suc m * up e) (2 ^ suc (emax f) * down e) (and_r (A && B && C) D h))
  where
    go : (e : ℤ) → suc m < 2 ^ prec f → down e ≤ 2 ^ low f → suc m * up e < 2 ^ suc (emax f) * down e → Held f (suc m) e
    go (pos a) x y z = whole f m a x z
    go (negsuc a) x y z = parts f m a x y z

-- the count of a value that is a / c
pub counted : (f : Format) (m : ℕ) (e : ℤ) (h : Held f m e) (a c : ℕ) → m * up e * c ≡ a * down e → a * 2 ^ low f ≡ count f m e h * c
counted f m e h a c v =
    eq_of_mul-eq-mul_right (down e) (down_pos e) (a * 2 ^ low f) (count f m e h * c)
    (mul_right_comm a (2 ^ low f) (down e)
    ∙ ap (λ (x : ℕ). x * 2 ^ low f) (sym v)
    ∙ mul_right_comm (m * up e) c (2 ^ low f)
    ∙ ap (λ (x : ℕ). x * c) h.value
    ∙ mul_right_comm (count f m e h) (down e) c)

-- two values of one format that are the same number with the same sign are the same
pub value_unique : (f : Format) (x y : Float) (s : Bool) (a c : ℕ) → 0 < c → T (fits f x) → T (fits f y) → HasValue x s a c → HasValue y s a c → x ≡ y
value_unique f x y s a c C p q v w =
    with_value (λ x. T (fits f x) → x ≡ y) x s a c v (λ m e v p. with_value (λ y. T (fits f y) → fin s m e ≡ y) y s a c w (λ n d w q.
    let h = held f s m e p in
    let k = held f s n d q in
    let x = fin s m e in
    let y = fin s n d in
    let same : count f m e h ≡ count f n d k = eq_of_mul-eq-mul_right c C (count f m e h) (count f n d k) (sym (counted f m e h a c v) ∙ counted f n d k a c w) in
    let is : to_bits f x ≡ to_bits f y = to_bits_val f x s (count f n d k) (refl, h.value ∙ ap (λ (z : ℕ). z * down e) same) ∙ sym (to_bits_val f y s (count f n d k) (refl, k.value)) in
    sym (of_bits-to_bits f x p) ∙ ap (of_bits f) is ∙ of_bits-to_bits f y q) q) p
