-- Where an operation gives the exact value: a value that a format holds rounds to itself, and so does a product or a sum that the format holds. Assumes nothing.
--     rescale                        a value's fraction may be any other that is as large
--     round_held, round_value        a value that the format holds is what its own fraction, and any of its value, rounds to
--     narrow_held                    a value of binary32 narrows to itself
--     mul_held, mul_by_one           a product whose exact value the format holds is that value, so one with 1 is the value
--     Short                          x is ±n / 2 ^ l, n is a number of at most p digits with zeros after it, and x is below 2 ^ t in size
--     mul_short                      the product in binary64 of two such is exact where the digits of both are at most 53 and their scales fit: nothing underflows or overflows
--     single_short                   a finite value of binary32 has at most 24 digits, counted in 2 ^ -149, and is below 2 ^ 128
--     mul_exact                      so the product in binary64 of two finite values of binary32 is exact
--     div_value                      a quotient by a value that is not zero is the rounded quotient of any fractions that both equal
--     div_by_zero                    a finite value over a zero is a NaN or an infinity
--     Adds                           x + y = v, as whole numbers over the product of the three denominators: what is positive on either side and negative on the other
--     add_exact, sub_exact           a sum and a difference that are exactly a value of the format other than zero are that value
--     add_exact_zero                 a sum that is exactly zero is a zero
--     add_exact_eq, sub_exact_eq     so they equal any value of the format that they are exactly, a zero of either sign
--     add_zero_eq, add_zero_nonzero  a value with a zero added equals itself, and one that is not zero is itself
use Rattle.std.proofs.Common.{◌≡◌, ℕ, zero, suc, ◌+◌, ◌-◌, ◌*◌, ◌^◌, ◌<◌, ◌≤◌, Bool, true, false, cond, not, T, eqb, ◌⊎◌, ℤ, pos, sym, refl, ap, ◌∙◌, subst, inl, inr, le_of_eq, le_refl, lt_of_lt_of_le, lt_of_le_of_lt, le_of_lt, zero-lt-suc, mul_assoc, mul-le-mul, mul-lt-mul_of_pos_right, mul-pos, zero-mul, arith, lit≤, pow_pos, pow_mono, pow-add, shl_lt, eqb-true}
use native.Mathlib.Nat.{mul-mul-mul_comm, eq_of_mul-eq-mul_right}
use mathlib.Core.Bool.{false≢true}
use lib.Ieee.{Float, nan, inf, fin, Format, binary32, binary64, up, down, unlike, round, add, sub, mul, div, neg, eq, fits, is_nan, of_bits}
use lib.Ieee.Fits.{up_pos, down_pos, round-fits}
use lib.Ieee.Exact.{HasValue, round_exact}
use lib.Ieee.Scale.{round_same}
use Rattle.ground.proofs.Laws.Bools.{both_hold}
use Rattle.numbers.specs.Constants.{one_of}
use Rattle.numbers.specs.Rounding.{narrow_of}
use Rattle.numbers.specs.Nearest.{sum_size, sum_sign}
use Rattle.numbers.specs.Whole.{steps}
use Rattle.numbers.proofs.floats.Differences.{scale_plus, scale_minus, summed, unlike_false, zero_of_law}
use Rattle.numbers.proofs.Laws.Order.{plus, minus, nought, IsFinite, eq_refl, eq_zeros}
use Rattle.numbers.proofs.Laws.Whole.{steps_is, steps_value}
use Rattle.numbers.proofs.floats.Values.{with_value, mul_value}
pub use Rattle.numbers.proofs.floats.Values.{rescale, div_value}
use Rattle.numbers.proofs.floats.Patterns.{shifted}
use Rattle.numbers.proofs.floats.Held.{held, value_unique}

-- ---- rounding
pub round_held : (f : Format) (s : Bool) (m : ℕ) (e : ℤ) → T (fits f (fin s m e)) → round f s (m * up e) (down e) ≡ fin s m e
round_held f s m e p =
    let h = held f s m e p in
    value_unique f (round f s (m * up e) (down e)) (fin s m e) s (m * up e) (down e) (down_pos e) (round-fits f s (m * up e) (down e)) p
    (round_exact f s (m * up e) (down e) h.digits h.zeros (down_pos e) h.few h.fine h.value) (refl, refl)

pub round_value : (f : Format) (v : Float) (s : Bool) (a c : ℕ) → 0 < c → T (fits f v) → HasValue v s a c → round f s a c ≡ v
round_value f v s a c C p h =
    with_value (λ v. T (fits f v) → round f s a c ≡ v) v s a c h
    (λ m e q p. round_same f s a c (m * up e) (down e) C (down_pos e) (sym q) ∙ round_held f s m e p) p

pub narrow_held : (x : Float) → T (fits binary32 x) → narrow_of x ≡ x
unfolding narrow_of
narrow_held nan p = refl
narrow_held (inf s) p = refl
narrow_held (fin s m e) p = round_held binary32 s m e p

-- ---- products
pub mul_held : (f : Format) (s : Bool) (m : ℕ) (e : ℤ) (t : Bool) (n : ℕ) (d : ℤ) (v : Float) → T (fits f v) → HasValue v (unlike s t) (m * up e * (n * up d)) (down e * down d)
    → mul f (fin s m e) (fin t n d) ≡ v
unfolding mul
mul_held f s m e t n d v p h = round_value f v (unlike s t) (m * up e * (n * up d)) (down e * down d) (mul-pos (down_pos e) (down_pos d)) p h

one_is : (f : Format) → one_of f ≡ fin false 1 (pos 0)
unfolding of_bits
one_is binary32 = refl
one_is binary64 = refl

pub mul_by_one : (f : Format) (x : Float) → T (fits f x) → mul f x (one_of f) ≡ x
mul_by_one f x p = ap (mul f x) (one_is f) ∙ go x p
  where
    go : (x : Float) → T (fits f x) → mul f x (fin false 1 (pos 0)) ≡ x
    go nan p = unfold mul in refl
    go (inf s) p = unfold mul in ap inf (unlike_false s)
    go (fin s m e) p = mul_held f s m e false 1 (pos 0) (fin s m e) p (sym (unlike_false s), omega arith)

-- ---- products of few digits
pub record Short (p l t : ℕ) (x : Float) (s : Bool) (n : ℕ) : Type 0 where
  pub digits : ℕ
  pub zeros : ℕ
  pub few : digits < 2 ^ p
  pub is : n ≡ digits * 2 ^ zeros
  pub fine : n < 2 ^ (l + t)
  pub value : HasValue x s n (2 ^ l)

-- two numbers below powers of 2
times_lt : (a b p q : ℕ) → a < 2 ^ p → b < 2 ^ q → a * b < 2 ^ (p + q)
times_lt a b p q h k = subst (λ (x : ℕ). a * b < x) (sym (pow-add 2 p q)) (lt_of_le_of_lt (mul-le-mul (le_refl a) (le_of_lt k)) (mul-lt-mul_of_pos_right h (pow_pos q)))

-- a number of smallest values, brought to binary64's
brought : (n d z l : ℕ) → l ≤ 1074 → n ≡ d * 2 ^ z → n * 2 ^ 1074 ≡ d * 2 ^ (z + (1074 - l)) * 2 ^ l
brought n d z l L e =
    shifted n l 1074 L ∙ ap (λ (x : ℕ). x * 2 ^ l) (ap (λ (x : ℕ). x * 2 ^ (1074 - l)) e ∙ mul_assoc d (2 ^ z) (2 ^ (1074 - l)) ∙ ap (λ (x : ℕ). d * x) (sym (pow-add 2 z (1074 - l))))

-- and it stays below 2 ^ 1024
brought_fine : (n d z l t : ℕ) → l ≤ 1074 → t ≤ 1024 → n ≡ d * 2 ^ z → n < 2 ^ (l + t) → d * 2 ^ (z + (1074 - l)) < 2 ^ (1074 + 1024)
brought_fine n d z l t L U e h =
    lt_of_le_of_lt (le_of_eq (ap (λ (x : ℕ). d * x) (pow-add 2 z (1074 - l)) ∙ sym (mul_assoc d (2 ^ z) (2 ^ (1074 - l))) ∙ ap (λ (x : ℕ). x * 2 ^ (1074 - l)) (sym e)))
    (lt_of_lt_of_le (shl_lt (l + t) (1074 - l) h) (pow_mono {i = l + t + (1074 - l)} {j = 2098} (omega arith)))

pub mul_short : (p q k l t u : ℕ) (x y : Float) (s r : Bool) (n o : ℕ) → p + q ≤ 53 → k + l ≤ 1074 → t + u ≤ 1024
    → Short p k t x s n → Short q l u y r o → Short (p + q) (k + l) (t + u) (mul binary64 x y) (unlike s r) (n * o)
mul_short p q k l t u x y s r n o P L U a b =
    let d = a.digits * b.digits in
    let z = a.zeros + b.zeros in
    let few : d < 2 ^ (p + q) = times_lt a.digits b.digits p q a.few b.few in
    let is : n * o ≡ d * 2 ^ z = (λ i. a.is i * b.is i) ∙ mul-mul-mul_comm a.digits (2 ^ a.zeros) b.digits (2 ^ b.zeros) ∙ ap (λ (w : ℕ). d * w) (sym (pow-add 2 a.zeros b.zeros)) in
    let fine : n * o < 2 ^ (k + l + (t + u)) = subst (λ (w : ℕ). n * o < 2 ^ w) (omega arith) (times_lt n o (k + t) (l + u) a.fine b.fine) in
    record {
      digits = d;
      zeros = z;
      few = few;
      is = is;
      fine = fine;
      value = subst (λ (v : Float). HasValue v (unlike s r) (n * o) (2 ^ (k + l)))
          (sym (mul_value binary64 x y s r n (2 ^ k) o (2 ^ l) (pow_pos k) (pow_pos l) a.value b.value ∙ ap (round binary64 (unlike s r) (n * o)) (sym (pow-add 2 k l))))
          (round_exact binary64 (unlike s r) (n * o) (2 ^ (k + l)) d (z + (1074 - (k + l))) (pow_pos (k + l)) (lt_of_lt_of_le few (pow_mono {i = p + q} {j = 53} P)) (brought_fine (n * o) d z (k + l) (t + u) L U is fine) (brought (n * o) d z (k + l) L is));
    }

pub single_short : (s : Bool) (m : ℕ) (e : ℤ) → T (fits binary32 (fin s m e)) → Short 24 149 128 (fin s m e) s (steps binary32 m e)
single_short s m e p =
    let h = held binary32 s m e p in
    let is = steps_is binary32 s m e p in
    record {
      digits = h.digits;
      zeros = h.zeros;
      few = h.few;
      is = is;
      fine = subst (λ (x : ℕ). x < 2 ^ (149 + 128)) (sym is) h.fine;
      value = steps_value binary32 s m e p;
    }

-- over the product of the two denominators
pub mul_exact : (s : Bool) (m : ℕ) (e : ℤ) (t : Bool) (n : ℕ) (d : ℤ) → T (fits binary32 (fin s m e)) → T (fits binary32 (fin t n d))
    → HasValue (mul binary64 (fin s m e) (fin t n d)) (unlike s t) (m * up e * (n * up d)) (down e * down d)
mul_exact s m e t n d p q =
    let a = single_short s m e p in
    let b = single_short t n d q in
    let x = steps binary32 m e in
    let y = steps binary32 n d in
    with_value (λ v. HasValue v (unlike s t) (m * up e * (n * up d)) (down e * down d)) (mul binary64 (fin s m e) (fin t n d)) (unlike s t) (x * y) (2 ^ 298)
    (mul_short 24 24 149 149 128 128 (fin s m e) (fin t n d) s t x y (lit≤ tt) (lit≤ tt) (lit≤ tt) a b).value
    (λ k g v. (refl, eq_of_mul-eq-mul_right (2 ^ 298) (pow_pos 298) _ _ (over_own (k * up g) (down g) x y (m * up e) (down e) (n * up d) (down d) (2 ^ 298) (2 ^ 149) refl v a.value.1 b.value.1)))
  where
    over_own : (K G x y X c Y g R L : ℕ) → L * L ≡ R → K * R ≡ x * y * G → X * L ≡ x * c → Y * L ≡ y * g → K * (c * g) * R ≡ X * Y * G * R
    over_own K G x y X c Y g R L r v a b =
        omega (arith, ap (λ (w : ℕ). w * (c * g)) v) ∙ sym (λ i. a i * b i * G) ∙ omega (arith, ap (λ (w : ℕ). X * Y * G * w) r)

-- ---- quotients
over_zero : (f : Format) (s : Bool) (m : ℕ) (e : ℤ) (t : Bool) (d : ℤ) → (div f (fin s m e) (fin t 0 d) ≡ nan) ⊎ (div f (fin s m e) (fin t 0 d) ≡ inf (unlike s t))
unfolding div
over_zero f s m e t d = go (eqb m 0)
  where
    go : (b : Bool) → (cond b nan (inf (unlike s t)) ≡ nan) ⊎ (cond b nan (inf (unlike s t)) ≡ inf (unlike s t))
    go true = inl refl
    go false = inr refl

pub div_by_zero : (f : Format) (x y : Float) → IsFinite x → eq y nought ≡ true → (div f x y ≡ nan) ⊎ ((s : Bool) × (div f x y ≡ inf s))
unfolding eq
div_by_zero f (fin s m e) nan i h = absurd (false≢true h)
div_by_zero f (fin s m e) (inf t) i h = absurd (false≢true h)
div_by_zero f (fin s m e) (fin t n d) i h =
    let none : n * up d * 1 ≡ 0 * 1 * down d = eqb-true _ _ (both_hold _ _ h).0 in
    let z : n ≡ 0 = zero_of_law n (up d) (up_pos d) (omega (arith, none, zero-mul (down d))) in
    subst (λ (k : ℕ). (div f (fin s m e) (fin t k d) ≡ nan) ⊎ ((w : Bool) × (div f (fin s m e) (fin t k d) ≡ inf w))) (sym z)
    (elim (over_zero f s m e t d) [ inl p ↦ inl p | inr p ↦ inr (unlike s t, p) ])
div_by_zero f nan y i h = elim i [ ]
div_by_zero f (inf _) y i h = elim i [ ]

-- ---- sums
abbrev pub Adds : Float → Float → Float → Type 0
Adds nan y v = ⊥
Adds (inf s) y v = ⊥
Adds (fin s m e) nan v = ⊥
Adds (fin s m e) (inf t) v = ⊥
Adds (fin s m e) (fin t n d) nan = ⊥
Adds (fin s m e) (fin t n d) (inf u) = ⊥
Adds (fin s m e) (fin t n d) (fin u k g) =
    let a = m * up e * down d * down g in
    let b = n * up d * down e * down g in
    let r = k * up g * (down e * down d) in
    plus s a + plus t b + minus u r ≡ plus u r + minus s a + minus t b

adds_cases : (P : Float → Float → Float → Type 0)
    → ((s : Bool) (m : ℕ) (e : ℤ) (t : Bool) (n : ℕ) (d : ℤ) (u : Bool) (k : ℕ) (g : ℤ) → Adds (fin s m e) (fin t n d) (fin u k g) → P (fin s m e) (fin t n d) (fin u k g)) → (x y v : Float) → Adds x y v → P x y v
adds_cases P c nan y v h = absurd h
adds_cases P c (inf s) y v h = absurd h
adds_cases P c (fin s m e) nan v h = absurd h
adds_cases P c (fin s m e) (inf t) v h = absurd h
adds_cases P c (fin s m e) (fin t n d) nan h = absurd h
adds_cases P c (fin s m e) (fin t n d) (inf u) h = absurd h
adds_cases P c (fin s m e) (fin t n d) (fin u k g) h = c s m e t n d u k g h

-- the sum as `add` has it, and the value v = ±R / p, agree
agree : (s : Bool) (a : ℕ) (t : Bool) (b : ℕ) (u : Bool) (R : ℕ) (c p : ℕ) (w : Bool) (r : ℕ)
    → plus s (a * p) + plus t (b * p) + minus u (R * c) ≡ plus u (R * c) + minus s (a * p) + minus t (b * p)
    → plus w r + minus s a + minus t b ≡ minus w r + plus s a + plus t b
    → plus w r * p + minus u R * c ≡ plus u R * c + minus w r * p
agree s a t b u R c p w r h k =
    omega (arith, ap (λ (x : ℕ). x * p) k, scale_plus s a p, scale_plus t b p, scale_minus s a p, scale_minus t b p, scale_plus u R c, scale_minus u R c)

-- so they have one size, and where it is not 0 one sign
same_size : (u : Bool) (R c p : ℕ) (w : Bool) (r : ℕ) → plus w r * p + minus u R * c ≡ plus u R * c + minus w r * p → R * c ≡ r * p
same_size false R c p false r h = omega arith
same_size true R c p true r h = omega arith
same_size true R c p false r h = omega arith
same_size false R c p true r h = omega arith

same_sign : (u : Bool) (R c p : ℕ) (w : Bool) (r : ℕ) → 0 < R * c → plus w r * p + minus u R * c ≡ plus u R * c + minus w r * p → u ≡ w
same_sign false R c p false r P h = refl
same_sign true R c p true r P h = refl
same_sign true R c p false r P h = absurd (omega arith)
same_sign false R c p true r P h = absurd (omega arith)

pub add_exact : (f : Format) (x y : Float) (u : Bool) (k : ℕ) (g : ℤ) → T (fits f (fin u (suc k) g)) → Adds x y (fin u (suc k) g) → add f x y ≡ fin u (suc k) g
unfolding add
add_exact f nan y u k g p h = absurd h
add_exact f (inf s) y u k g p h = absurd h
add_exact f (fin s m e) nan u k g p h = absurd h
add_exact f (fin s m e) (inf t) u k g p h = absurd h
add_exact f (fin s m e) (fin t n d) u k g p h =
    let c = down e * down d in
    let R = suc k * up g in
    let a = m * up e * down d in
    let b = n * up d * down e in
    let w = summed f s a t b c in
    let v = sum_sign s a t b in
    let r = sum_size s a t b in
    let C : 0 < c = mul-pos (down_pos e) (down_pos d) in
    let same = agree s a t b u R c (down g) v r h w.value in
    w.is ∙ round_value f (fin u (suc k) g) v r c C p (same_sign u R c (down g) v r (mul-pos (mul-pos (zero-lt-suc k) (up_pos g)) C) same, same_size u R c (down g) v r same)

zero_fits : (f : Format) (s : Bool) → T (fits f (fin s 0 (pos 0)))
unfolding fits
zero_fits f s = tt

pub add_exact_zero : (f : Format) (x y : Float) (u : Bool) (g : ℤ) → Adds x y (fin u 0 g) → (w : Bool) × (add f x y ≡ fin w 0 (pos 0))
unfolding add
add_exact_zero f nan y u g h = absurd h
add_exact_zero f (inf s) y u g h = absurd h
add_exact_zero f (fin s m e) nan u g h = absurd h
add_exact_zero f (fin s m e) (inf t) u g h = absurd h
add_exact_zero f (fin s m e) (fin t n d) u g h =
    let c = down e * down d in
    let R = 0 * up g in
    let a = m * up e * down d in
    let b = n * up d * down e in
    let w = summed f s a t b c in
    let v = sum_sign s a t b in
    let r = sum_size s a t b in
    let C : 0 < c = mul-pos (down_pos e) (down_pos d) in
    let z : r ≡ 0 = zero_of_law r (down g) (down_pos g) (sym (same_size u R c (down g) v r (agree s a t b u R c (down g) v r h w.value)) ∙ ap (λ (x : ℕ). x * c) (zero-mul (up g)) ∙ zero-mul c) in
    (v, w.is ∙ ap (λ (x : ℕ). round f v x c) z ∙ round_value f (fin v 0 (pos 0)) v 0 c C (zero_fits f v) (refl, ap (λ (x : ℕ). x * c) (zero-mul 1) ∙ zero-mul c ∙ sym (zero-mul 1)))

-- ---- equality
pub add_exact_eq : (f : Format) (x y v : Float) → T (fits f v) → Adds x y v → T (eq (add f x y) v)
add_exact_eq f x y v p h = adds_cases (λ x y v. T (fits f v) → T (eq (add f x y) v)) go x y v h p
  where
    go : (s : Bool) (m : ℕ) (e : ℤ) (t : Bool) (n : ℕ) (d : ℤ) (u : Bool) (k : ℕ) (g : ℤ) → Adds (fin s m e) (fin t n d) (fin u k g) → T (fits f (fin u k g)) → T (eq (add f (fin s m e) (fin t n d)) (fin u k g))
    go s m e t n d u zero g h p = let z = add_exact_zero f (fin s m e) (fin t n d) u g h in rw z.1 (eq_zeros z.0 (pos 0) u g)
    go s m e t n d u (suc k) g h p = rw (add_exact f (fin s m e) (fin t n d) u k g p h) (eq_refl (fin u (suc k) g) (unfold is_nan in tt))

-- ---- differences: x - y is v where v + y is x
sub_adds : (x y v : Float) → Adds v y x → Adds x (neg y) v
unfolding neg
sub_adds x y v h = adds_cases (λ v y x. Adds x (neg y) v) (λ u k g t n d s m e h. turned s (m * up e) (down e) t (n * up d) (down d) u (k * up g) (down g) h) v y x h
  where
    turned : (s : Bool) (a p : ℕ) (t : Bool) (b q : ℕ) (u : Bool) (c r : ℕ)
        → plus u (c * q * p) + plus t (b * r * p) + minus s (a * (r * q)) ≡ plus s (a * (r * q)) + minus u (c * q * p) + minus t (b * r * p)
        → plus s (a * q * r) + plus (not t) (b * p * r) + minus u (c * (p * q)) ≡ plus u (c * (p * q)) + minus s (a * q * r) + minus (not t) (b * p * r)
    turned s a p t b q u c r h =
        moved s (a * q * r) (a * (r * q)) t (b * p * r) (b * r * p) u (c * (p * q)) (c * q * p) (omega arith) (omega arith) (omega arith) h
      where
        moved : (s : Bool) (a a' : ℕ) (t : Bool) (b b' : ℕ) (u : Bool) (c c' : ℕ) → a ≡ a' → b ≡ b' → c ≡ c'
            → plus u c' + plus t b' + minus s a' ≡ plus s a' + minus u c' + minus t b'
            → plus s a + plus (not t) b + minus u c ≡ plus u c + minus s a + minus (not t) b
        moved s a a' true b b' u c c' x y z h = omega (arith, ap (plus s) x, ap (minus s) x, ap (plus u) z, ap (minus u) z)
        moved s a a' false b b' u c c' x y z h = omega (arith, ap (plus s) x, ap (minus s) x, ap (plus u) z, ap (minus u) z)

pub sub_exact : (f : Format) (x y : Float) (u : Bool) (k : ℕ) (g : ℤ) → T (fits f (fin u (suc k) g)) → Adds (fin u (suc k) g) y x → sub f x y ≡ fin u (suc k) g
unfolding sub
sub_exact f x y u k g p h = add_exact f x (neg y) u k g p (sub_adds x y (fin u (suc k) g) h)

pub sub_exact_eq : (f : Format) (x y v : Float) → T (fits f v) → Adds v y x → T (eq (sub f x y) v)
unfolding sub
sub_exact_eq f x y v p h = add_exact_eq f x (neg y) v p (sub_adds x y v h)

-- ---- sums with zero
adds_zero : (s : Bool) (m : ℕ) (e : ℤ) (t : Bool) → Adds (fin s m e) (fin t 0 (pos 0)) (fin s m e)
adds_zero s m e t = go s t (m * up e) (down e)
  where
    go : (s t : Bool) (a c : ℕ) → plus s (a * 1 * c) + plus t (0 * 1 * c * c) + minus s (a * (c * 1)) ≡ plus s (a * (c * 1)) + minus s (a * 1 * c) + minus t (0 * 1 * c * c)
    go true true a c = omega arith
    go true false a c = omega arith
    go false true a c = omega arith
    go false false a c = omega arith

pub add_zero_eq : (f : Format) (x : Float) (t : Bool) → T (fits f x) → T (not (is_nan x)) → T (eq (add f x (fin t 0 (pos 0))) x)
unfolding is_nan
add_zero_eq f nan t p n = absurd n
add_zero_eq f (inf s) t p n = unfold add in eq_refl (inf s) (unfold is_nan in tt)
add_zero_eq f (fin s m e) t p n = add_exact_eq f (fin s m e) (fin t 0 (pos 0)) (fin s m e) p (adds_zero s m e t)

pub add_zero_nonzero : (f : Format) (s : Bool) (m : ℕ) (e : ℤ) (t : Bool) → T (fits f (fin s (suc m) e)) → add f (fin s (suc m) e) (fin t 0 (pos 0)) ≡ fin s (suc m) e
add_zero_nonzero f s m e t p = add_exact f (fin s (suc m) e) (fin t 0 (pos 0)) s m e p (adds_zero s (suc m) e t)
