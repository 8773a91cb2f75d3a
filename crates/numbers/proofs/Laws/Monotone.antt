-- What keeps the order of floats: rounding, narrowing, sums, differences, products and mixes, in either format, the infinities too. Assumes nothing.
-- The laws on sums, differences, products and mixes ask that both results are no NaN. That of finite operands never is one: `add_number`, `sub_number`, `mul_number`, `mix_number`.
--     round_number, round_at_most      a rounded fraction is no NaN, and rounding keeps the order of fractions of either sign: ±a / b ≤ ±c / d
--     narrow_number, narrow_mono       narrowing makes a NaN of nothing else, and keeps the order
--     finite_add_number, add_number    a sum of a finite value and one that is no NaN is none, so one of finite values is none
--     number_first, number_second      where a sum is no NaN neither operand is
--     add_comm, mul_comm               the operands of a sum and of a product may change places
--     add_mono_left, add_mono_right    a sum grows with each operand
--     finite_sub_number, sub_number    so of a difference
--     sub_mono_left, sub_anti_right    it grows with its first operand and falls with its second
--     sub_not_negative                 it is not negative where the second is at most the first
--     mul_number, mul_neg              a product of finite values is no NaN, and one with a negative is the product's negative
--     mul_mono_left, mul_mono_right    a product with a value that is not negative grows with the other
--     mul_mono, mul_not_negative       one of two such grows with both, and is not negative
--     rest_lo, rest_hi                 1 less a weight from 0 to 1 is from 0 to 1
--     mix_mono_first, mix_mono_second  a mix grows with each value, for a weight from 0 to 1
--     mix_number                       one of two finite values of binary32 is no NaN
use Rattle.std.proofs.Common.{◌≡◌, ℕ, zero, suc, ◌+◌, ◌*◌, ◌%◌, ◌^◌, ◌<◌, Bool, true, false, cond, not, ◌&&◌, T, eqb, ltb, leb, ◌⊎◌, ℤ, pos, sym, refl, ap, ◌∙◌, subst, inl, inr, true≢false, zero-lt-suc, mul_comm as times, mul-pos, zero-mul, arith, ltb→lt}
use mathlib.Core.Bool.{false≢true}
use lib.Ieee.{Float, nan, inf, fin, Format, binary32, binary64, up, down, unlike, round, sum, add, sub, mul, neg, le, is_nan, fits, of_bits}
use lib.Ieee.Fits.{up_pos, down_pos, eq→eqb, and_r}
use lib.Ieee.Bits.{is_true, is_false}
use lib.Ieee.Order.{round_mono}
use Rattle.numbers.specs.Scalar.{abs_of, mix_of}
use Rattle.numbers.specs.Rounding.{narrow_of}
use Rattle.numbers.specs.Nearest.{sum_size, sum_sign}
use Rattle.numbers.proofs.floats.Differences.{of_at_most, summed, sum_comm, sums_order, products_order, unlike_false, round_neg, Signed, signed_number, round_signed, round_zero, zero_of_law}
use Rattle.numbers.proofs.Laws.Order.{plus, minus, AtMost, nought, one, IsFinite, finite_number, le→at_most, at_most→le, le_cases, le_refl, le_trans, le_inf, inf_le, le_neg, neg_neg, neg_number, between_finite, le_of_abs_le, ge_of_abs_le}

-- ---- rounding
pub round_number : (f : Format) (s : Bool) (a c : ℕ) → T (not (is_nan (round f s a c)))
round_number f s a c = signed_number s (round f s a c) (round_signed f s a c)

below_above : (x y : Float) → Signed true x → Signed false y → T (le x y)
unfolding le
below_above nan y h k = absurd h
below_above (inf true) y h k = inf_le y (signed_number false y k)
below_above (inf false) y h k = absurd (false≢true h)
below_above (fin s m e) nan h k = absurd k
below_above (fin s m e) (inf true) h k = absurd (true≢false k)
below_above (fin s m e) (inf false) h k = tt
below_above (fin true m e) (fin false n d) h k = of_at_most true (m * up e * down d) false (n * up d * down e) (omega arith)
below_above (fin true m e) (fin true n d) h k = absurd (true≢false k)
below_above (fin false m e) (fin t n d) h k = absurd (false≢true h)

pub round_at_most : (f : Format) (s : Bool) (a b : ℕ) (t : Bool) (c d : ℕ) → 0 < b → 0 < d → AtMost s (a * d) t (c * b) → T (le (round f s a b) (round f t c d))
round_at_most f false a b false c d B D h = round_mono f a b c d B D (omega arith)
round_at_most f true a b false c d B D h = below_above (round f true a b) (round f false c d) (round_signed f true a b) (round_signed f false c d)
round_at_most f false a b true c d B D h =
    let za : a ≡ 0 = zero_of_law a d D (omega arith) in
    let zc : c ≡ 0 = zero_of_law c b B (omega arith) in
    subst (λ (v : Float). T (le v (round f true c d))) (sym (ap (λ (x : ℕ). round f false x b) za ∙ round_zero f false b B))
    (subst (λ (v : Float). T (le nought v)) (sym (ap (λ (x : ℕ). round f true x d) zc ∙ round_zero f true d D)) (unfold le in tt))
round_at_most f true a b true c d B D h =
    subst (λ (v : Float). T (le v (round f true c d))) (sym (round_neg f a b))
    (subst (λ (v : Float). T (le (neg (round f false a b)) v)) (sym (round_neg f c d)) (le_neg (round f false c d) (round f false a b) (round_mono f c d a b D B (omega arith))))

pub narrow_number : (x : Float) → is_nan (narrow_of x) ≡ is_nan x
unfolding narrow_of is_nan
narrow_number nan = refl
narrow_number (inf s) = refl
narrow_number (fin s m e) = is_false (is_nan (round binary32 s (m * up e) (down e))) (round_number binary32 s (m * up e) (down e))

pub narrow_mono : (x y : Float) → T (le x y) → T (le (narrow_of x) (narrow_of y))
unfolding narrow_of
narrow_mono = le_cases (λ x y. T (le (narrow_of x) (narrow_of y))) (λ y n. inf_le (narrow_of y) (rw narrow_number n)) (λ x n. le_inf (narrow_of x) (rw narrow_number n))
    (λ s m e t n d h. round_at_most binary32 s (m * up e) (down e) t (n * up d) (down d) (down_pos e) (down_pos d) h)

-- ---- sums
pub finite_add_number : (f : Format) (x y : Float) → IsFinite x → T (not (is_nan y)) → T (not (is_nan (add f x y)))
unfolding add is_nan
finite_add_number f (fin s m e) nan i j = j
finite_add_number f (fin s m e) (inf t) i j = tt
finite_add_number f (fin s m e) (fin t n d) i j =
    let a = m * up e * down d in
    let b = n * up d * down e in
    subst (λ (z : Float). T (not (is_nan z))) (sym (summed f s a t b (down e * down d)).is) (round_number f (sum_sign s a t b) (sum_size s a t b) (down e * down d))
finite_add_number f nan y i j = elim i [ ]
finite_add_number f (inf _) y i j = elim i [ ]

pub add_number : (f : Format) (x y : Float) → IsFinite x → IsFinite y → T (not (is_nan (add f x y)))
add_number f x y i j = finite_add_number f x y i (finite_number y j)

pub add_comm : (f : Format) (x y : Float) → add f x y ≡ add f y x
unfolding add
add_comm f nan nan = refl
add_comm f nan (inf t) = refl
add_comm f nan (fin t n d) = refl
add_comm f (inf s) nan = refl
add_comm f (inf true) (inf true) = refl
add_comm f (inf true) (inf false) = refl
add_comm f (inf false) (inf true) = refl
add_comm f (inf false) (inf false) = refl
add_comm f (inf s) (fin t n d) = refl
add_comm f (fin s m e) nan = refl
add_comm f (fin s m e) (inf t) = refl
add_comm f (fin s m e) (fin t n d) =
    sum_comm f s (m * up e * down d) t (n * up d * down e) (down e * down d) ∙ ap (sum f t (n * up d * down e) s (m * up e * down d)) (times (down e) (down d))

pub number_first : (f : Format) (x y : Float) → T (not (is_nan (add f x y))) → T (not (is_nan x))
unfolding add is_nan
number_first f nan y n = n
number_first f (inf s) y n = tt
number_first f (fin s m e) y n = tt

pub number_second : (f : Format) (x y : Float) → T (not (is_nan (add f x y))) → T (not (is_nan y))
number_second f x y n = number_first f y x (rw (add_comm f y x) n)

-- an infinity added to what gives no NaN is that infinity
add_inf : (f : Format) (x : Float) (t : Bool) → T (not (is_nan (add f x (inf t)))) → add f x (inf t) ≡ inf t
unfolding add is_nan
add_inf f nan t n = absurd n
add_inf f (inf true) true n = refl
add_inf f (inf true) false n = absurd n
add_inf f (inf false) true n = absurd n
add_inf f (inf false) false n = refl
add_inf f (fin s m e) t n = refl

add_nan : (f : Format) (x : Float) → add f x nan ≡ nan
add_nan f x = add_comm f x nan ∙ (unfold add in refl)

sum_mono : (f : Format) (s : Bool) (X p : ℕ) (s' : Bool) (X' p' : ℕ) (t : Bool) (Y q : ℕ) → 0 < p → 0 < p' → 0 < q → AtMost s (X * p') s' (X' * p)
    → T (le (sum f s (X * q) t (Y * p) (p * q)) (sum f s' (X' * q) t (Y * p') (p' * q)))
sum_mono f s X p s' X' p' t Y q P P' Q h =
    let a = summed f s (X * q) t (Y * p) (p * q) in
    let u = sum_sign s (X * q) t (Y * p) in
    let r = sum_size s (X * q) t (Y * p) in
    let b = summed f s' (X' * q) t (Y * p') (p' * q) in
    let v = sum_sign s' (X' * q) t (Y * p') in
    let w = sum_size s' (X' * q) t (Y * p') in
    subst (λ (z : Float). T (le z (sum f s' (X' * q) t (Y * p') (p' * q)))) (sym a.is)
    (subst (λ (z : Float). T (le (round f u r (p * q)) z)) (sym b.is)
    (round_at_most f u r (p * q) v w (p' * q) (mul-pos P Q) (mul-pos P' Q) (sums_order s X p s' X' p' t Y q u r v w h a.value b.value)))

add_mono : (f : Format) (y x x' : Float) → T (le x x') → T (not (is_nan (add f x y))) → T (not (is_nan (add f x' y))) → T (le (add f x y) (add f x' y))
unfolding add is_nan
add_mono f nan x x' h m n = absurd (subst (λ (z : Float). T (not (is_nan z))) (add_nan f x) m)
add_mono f (inf t) x x' h m n = rw (add_inf f x t m, add_inf f x' t n) (le_refl (inf t) tt)
add_mono f (fin t n d) x x' h i j =
    let y = fin t n d in
    le_cases (λ x x'. T (not (is_nan (add f x y))) → T (not (is_nan (add f x' y))) → T (le (add f x y) (add f x' y))) (λ x' k i j. inf_le (add f x' y) j) (λ x k i j. le_inf (add f x y) i)
    (λ s m e s' m' e' h i j. sum_mono f s (m * up e) (down e) s' (m' * up e') (down e') t (n * up d) (down d) (down_pos e) (down_pos e') (down_pos d) h) x x' h i j

pub add_mono_left : (f : Format) (x x' y : Float) → T (le x x') → T (not (is_nan (add f x y))) → T (not (is_nan (add f x' y))) → T (le (add f x y) (add f x' y))
add_mono_left f x x' y h i j = add_mono f y x x' h i j

pub add_mono_right : (f : Format) (x y y' : Float) → T (le y y') → T (not (is_nan (add f x y))) → T (not (is_nan (add f x y'))) → T (le (add f x y) (add f x y'))
add_mono_right f x y y' = rw (add_comm f x y, add_comm f x y') (add_mono f x y y')

-- ---- differences
pub finite_sub_number : (f : Format) (x y : Float) → IsFinite x → T (not (is_nan y)) → T (not (is_nan (sub f x y)))
unfolding sub
finite_sub_number f x y i j = finite_add_number f x (neg y) i (subst (λ (b : Bool). T (not b)) (sym (neg_number y)) j)

pub sub_number : (f : Format) (x y : Float) → IsFinite x → IsFinite y → T (not (is_nan (sub f x y)))
sub_number f x y i j = finite_sub_number f x y i (finite_number y j)

pub sub_mono_left : (f : Format) (x x' y : Float) → T (le x x') → T (not (is_nan (sub f x y))) → T (not (is_nan (sub f x' y))) → T (le (sub f x y) (sub f x' y))
unfolding sub
sub_mono_left f x x' y h i j = add_mono_left f x x' (neg y) h i j

pub sub_anti_right : (f : Format) (x y y' : Float) → T (le y y') → T (not (is_nan (sub f x y))) → T (not (is_nan (sub f x y'))) → T (le (sub f x y') (sub f x y))
unfolding sub
sub_anti_right f x y y' h i j = add_mono_right f x (neg y') (neg y) (le_neg y y' h) j i

round_not_negative : (f : Format) (u : Bool) (r c : ℕ) → 0 < c → AtMost false (0 * c) u (r * 1) → T (le nought (round f u r c))
round_not_negative f u r c C h = subst (λ (z : Float). T (le z (round f u r c))) (round_zero f false 1 (zero-lt-suc 0)) (round_at_most f false 0 1 u r c (zero-lt-suc 0) C h)

pub sub_not_negative : (f : Format) (x y : Float) → T (le y x) → T (not (is_nan (sub f x y))) → T (le nought (sub f x y))
unfolding sub neg
sub_not_negative f x y h n =
    le_cases (λ y x. T (not (is_nan (sub f x y))) → T (le nought (sub f x y))) (λ x k n. rw (add_inf f x false n) top)
    (λ y k n. let e = add_comm f (inf false) (neg y) in rw (e ∙ add_inf f (neg y) false (subst (λ (v : Float). T (not (is_nan v))) e n)) top) apart y x h n
  where
    top : T (le nought (inf false))
    top = unfold le in tt

    gap : (u : Bool) (r c : ℕ) (s : Bool) (A : ℕ) (t : Bool) (B : ℕ) → AtMost t B s A → plus u r + minus s A + minus (not t) B ≡ minus u r + plus s A + plus (not t) B → AtMost false (0 * c) u (r * 1)
    gap true r c s A true B h k = omega (arith, zero-mul c)
    gap true r c s A false B h k = omega (arith, zero-mul c)
    gap false r c s A t B h k = omega (arith, zero-mul c)

    apart : (t : Bool) (n : ℕ) (d : ℤ) (s : Bool) (m : ℕ) (e : ℤ) → AtMost t (n * up d * down e) s (m * up e * down d) → T (not (is_nan (sub f (fin s m e) (fin t n d)))) → T (le nought (sub f (fin s m e) (fin t n d)))
    apart t n d s m e h i =
        let A = m * up e * down d in
        let B = n * up d * down e in
        let c = down e * down d in
        let a = summed f s A (not t) B c in
        let u = sum_sign s A (not t) B in
        let r = sum_size s A (not t) B in
        unfold add in subst (λ (z : Float). T (le nought z)) (sym a.is) (round_not_negative f u r c (mul-pos (down_pos e) (down_pos d)) (gap u r c s A t B h a.value))

-- ---- products
pub mul_number : (f : Format) (x y : Float) → IsFinite x → IsFinite y → T (not (is_nan (mul f x y)))
unfolding mul
mul_number f (fin s m e) (fin t n d) i j = round_number f (unlike s t) (m * up e * (n * up d)) (down e * down d)
mul_number f nan y i j = elim i [ ]
mul_number f (inf _) y i j = elim i [ ]
mul_number f (fin s m e) nan i j = elim j [ ]
mul_number f (fin s m e) (inf _) i j = elim j [ ]

unlike_comm : (s t : Bool) → unlike s t ≡ unlike t s
unlike_comm true true = refl
unlike_comm true false = refl
unlike_comm false true = refl
unlike_comm false false = refl

pub mul_comm : (f : Format) (x y : Float) → mul f x y ≡ mul f y x
unfolding mul
mul_comm f nan nan = refl
mul_comm f nan (inf t) = refl
mul_comm f nan (fin t n d) = refl
mul_comm f (inf s) nan = refl
mul_comm f (inf s) (inf t) = ap inf (unlike_comm s t)
mul_comm f (inf s) (fin t n d) = ap (λ (u : Bool). cond (eqb n 0) nan (inf u)) (unlike_comm s t)
mul_comm f (fin s m e) nan = refl
mul_comm f (fin s m e) (inf t) = ap (λ (u : Bool). cond (eqb m 0) nan (inf u)) (unlike_comm s t)
mul_comm f (fin s m e) (fin t n d) = λ i. round f (unlike_comm s t i) (times (m * up e) (n * up d) i) (times (down e) (down d) i)

unlike_not : (s t : Bool) → unlike s (not t) ≡ not (unlike s t)
unlike_not true true = refl
unlike_not true false = refl
unlike_not false true = refl
unlike_not false false = refl

negative : (b s t : Bool) → cond b nan (inf (unlike s (not t))) ≡ neg (cond b nan (inf (unlike s t)))
unfolding neg
negative true s t = refl
negative false s t = ap inf (unlike_not s t)

pub mul_neg : (f : Format) (x y : Float) → mul f x (neg y) ≡ neg (mul f x y)
unfolding mul neg
mul_neg f nan y = refl
mul_neg f (inf s) nan = refl
mul_neg f (inf s) (inf t) = ap inf (unlike_not s t)
mul_neg f (inf s) (fin t n d) = negative (eqb n 0) s t
mul_neg f (fin s m e) nan = refl
mul_neg f (fin s m e) (inf t) = negative (eqb m 0) s t
mul_neg f (fin s m e) (fin t n d) = ap (λ (u : Bool). round f u (m * up e * (n * up d)) (down e * down d)) (unlike_not s t) ∙ rounded (unlike s t) (m * up e * (n * up d)) (down e * down d)
  where
    rounded : (u : Bool) (a c : ℕ) → round f (not u) a c ≡ neg (round f u a c)
    rounded true a c = sym (neg_neg (round f false a c)) ∙ ap neg (sym (round_neg f a c))
    rounded false a c = round_neg f a c

-- what has the negative sign and is not below 0 is a zero
negative_zero : (n : ℕ) (d : ℤ) → T (le nought (fin true n d)) → n ≡ 0
negative_zero n d h = zero_of_law n (up d) (up_pos d) (omega (arith, le→at_most false 0 (pos 0) true n d h))

positive : (m : ℕ) (e : ℤ) → T (le nought (fin false m e))
positive m e = at_most→le false 0 (pos 0) false m e (omega (arith, zero-mul (down e)))

decided : (b u : Bool) → T (not (is_nan (cond b nan (inf u)))) → cond b nan (inf u) ≡ inf u
unfolding is_nan
decided true u n = absurd n
decided false u n = refl

-- an infinity times a value that is not negative
inf_mul : (f : Format) (s : Bool) (y : Float) → T (le nought y) → T (not (is_nan (mul f (inf s) y))) → mul f (inf s) y ≡ inf s
unfolding mul le is_nan
inf_mul f s nan h n = absurd h
inf_mul f s (inf true) h n = absurd h
inf_mul f s (inf false) h n = ap inf (unlike_false s)
inf_mul f s (fin false k d) h n = decided (eqb k 0) (unlike s false) n ∙ ap inf (unlike_false s)
inf_mul f s (fin true k d) h n = absurd (subst (λ (b : Bool). T (not (is_nan (cond b nan (inf (unlike s true)))))) (is_true (eqb k 0) (eq→eqb (negative_zero k d h))) n)

-- a value times ∞ is -∞, or the value is not negative
mul_inf : (f : Format) (x : Float) → T (not (is_nan (mul f x (inf false)))) → (mul f x (inf false) ≡ inf true) ⊎ T (le nought x)
unfolding mul le is_nan
mul_inf f nan n = absurd n
mul_inf f (inf true) n = inl refl
mul_inf f (inf false) n = inr tt
mul_inf f (fin true m e) n = inl (decided (eqb m 0) true n)
mul_inf f (fin false m e) n = inr (positive m e)

mul_finite : (f : Format) (s : Bool) (m : ℕ) (e : ℤ) (s' : Bool) (m' : ℕ) (e' : ℤ) (t : Bool) (n : ℕ) (d : ℤ) → T (le nought (fin t n d)) → AtMost s (m * up e * down e') s' (m' * up e' * down e)
    → T (le (mul f (fin s m e) (fin t n d)) (mul f (fin s' m' e') (fin t n d)))
unfolding mul
mul_finite f s m e s' m' e' t n d z h =
    round_at_most f (unlike s t) (m * up e * (n * up d)) (down e * down d) (unlike s' t) (m' * up e' * (n * up d)) (down e' * down d) (mul-pos (down_pos e) (down_pos d)) (mul-pos (down_pos e') (down_pos d))
    (products_order s (m * up e) (down e) s' (m' * up e') (down e') t (n * up d) (down d) (none t z) h)
  where
    none : (t : Bool) → T (le nought (fin t n d)) → t ≡ true → n * up d ≡ 0
    none true z q = ap (λ (k : ℕ). k * up d) (negative_zero n d z) ∙ zero-mul (up d)
    none false z q = absurd (false≢true q)

times_mono : (f : Format) (y x x' : Float) → T (le nought y) → T (le x x') → T (not (is_nan (mul f x y))) → T (not (is_nan (mul f x' y))) → T (le (mul f x y) (mul f x' y))
times_mono f nan x x' z h i j = absurd (unfold le in z)
times_mono f (inf true) x x' z h i j = absurd (unfold le in z)
times_mono f (inf false) x x' z h i j = elim (mul_inf f x i) [
  | inl e ↦ rw e (inf_le (mul f x' (inf false)) j)
  | inr g ↦
      let e = mul_comm f x' (inf false) in
      rw (e ∙ inf_mul f false x' (le_trans nought x x' g h) (subst (λ (v : Float). T (not (is_nan v))) e j)) (le_inf (mul f x (inf false)) i)
]
times_mono f (fin t n d) x x' z h i j =
    let y = fin t n d in
    le_cases (λ x x'. T (not (is_nan (mul f x y))) → T (not (is_nan (mul f x' y))) → T (le (mul f x y) (mul f x' y)))
    (λ x' k i j. rw (inf_mul f true y z i) (inf_le (mul f x' y) j)) (λ x k i j. rw (inf_mul f false y z j) (le_inf (mul f x y) i))
    (λ s m e s' m' e' h i j. mul_finite f s m e s' m' e' t n d z h) x x' h i j

pub mul_mono_left : (f : Format) (x x' y : Float) → T (le nought y) → T (le x x') → T (not (is_nan (mul f x y))) → T (not (is_nan (mul f x' y))) → T (le (mul f x y) (mul f x' y))
mul_mono_left f x x' y z h i j = times_mono f y x x' z h i j

pub mul_mono_right : (f : Format) (x y y' : Float) → T (le nought x) → T (le y y') → T (not (is_nan (mul f x y))) → T (not (is_nan (mul f x y'))) → T (le (mul f x y) (mul f x y'))
mul_mono_right f x y y' = rw (mul_comm f x y, mul_comm f x y') (times_mono f x y y')

-- a value that is not negative is finite, or ∞
up_to : (x : Float) → T (le nought x) → IsFinite x ⊎ (x ≡ inf false)
unfolding le
up_to nan h = absurd h
up_to (inf true) h = absurd h
up_to (inf false) h = inr refl
up_to (fin s m e) h = inl tt

pub mul_mono : (f : Format) (x x' y y' : Float) → T (le nought x) → T (le x x') → T (le nought y) → T (le y y') → T (not (is_nan (mul f x y))) → T (not (is_nan (mul f x' y'))) → T (le (mul f x y) (mul f x' y'))
mul_mono f x x' y y' a h b k i j =
    let a' = le_trans nought x x' a h in
    let b' = le_trans nought y y' b k in
    elim (up_to x' a') [
      | inr e ↦ past y' (ap (λ (v : Float). mul f v y') e) b'
      | inl p ↦ elim (up_to y' b') [
        | inr e ↦ past x' (ap (mul f x') e ∙ mul_comm f x' (inf false)) a'
        | inl q ↦
            let y-finite = between_finite nought y y' tt q b k in
            let middle = mul_number f x' y p y-finite in
            le_trans (mul f x y) (mul f x' y) (mul f x' y') (mul_mono_left f x x' y b h i middle) (mul_mono_right f x' y y' a' k middle j)
      ]
    ]
  where
    past : (z : Float) → mul f x' y' ≡ mul f (inf false) z → T (le nought z) → T (le (mul f x y) (mul f x' y'))
    past z e g = subst (λ (v : Float). T (le (mul f x y) v)) (sym (e ∙ inf_mul f false z g (subst (λ (v : Float). T (not (is_nan v))) e j))) (le_inf (mul f x y) i)

pub mul_not_negative : (f : Format) (x y : Float) → T (le nought x) → T (le nought y) → T (not (is_nan (mul f x y))) → T (le nought (mul f x y))
mul_not_negative f x y a b n =
    subst (λ (v : Float). T (le v (mul f x y))) zeros (mul_mono f nought x nought y (le_refl nought no_nan) a (le_refl nought no_nan) b (mul_number f nought nought tt tt) n)
  where
    no_nan : T (not (is_nan nought))
    no_nan = finite_number nought tt

    zeros : mul f nought nought ≡ nought
    zeros = unfold mul in round_zero f false 1 (zero-lt-suc 0)

-- ---- mixes
-- 2 ^ 128, above every finite value of binary32
abbrev bound : Float
bound = fin false 1 (pos 128)

wide : (x : Float) → T (not (is_nan (narrow_of x))) → T (not (is_nan x))
wide x n = subst (λ (b : Bool). T (not b)) (narrow_number x) n

pub rest_lo : (w : Float) → T (le nought w) → T (le w one) → T (le nought (sub binary64 one w))
rest_lo w z h = sub_not_negative binary64 one w h (sub_number binary64 one w tt (between_finite nought w one tt tt z h))

pub rest_hi : (w : Float) → T (le nought w) → T (le w one) → T (le (sub binary64 one w) one)
rest_hi w z h =
    subst (λ (v : Float). T (le (sub binary64 one w) v)) less_nought
    (sub_anti_right binary64 one nought w z (sub_number binary64 one nought tt tt) (sub_number binary64 one w tt (between_finite nought w one tt tt z h)))
  where
    less_nought : sub binary64 one nought ≡ one
    less_nought = unfold sub in refl

pub mix_mono_first : (a a' b w : Float) → T (le nought w) → T (le w one) → T (le a a') → T (not (is_nan (mix_of a b w))) → T (not (is_nan (mix_of a' b w))) → T (le (mix_of a b w) (mix_of a' b w))
unfolding mix_of of_bits
mix_mono_first a a' b w lo hi h i j =
    let v = sub binary64 one w in
    let x = mul binary64 v a in
    let x' = mul binary64 v a' in
    let y = mul binary64 w b in
    let m = wide (add binary64 x y) i in
    let n = wide (add binary64 x' y) j in
    narrow_mono (add binary64 x y) (add binary64 x' y) (add_mono_left binary64 x x' y (mul_mono_right binary64 v a a' (rest_lo w lo hi) h (number_first binary64 x y m) (number_first binary64 x' y n)) m n)

pub mix_mono_second : (a b b' w : Float) → T (le nought w) → T (le w one) → T (le b b') → T (not (is_nan (mix_of a b w))) → T (not (is_nan (mix_of a b' w))) → T (le (mix_of a b w) (mix_of a b' w))
unfolding mix_of of_bits
mix_mono_second a b b' w lo hi h i j =
    let x = mul binary64 (sub binary64 one w) a in
    let y = mul binary64 w b in
    let y' = mul binary64 w b' in
    let m = wide (add binary64 x y) i in
    let n = wide (add binary64 x y') j in
    narrow_mono (add binary64 x y) (add binary64 x y') (add_mono_right binary64 x y y' (mul_mono_right binary64 w b b' lo h (number_second binary64 x y m) (number_second binary64 x y' n)) m n)

-- a finite value of binary32 is below 2 ^ 128 in size
held_bound : (x : Float) → T (fits binary32 x) → IsFinite x → T (le (abs_of x) bound)
unfolding abs_of fits
held_bound (fin s zero e) h i = at_most→le false 0 e false 1 (pos 128) (least (up e) (1 * 2 ^ 128 * down e))
  where
    least : (u b : ℕ) → AtMost false (0 * u * 1) false b
    least u b = omega (arith, zero-mul u)
held_bound (fin s (suc m) e) h i =
    at_most→le false (suc m) e false 1 (pos 128)
    (go (suc m * up e) (2 ^ 128) (down e) (ltb→lt (suc m * up e) (2 ^ 128 * down e) (and_r (eqb (suc m % 2) 1 && ltb (suc m) (2 ^ 24) && leb (down e) (2 ^ 149)) (ltb (suc m * up e) (2 ^ 128 * down e)) h)))
  where
    -- `omega` takes no number of more than 38 digits
    go : (a B c : ℕ) → a < B * c → AtMost false (a * 1) false (1 * B * c)
    go a B c h = omega arith
held_bound nan h i = elim i [ ]
held_bound (inf _) h i = elim i [ ]

neg_finite : (x : Float) → IsFinite x → IsFinite (neg x)
unfolding neg
neg_finite (fin s m e) i = tt
neg_finite nan i = elim i [ ]
neg_finite (inf _) i = elim i [ ]

-- a product of a weight and a value of at most 2 ^ 128 in size is finite
product_finite : (w x : Float) → T (le nought w) → T (le w one) → T (le (abs_of x) bound) → IsFinite (mul binary64 w x)
product_finite w x lo hi h =
    let i = between_finite nought w one tt tt lo hi in
    let below = ge_of_abs_le x bound h in
    let above = le_of_abs_le x bound h in
    let j = between_finite (neg bound) x bound (neg_finite bound tt) tt below above in
    between_finite (neg bound) (mul binary64 w x) bound (neg_finite bound tt) tt
    (subst (λ (v : Float). T (le (neg bound) v)) (ap neg (mul_neg binary64 w x) ∙ neg_neg (mul binary64 w x)) (le_neg (mul binary64 w (neg x)) bound
    (most (neg x) i (neg_finite x j) (subst (λ (v : Float). T (le (neg x) v)) (neg_neg bound) (le_neg (neg bound) x below)))))
    (most x i j above)
  where
    whole : mul binary64 one bound ≡ bound
    whole = unfold mul in refl

    most : (x : Float) → IsFinite w → IsFinite x → T (le x bound) → T (le (mul binary64 w x) bound)
    most x i j h =
        let n = mul_number binary64 w bound i tt in
        le_trans (mul binary64 w x) (mul binary64 w bound) bound (mul_mono_right binary64 w x bound lo h (mul_number binary64 w x i j) n)
        (subst (λ (v : Float). T (le (mul binary64 w bound) v)) whole (mul_mono_left binary64 w one bound (positive 1 (pos 128)) hi n (mul_number binary64 one bound tt tt)))

pub mix_number : (a b w : Float) → T (fits binary32 a) → T (fits binary32 b) → IsFinite a → IsFinite b → T (le nought w) → T (le w one) → T (not (is_nan (mix_of a b w)))
unfolding mix_of of_bits
mix_number a b w A B i j lo hi =
    let v = sub binary64 one w in
    let x = mul binary64 v a in
    let y = mul binary64 w b in
    subst (λ (t : Bool). T (not t)) (sym (narrow_number (add binary64 x y)))
    (add_number binary64 x y (product_finite v a (rest_lo w lo hi) (rest_hi w lo hi) (held_bound a A i)) (product_finite w b lo hi (held_bound b B j)))
