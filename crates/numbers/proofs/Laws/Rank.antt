-- The order in which minimum and maximum place floats: that of `le`, with −0 below +0. Assumes nothing.
--     zero_is, zero_eq, zero_same    what equals 0 is a zero of either sign, zeros are equal, and those of one sign and format the same
--     Ranked                         x ranks at most y: x ≤ y, and they are not +0 and −0
--     ranked_same, ranked_trans      an order of all that is no NaN
--     ranked_below, ranked_not_below, ranked_not_above  what lies below ranks at most; and x ranks at most y just where y does not lie below it
--     ranked_only                    two values of one format that rank at most each other are the same, a zero's sign included
--     nan_not_above, nan_not_below   a NaN neither lies below anything nor has anything below it
--     one_pattern, same_pattern      a value of a format that is no NaN has one bit pattern there, and two that have the same are the same
use Rattle.std.proofs.Common.{◌≡◌, ℕ, zero, suc, ◌*◌, ◌<◌, Bool, true, false, not, ◌&&◌, ◌||◌, T, eqb, ◌⊎◌, ℤ, sym, refl, ap, ◌∙◌, subst, inl, inr, zero-mul, arith, eqb→eq}
use mathlib.Core.Bool.{beq}
use lib.Ieee.{Float, nan, inf, fin, Format, up, down, top, le, lt, eq, is_nan, fits, to_bits, of_bits}
use lib.Ieee.Fits.{up_pos, and_l, and_r}
use lib.Ieee.Bits.{of_bits-to_bits, to_bits-of_bits}
use Rattle.numbers.specs.Scalar.{is_zero, is_below}
use Rattle.numbers.proofs.floats.Held.{value_unique}
use Rattle.numbers.proofs.floats.Differences.{or_split, zero_of_law}
use Rattle.numbers.proofs.Laws.Order.{nought, le_of_lt, le_of_eq, le_refl, le_trans, le_of_not_lt, lt_not_le, eq_of_le_le, eq_trans, eq_zeros, eq_held}

-- ---- zeros
pub zero_is : (x : Float) → T (eq x nought) → T (is_zero true x) ⊎ T (is_zero false x)
unfolding eq
zero_is nan h = absurd h
zero_is (inf s) h = absurd h
zero_is (fin true zero e) h = inl tt
zero_is (fin false zero e) h = inr tt
zero_is (fin s (suc m) e) h =
    let a = suc m * up e * 1 in
    let b = 0 * 1 * down e in
    let z : suc m ≡ 0 = zero_of_law (suc m) (up e) (up_pos e) (zero_of_law (suc m * up e) 1 (omega arith) (eqb→eq a b (and_l (eqb a b) (beq s false || eqb a 0) h) ∙ zero-mul (down e))) in
    absurd (omega (arith, z))

pub zero_eq : (s t : Bool) (x y : Float) → T (is_zero s x) → T (is_zero t y) → T (eq x y)
zero_eq s t nan y h k = absurd h
zero_eq s t (inf u) y h k = absurd h
zero_eq s t (fin u (suc m) e) y h k = absurd h
zero_eq s t (fin u zero e) nan h k = absurd k
zero_eq s t (fin u zero e) (inf v) h k = absurd k
zero_eq s t (fin u zero e) (fin v (suc n) d) h k = absurd k
zero_eq s t (fin u zero e) (fin v zero d) h k = eq_zeros u e v d

one_sign : (x : Float) → T (is_zero true x) → T (is_zero false x) → ⊥
one_sign nan h k = h
one_sign (inf s) h k = h
one_sign (fin true zero e) h k = k
one_sign (fin false zero e) h k = h
one_sign (fin s (suc m) e) h k = h

pub zero_same : (f : Format) (s : Bool) (x y : Float) → T (fits f x) → T (fits f y) → T (is_zero s x) → T (is_zero s y) → x ≡ y
zero_same f s nan y i j h k = absurd h
zero_same f s (inf u) y i j h k = absurd h
zero_same f s (fin u (suc m) e) y i j h k = absurd h
zero_same f s (fin u zero e) nan i j h k = absurd k
zero_same f s (fin u zero e) (inf v) i j h k = absurd k
zero_same f s (fin u zero e) (fin v (suc n) d) i j h k = absurd k
zero_same f s (fin u zero e) (fin v zero d) i j h k = go s u v h k i j
  where
    at : (s : Bool) → T (fits f (fin s zero e)) → T (fits f (fin s zero d)) → fin s zero e ≡ fin s zero d
    at s i j = value_unique f (fin s zero e) (fin s zero d) s 0 1 (omega arith) i j (refl, nil e) (refl, nil d)
      where
        nil : (e : ℤ) → 0 * up e * 1 ≡ 0 * down e
        nil e = ap (λ (n : ℕ). n * 1) (zero-mul (up e)) ∙ sym (zero-mul (down e))

    go : (s u v : Bool) → T (beq s u) → T (beq s v) → T (fits f (fin u zero e)) → T (fits f (fin v zero d)) → fin u zero e ≡ fin v zero d
    go true true true h k i j = at true i j
    go false false false h k i j = at false i j
    go true false v h k i j = absurd h
    go false true v h k i j = absurd h
    go true true false h k i j = absurd k
    go false false true h k i j = absurd k

-- ---- the order
abbrev pub Ranked : Float → Float → Type 0
Ranked x y = T (le x y) × (T (is_zero false x) → T (is_zero true y) → ⊥)

pub ranked_same : (x : Float) → T (not (is_nan x)) → Ranked x x
ranked_same x n = (le_refl x n, λ a b. one_sign x b a)

pub ranked_trans : (x y z : Float) → Ranked x y → Ranked y z → Ranked x z
ranked_trans x y z p q = (le_trans x y z p.0 q.0, apart)
  where
    apart : T (is_zero false x) → T (is_zero true z) → ⊥
    apart a b =
        let back : T (le y x) = le_trans y z x q.0 (le_of_eq z x (zero_eq true false z x b a)) in
        let none : T (eq y nought) = eq_trans y x nought (eq_of_le_le y x back p.0) (zero_eq false false x nought a tt) in
        elim (zero_is y none) [ inl h ↦ p.1 a h | inr h ↦ q.1 h b ]

pub ranked_below : (x y : Float) → T (is_below x y) → Ranked x y
ranked_below x y h = elim (or_split (lt x y) (is_zero true x && is_zero false y) h) [
  | inl l ↦ (le_of_lt x y l, λ a b. lt_not_le x y l (le_of_eq y x (zero_eq true false y x b a)))
  | inr z ↦
      let a = and_l (is_zero true x) (is_zero false y) z in
      (le_of_eq x y (zero_eq true false x y a (and_r (is_zero true x) (is_zero false y) z)), λ b c. one_sign x a b)
]

neither : (a b c : Bool) → T (not (a || (b && c))) → T (not a) × (T b → T c → ⊥)
neither true b c h = absurd h
neither false true true h = absurd h
neither false true false h = (tt, λ x y. y)
neither false false c h = (tt, λ x y. x)

pub ranked_not_below : (x y : Float) → T (not (is_nan x)) → T (not (is_nan y)) → T (not (is_below y x)) → Ranked x y
ranked_not_below x y m n h = let k = neither (lt y x) (is_zero true y) (is_zero false x) h in (le_of_not_lt y x n m k.0, λ a b. k.1 b a)

pub ranked_only : (f : Format) (x y : Float) → T (fits f x) → T (fits f y) → Ranked x y → Ranked y x → x ≡ y
ranked_only f x y i j p q = elim (eq_held f x y i j (eq_of_le_le x y p.0 q.0)) [
  | inl e ↦ e
  | inr z ↦ elim (zero_is x z.0) [
    | inl a ↦ elim (zero_is y z.1) [ inl b ↦ zero_same f true x y i j a b | inr b ↦ absurd (q.1 b a) ]
    | inr a ↦ elim (zero_is y z.1) [ inl b ↦ absurd (p.1 a b) | inr b ↦ zero_same f false x y i j a b ]
  ]
]

-- what ranks at least another does not lie below it
pub ranked_not_above : (x y : Float) → Ranked x y → T (not (is_below y x))
ranked_not_above x y p = refuted (is_below y x) below
  where
    below : T (is_below y x) → ⊥
    below h = elim (or_split (lt y x) (is_zero true y && is_zero false x) h) [
      | inl l ↦ lt_not_le y x l p.0
      | inr z ↦ p.1 (and_r (is_zero true y) (is_zero false x) z) (and_l (is_zero true y) (is_zero false x) z)
    ]

    refuted : (b : Bool) → (T b → ⊥) → T (not b)
    refuted true n = n tt
    refuted false n = tt

-- a NaN lies neither below nor above anything
pub nan_not_above : (x : Float) → is_below x nan ≡ false
unfolding lt
nan_not_above nan = refl
nan_not_above (inf s) = refl
nan_not_above (fin true zero e) = refl
nan_not_above (fin false zero e) = refl
nan_not_above (fin s (suc m) e) = refl

pub nan_not_below : (x : Float) → is_below nan x ≡ false
unfolding lt
nan_not_below x = refl

-- ---- patterns
pub one_pattern : (f : Format) (x : Float) (n : ℕ) → T (not (is_nan x)) → n < 2 * top f → of_bits f n ≡ x → n ≡ to_bits f x
one_pattern f x n m l e = sym (to_bits-of_bits f n l (subst (λ (v : Float). T (not (is_nan v))) (sym e) m)) ∙ ap (to_bits f) e

pub same_pattern : (f : Format) (x y : Float) → T (fits f x) → T (fits f y) → to_bits f x ≡ to_bits f y → x ≡ y
same_pattern f x y i j e = sym (of_bits-to_bits f x i) ∙ ap (of_bits f) e ∙ of_bits-to_bits f y j
