-- The order of floats: `le`, `lt` and `eq` over all that are no NaN, the infinities too, and what `neg` and `abs_of` make of it. Assumes nothing.
-- `T (not (is_nan x))` says that x is no NaN. A comparison that holds says so of both of its operands.
--     nought, minus_nought, one                 0, −0 and 1
--     finite, finite_number                     neither a NaN nor an infinity, so no NaN
--     le→at_most, at_most→le                    two finite values compare as their fractions, each over the other's denominator
--     ltb_over, eqb_over, below_over, level_over  numbers over one denominator compare as their numerators, signed ones too
--     lt_over, eq_over                          so do two values
--     inf_le, le_inf                            -∞ is at most each value, and each at most ∞
--     le_cases                                  what holds of -∞ and any number, of any number and ∞, and of two finite values in order holds wherever one value is at most another
--     number_left, number_right                 of two values that compare neither is a NaN
--     le_of_lt, le_of_eq, ge_of_eq              what is less or equal is at most, and what is equal at least
--     le_refl, le_trans, le_total               `le` is an order of all that is no NaN
--     le_of_not_lt, lt_of_not_le                what is not less is at least, and what is not at most is greater
--     lt_not_le, le_is_not_lt, lt_is_not_le     what is less is not at least, and the other way round
--     not_below, not_above                      nothing is below -∞, and nothing above ∞
--     between_finite                            what lies between two finite values is finite
--     lt_irrefl, lt_trans, lt_of_le_of_lt, lt_of_lt_of_le  `lt` passes on, and no value is less than itself
--     eq_of_le_le                               two values that are at most each other are equal
--     eq_refl, eq_sym, eq_trans                 `eq` is an equality of all that is no NaN
--     eq_zeros                                  zeros of either sign are equal
--     neg_neg, neg_number                       `neg` undoes itself, and makes a NaN of nothing else
--     le_neg, lt_neg                            it turns both orders round
--     abs_neg, abs_number, abs_fits             a size has no sign, is a NaN only of one, and is held where the value is
--     abs_is, abs_not_negative, le_abs          it is the value or the value's negative, not negative, and at least the value
--     abs_le, le_of_abs_le, ge_of_abs_le        it is at most k just where the value lies between -k and k
--     eq_held                                   two equal values that one format holds are the same value, or both zeros
use Rattle.std.proofs.Common.{◌≡◌, ℕ, zero, suc, ◌+◌, ◌*◌, ◌<◌, Bool, true, false, not, ◌&&◌, ◌||◌, T, eqb, ltb, ◌⊎◌, ℤ, pos, sym, refl, ap, ◌∙◌, subst, inl, inr, lt_of_mul-lt-mul_right, mul-lt-mul_of_pos_right, mul-pos, zero-mul, arith, eqb→eq, ltb-true, lt-ltb, eq-eqb, eqb-true}
use native.Mathlib.Nat.{eq_of_mul-eq-mul_right}
use mathlib.Core.Bool.{beq}
use lib.Dec.{not_T}
use lib.Ieee.{Float, nan, inf, fin, Format, up, down, neg, below, level, le, lt, eq, is_nan, fits}
use lib.Ieee.Fits.{up_pos, down_pos, and_l, and_r}
use lib.Ieee.Exact.{HasValue}
use Rattle.ground.proofs.Laws.Bools.{both_ways}
use Rattle.numbers.specs.Scalar.{abs_of}
use Rattle.numbers.proofs.floats.Values.{with_value}
use Rattle.numbers.proofs.floats.Held.{value_unique}
use Rattle.numbers.proofs.floats.Differences.{or_split, or_l, or_r, of_below, of_not_below, of_level, at_most, of_at_most, flip, nothing, through, zero_of_law}
-- `AtMost s a t b` is ±a ≤ ±b of signed whole numbers, negative where s or t is true.
pub use Rattle.numbers.proofs.floats.Differences.{plus, minus, AtMost}

abbrev pub nought : Float
nought = fin false 0 (pos 0)

abbrev pub minus_nought : Float
minus_nought = fin true 0 (pos 0)

abbrev pub one : Float
one = fin false 1 (pos 0)

abbrev pub IsFinite : Float → Type 0
IsFinite nan = ⊥
IsFinite (inf s) = ⊥
IsFinite (fin s m e) = Unit

pub finite_number : (x : Float) → IsFinite x → T (not (is_nan x))
unfolding is_nan
finite_number (fin s m e) i = tt
finite_number nan i = elim i [ ]
finite_number (inf _) i = elim i [ ]

-- ---- two finite values compare as fractions
pub le→at_most : (s : Bool) (m : ℕ) (e : ℤ) (t : Bool) (n : ℕ) (d : ℤ) → T (le (fin s m e) (fin t n d)) → AtMost s (m * up e * down d) t (n * up d * down e)
unfolding le
le→at_most s m e t n d h = at_most s (m * up e * down d) t (n * up d * down e) h

pub at_most→le : (s : Bool) (m : ℕ) (e : ℤ) (t : Bool) (n : ℕ) (d : ℤ) → AtMost s (m * up e * down d) t (n * up d * down e) → T (le (fin s m e) (fin t n d))
unfolding le
at_most→le s m e t n d h = of_at_most s (m * up e * down d) t (n * up d * down e) h

-- ---- two values over one denominator
-- X / c and Y / c are a / k and b / k
pub ltb_over : (X Y a b c k : ℕ) → 0 < c → 0 < k → X * c ≡ a * k → Y * c ≡ b * k → ltb X Y ≡ ltb a b
ltb_over X Y a b c k C K p q =
    both_ways (ltb X Y) (ltb a b)
    (λ t. lt-ltb a b (lt_of_mul-lt-mul_right k (subst (λ (z : ℕ). z < b * k) p (subst (λ (z : ℕ). X * c < z) q (mul-lt-mul_of_pos_right (ltb-true X Y t) C)))))
    (λ t. lt-ltb X Y (lt_of_mul-lt-mul_right c (subst (λ (z : ℕ). z < Y * c) (sym p) (subst (λ (z : ℕ). a * k < z) (sym q) (mul-lt-mul_of_pos_right (ltb-true a b t) K)))))

pub eqb_over : (X Y a b c k : ℕ) → 0 < c → 0 < k → X * c ≡ a * k → Y * c ≡ b * k → eqb X Y ≡ eqb a b
eqb_over X Y a b c k C K p q =
    both_ways (eqb X Y) (eqb a b)
    (λ t. eq-eqb a b (eq_of_mul-eq-mul_right k K a b (sym p ∙ ap (λ (z : ℕ). z * c) (eqb-true X Y t) ∙ q)))
    (λ t. eq-eqb X Y (eq_of_mul-eq-mul_right c C X Y (p ∙ ap (λ (z : ℕ). z * k) (eqb-true a b t) ∙ sym q)))

pub below_over : (s : Bool) (X : ℕ) (t : Bool) (Y a b c k : ℕ) → 0 < c → 0 < k → X * c ≡ a * k → Y * c ≡ b * k → below s X t Y ≡ below s a t b
below_over false X false Y a b c k C K p q = ltb_over X Y a b c k C K p q
below_over false X true Y a b c k C K p q = refl
below_over true X false Y a b c k C K p q = ltb_over 0 (X + Y) 0 (a + b) c k C K (zero-mul c ∙ sym (zero-mul k)) (omega (arith, p, q))
below_over true X true Y a b c k C K p q = ltb_over Y X b a c k C K q p

pub level_over : (s : Bool) (X : ℕ) (t : Bool) (Y a b c k : ℕ) → 0 < c → 0 < k → X * c ≡ a * k → Y * c ≡ b * k → level s X t Y ≡ level s a t b
level_over s X t Y a b c k C K p q = λ i. eqb_over X Y a b c k C K p q i && (beq s t || eqb_over X 0 a 0 c k C K p (zero-mul c ∙ sym (zero-mul k)) i)

-- by the two fractions
over : {R : Type 0} (g : Float → Float → R) (w : Bool → ℕ → Bool → ℕ → R) → ((s : Bool) (m : ℕ) (e : ℤ) (t : Bool) (n : ℕ) (d : ℤ) → g (fin s m e) (fin t n d) ≡ w s (m * up e * down d) t (n * up d * down e))
    → ((s : Bool) (X : ℕ) (t : Bool) (Y a b c k : ℕ) → 0 < c → 0 < k → X * c ≡ a * k → Y * c ≡ b * k → w s X t Y ≡ w s a t b)
    → (x y : Float) (s : Bool) (a : ℕ) (t : Bool) (b c : ℕ) → 0 < c → HasValue x s a c → HasValue y t b c → g x y ≡ w s a t b
over g w is same x y s a t b c C h k =
    with_value (λ x. g x y ≡ w s a t b) x s a c h
    (λ m e p. with_value (λ y. g (fin s m e) y ≡ w s a t b) y t b c k
    (λ n d q. is s m e t n d
    ∙ same s (m * up e * down d) t (n * up d * down e) a b c (down e * down d) C (mul-pos (down_pos e) (down_pos d)) (omega (arith, ap (λ (z : ℕ). z * down d) p)) (omega (arith, ap (λ (z : ℕ). z * down e) q))))

pub lt_over : (x y : Float) (s : Bool) (a : ℕ) (t : Bool) (b c : ℕ) → 0 < c → HasValue x s a c → HasValue y t b c → lt x y ≡ below s a t b
unfolding lt
lt_over = over lt below (λ s m e t n d. refl) below_over

pub eq_over : (x y : Float) (s : Bool) (a : ℕ) (t : Bool) (b c : ℕ) → 0 < c → HasValue x s a c → HasValue y t b c → eq x y ≡ level s a t b
unfolding eq
eq_over = over eq level (λ s m e t n d. refl) level_over

-- ---- the order by cases
pub inf_le : (x : Float) → T (not (is_nan x)) → T (le (inf true) x)
unfolding le is_nan
inf_le nan n = absurd n
inf_le (inf true) n = tt
inf_le (inf false) n = tt
inf_le (fin s m e) n = tt

pub le_inf : (x : Float) → T (not (is_nan x)) → T (le x (inf false))
unfolding le is_nan
le_inf nan n = absurd n
le_inf (inf true) n = tt
le_inf (inf false) n = tt
le_inf (fin s m e) n = tt

pub le_cases : (P : Float → Float → Type 0) → ((y : Float) → T (not (is_nan y)) → P (inf true) y) → ((x : Float) → T (not (is_nan x)) → P x (inf false))
    → ((s : Bool) (m : ℕ) (e : ℤ) (t : Bool) (n : ℕ) (d : ℤ) → AtMost s (m * up e * down d) t (n * up d * down e) → P (fin s m e) (fin t n d)) → (x y : Float) → T (le x y) → P x y
unfolding le is_nan
le_cases P a b c nan y h = absurd h
le_cases P a b c (inf s) nan h = absurd h
le_cases P a b c (inf true) (inf t) h = a (inf t) tt
le_cases P a b c (inf true) (fin t n d) h = a (fin t n d) tt
le_cases P a b c (inf false) (inf true) h = absurd h
le_cases P a b c (inf false) (inf false) h = b (inf false) tt
le_cases P a b c (inf false) (fin t n d) h = absurd h
le_cases P a b c (fin s m e) nan h = absurd h
le_cases P a b c (fin s m e) (inf true) h = absurd h
le_cases P a b c (fin s m e) (inf false) h = b (fin s m e) tt
le_cases P a b c (fin s m e) (fin t n d) h = c s m e t n d (at_most s (m * up e * down d) t (n * up d * down e) h)

pub number_left : (x y : Float) → T (le x y) → T (not (is_nan x))
unfolding is_nan
number_left = le_cases (λ x y. T (not (is_nan x))) (λ y n. tt) (λ x n. n) (λ s m e t n d h. tt)

pub number_right : (x y : Float) → T (le x y) → T (not (is_nan y))
unfolding is_nan
number_right = le_cases (λ x y. T (not (is_nan y))) (λ y n. n) (λ x n. tt) (λ s m e t n d h. tt)

-- ---- `le` is an order
pub le_of_lt : (x y : Float) → T (lt x y) → T (le x y)
unfolding le
le_of_lt x y h = or_l (lt x y) (eq x y) h

pub le_of_eq : (x y : Float) → T (eq x y) → T (le x y)
unfolding le
le_of_eq x y h = or_r (lt x y) (eq x y) h

pub le_refl : (x : Float) → T (not (is_nan x)) → T (le x x)
unfolding le is_nan
le_refl nan n = absurd n
le_refl (inf true) n = tt
le_refl (inf false) n = tt
le_refl (fin s m e) n = of_at_most s (m * up e * down e) s (m * up e * down e) (omega arith)

pub le_of_not_lt : (x y : Float) → T (not (is_nan x)) → T (not (is_nan y)) → T (not (lt x y)) → T (le y x)
unfolding le is_nan
le_of_not_lt nan y m n h = absurd m
le_of_not_lt (inf s) nan m n h = absurd n
le_of_not_lt (inf true) (inf true) m n h = tt
le_of_not_lt (inf true) (inf false) m n h = absurd h
le_of_not_lt (inf false) (inf true) m n h = tt
le_of_not_lt (inf false) (inf false) m n h = tt
le_of_not_lt (inf true) (fin t o d) m n h = absurd h
le_of_not_lt (inf false) (fin t o d) m n h = tt
le_of_not_lt (fin s k e) nan m n h = absurd n
le_of_not_lt (fin s k e) (inf true) m n h = tt
le_of_not_lt (fin s k e) (inf false) m n h = absurd h
le_of_not_lt (fin s k e) (fin t o d) m n h = of_at_most t (o * up d * down e) s (k * up e * down d) (of_not_below s (k * up e * down d) t (o * up d * down e) h)

pub not_below : (x : Float) → T (lt x (inf true)) → ⊥
unfolding lt
not_below nan h = h
not_below (inf true) h = h
not_below (inf false) h = h
not_below (fin s m e) h = h

pub not_above : (y : Float) → T (lt (inf false) y) → ⊥
unfolding lt
not_above nan h = h
not_above (inf t) h = h
not_above (fin t n d) h = h

pub lt_not_le : (x y : Float) → T (lt x y) → T (le y x) → ⊥
unfolding lt
lt_not_le x y h k =
    le_cases (λ y x. T (lt x y) → ⊥) (λ x n. not_below x) (λ y n. not_above y)
    (λ t n d s m e g l. omega (arith, of_below s (m * up e * down d) t (n * up d * down e) l)) y x k h

opposite : (a b : Bool) → (T a → T b → ⊥) → (T (not b) → T a) → a ≡ not b
opposite true true h k = absurd (h tt tt)
opposite true false h k = refl
opposite false true h k = refl
opposite false false h k = absurd (k tt)

turn : (a b : Bool) → a ≡ not b → b ≡ not a
turn true true e = e
turn true false e = refl
turn false true e = refl
turn false false e = e

pub le_is_not_lt : (x y : Float) → T (not (is_nan x)) → T (not (is_nan y)) → le x y ≡ not (lt y x)
le_is_not_lt x y m n = opposite (le x y) (lt y x) (λ h k. lt_not_le y x k h) (le_of_not_lt y x n m)

pub lt_is_not_le : (x y : Float) → T (not (is_nan x)) → T (not (is_nan y)) → lt x y ≡ not (le y x)
lt_is_not_le x y m n = turn (le y x) (lt x y) (le_is_not_lt y x n m)

pub le_total : (x y : Float) → T (not (is_nan x)) → T (not (is_nan y)) → T (le x y) ⊎ T (le y x)
le_total x y m n = go (lt x y) (le_of_lt x y) (le_of_not_lt x y m n)
  where
    go : (b : Bool) → (T b → T (le x y)) → (T (not b) → T (le y x)) → T (le x y) ⊎ T (le y x)
    go true h k = inl (h tt)
    go false h k = inr (k tt)

pub le_trans : (x y z : Float) → T (le x y) → T (le y z) → T (le x z)
le_trans x y z h k = le_cases (λ x y. T (le y z) → T (le x z)) (λ y n l. inf_le z (number_right y z l)) (λ x n. top x z n) (λ s m e t n d g. past s m e t n d z g) x y h k
  where
    top : (x z : Float) → T (not (is_nan x)) → T (le (inf false) z) → T (le x z)
    top x nan n l = absurd (unfold le in l)
    top x (inf true) n l = absurd (unfold le in l)
    top x (inf false) n l = le_inf x n
    top x (fin v o g) n l = absurd (unfold le in l)

    past : (s : Bool) (m : ℕ) (e : ℤ) (t : Bool) (n : ℕ) (d : ℤ) (z : Float) → AtMost s (m * up e * down d) t (n * up d * down e) → T (le (fin t n d) z) → T (le (fin s m e) z)
    past s m e t n d nan h k = absurd (unfold le in k)
    past s m e t n d (inf true) h k = absurd (unfold le in k)
    past s m e t n d (inf false) h k = unfold le in tt
    past s m e t n d (fin v o g) h k =
        at_most→le s m e v o g (through s (m * up e) (down e) t (n * up d) (down d) v (o * up g) (down g) (down_pos d) h (le→at_most t n d v o g k))

pub between_finite : (lo x hi : Float) → IsFinite lo → IsFinite hi → T (le lo x) → T (le x hi) → IsFinite x
unfolding le
between_finite (fin s m e) nan (fin t n d) i j h k = absurd k
between_finite (fin s m e) (inf true) (fin t n d) i j h k = absurd h
between_finite (fin s m e) (inf false) (fin t n d) i j h k = absurd k
between_finite (fin s m e) (fin r o g) (fin t n d) i j h k = tt
between_finite nan _ hi i j h k = elim i [ ]
between_finite (inf _) _ hi i j h k = elim i [ ]
between_finite (fin s m e) nan nan i j h k = elim j [ ]
between_finite (fin s m e) nan (inf _) i j h k = elim j [ ]
between_finite (fin s m e) (inf false) nan i j h k = elim j [ ]
between_finite (fin s m e) (inf false) (inf _) i j h k = elim j [ ]
between_finite (fin s m e) (inf true) nan i j h k = elim j [ ]
between_finite (fin s m e) (inf true) (inf _) i j h k = elim j [ ]
between_finite (fin s m e) (fin r o g) nan i j h k = elim j [ ]
between_finite (fin s m e) (fin r o g) (inf _) i j h k = elim j [ ]

-- ---- `lt`
pub lt_of_not_le : (x y : Float) → T (not (is_nan x)) → T (not (is_nan y)) → T (not (le x y)) → T (lt y x)
lt_of_not_le x y m n h = subst T (sym (lt_is_not_le y x n m)) h

pub lt_irrefl : (x : Float) → T (lt x x) → ⊥
lt_irrefl x h = lt_not_le x x h (le_of_lt x x h)

pub lt_of_le_of_lt : (x y z : Float) → T (le x y) → T (lt y z) → T (lt x z)
lt_of_le_of_lt x y z h k = lt_of_not_le z x (number_right y z (le_of_lt y z k)) (number_left x y h) (not_T (le z x) (λ g. lt_not_le y z k (le_trans z x y g h)))

pub lt_of_lt_of_le : (x y z : Float) → T (lt x y) → T (le y z) → T (lt x z)
lt_of_lt_of_le x y z h k = lt_of_not_le z x (number_right y z k) (number_left x y (le_of_lt x y h)) (not_T (le z x) (λ g. lt_not_le x y h (le_trans y z x k g)))

pub lt_trans : (x y z : Float) → T (lt x y) → T (lt y z) → T (lt x z)
lt_trans x y z h k = lt_of_lt_of_le x y z h (le_of_lt y z k)

-- ---- `eq`
pub eq_of_le_le : (x y : Float) → T (le x y) → T (le y x) → T (eq x y)
unfolding le
eq_of_le_le x y h k = elim (or_split (lt x y) (eq x y) h) [ inl l ↦ absurd (lt_not_le x y l k) | inr e ↦ e ]

pub ge_of_eq : (x y : Float) → T (eq x y) → T (le y x)
unfolding le
ge_of_eq nan y h = absurd h
ge_of_eq (inf s) nan h = absurd h
ge_of_eq (inf true) (inf true) h = tt
ge_of_eq (inf true) (inf false) h = absurd h
ge_of_eq (inf false) (inf true) h = absurd h
ge_of_eq (inf false) (inf false) h = tt
ge_of_eq (inf s) (fin t n d) h = absurd h
ge_of_eq (fin s m e) nan h = absurd h
ge_of_eq (fin s m e) (inf t) h = absurd h
ge_of_eq (fin s m e) (fin t n d) h = of_at_most t (n * up d * down e) s (m * up e * down d) (omega (arith, of_level s (m * up e * down d) t (n * up d * down e) h))

pub eq_refl : (x : Float) → T (not (is_nan x)) → T (eq x x)
eq_refl x n = eq_of_le_le x x (le_refl x n) (le_refl x n)

pub eq_sym : (x y : Float) → T (eq x y) → T (eq y x)
eq_sym x y h = eq_of_le_le y x (ge_of_eq x y h) (le_of_eq x y h)

pub eq_trans : (x y z : Float) → T (eq x y) → T (eq y z) → T (eq x z)
eq_trans x y z h k = eq_of_le_le x z (le_trans x y z (le_of_eq x y h) (le_of_eq y z k)) (le_trans z y x (ge_of_eq y z k) (ge_of_eq x y h))

pub eq_zeros : (s : Bool) (e : ℤ) (t : Bool) (d : ℤ) → T (eq (fin s 0 e) (fin t 0 d))
eq_zeros s e t d = eq_of_le_le (fin s 0 e) (fin t 0 d) (zeros s e t d) (zeros t d s e)
  where
    none : (e d : ℤ) → 0 * up e * down d ≡ 0
    none e d = ap (λ (z : ℕ). z * down d) (zero-mul (up e)) ∙ zero-mul (down d)

    zeros : (s : Bool) (e : ℤ) (t : Bool) (d : ℤ) → T (le (fin s 0 e) (fin t 0 d))
    zeros s e t d = at_most→le s 0 e t 0 d (nothing s (0 * up e * down d) t (0 * up d * down e) (none e d) (none d e))

-- ---- `neg` and `abs_of`
not_not : (b : Bool) → not (not b) ≡ b
not_not true = refl
not_not false = refl

pub neg_neg : (x : Float) → neg (neg x) ≡ x
unfolding neg
neg_neg nan = refl
neg_neg (inf s) = ap inf (not_not s)
neg_neg (fin s m e) = ap (λ (b : Bool). fin b m e) (not_not s)

pub neg_number : (x : Float) → is_nan (neg x) ≡ is_nan x
unfolding neg is_nan
neg_number nan = refl
neg_number (inf s) = refl
neg_number (fin s m e) = refl

pub le_neg : (x y : Float) → T (le x y) → T (le (neg y) (neg x))
unfolding neg
le_neg = le_cases (λ x y. T (le (neg y) (neg x))) (λ y n. le_inf (neg y) (rw neg_number n)) (λ x n. inf_le (neg x) (rw neg_number n))
    (λ s m e t n d h. at_most→le (not t) n d (not s) m e (flip s (m * up e * down d) t (n * up d * down e) h))

pub lt_neg : (x y : Float) → T (lt x y) → T (lt (neg y) (neg x))
lt_neg x y h =
    let k = le_neg x y (le_of_lt x y h) in
    lt_of_not_le (neg x) (neg y) (number_right (neg y) (neg x) k) (number_left (neg y) (neg x) k)
    (not_T (le (neg x) (neg y)) (λ g. lt_not_le x y h (subst (λ (z : Float). T (le z x)) (neg_neg y) (subst (λ (z : Float). T (le (neg (neg y)) z)) (neg_neg x) (le_neg (neg x) (neg y) g)))))

pub abs_neg : (x : Float) → abs_of (neg x) ≡ abs_of x
unfolding neg abs_of
abs_neg nan = refl
abs_neg (inf s) = refl
abs_neg (fin s m e) = refl

pub abs_number : (x : Float) → is_nan (abs_of x) ≡ is_nan x
unfolding abs_of is_nan
abs_number nan = refl
abs_number (inf s) = refl
abs_number (fin s m e) = refl

pub abs_fits : (f : Format) (x : Float) → T (fits f x) → T (fits f (abs_of x))
unfolding abs_of fits
abs_fits f nan h = tt
abs_fits f (inf s) h = tt
abs_fits f (fin s zero e) h = h
abs_fits f (fin s (suc m) e) h = h

pub abs_is : (x : Float) → (abs_of x ≡ x) ⊎ (abs_of x ≡ neg x)
unfolding neg abs_of
abs_is nan = inl refl
abs_is (inf true) = inr refl
abs_is (inf false) = inl refl
abs_is (fin true m e) = inr refl
abs_is (fin false m e) = inl refl

pub abs_not_negative : (x : Float) → T (not (is_nan x)) → T (le nought (abs_of x))
unfolding le abs_of is_nan
abs_not_negative nan n = absurd n
abs_not_negative (inf s) n = tt
abs_not_negative (fin s m e) n = of_at_most false (0 * 1 * down e) false (m * up e * 1) (omega (arith, zero-mul (down e)))

pub le_abs : (x : Float) → T (not (is_nan x)) → T (le x (abs_of x))
unfolding le abs_of is_nan
le_abs nan n = absurd n
le_abs (inf true) n = tt
le_abs (inf false) n = tt
le_abs (fin true m e) n = of_at_most true (m * up e * down e) false (m * up e * down e) (omega arith)
le_abs (fin false m e) n = of_at_most false (m * up e * down e) false (m * up e * down e) (omega arith)

pub abs_le : (x k : Float) → T (le (neg k) x) → T (le x k) → T (le (abs_of x) k)
abs_le x k h g = elim (abs_is x) [
  | inl e ↦ subst (λ (z : Float). T (le z k)) (sym e) g
  | inr e ↦ subst (λ (z : Float). T (le z k)) (sym e) (subst (λ (z : Float). T (le (neg x) z)) (neg_neg k) (le_neg (neg k) x h))
]

sized_number : (x k : Float) → T (le (abs_of x) k) → T (not (is_nan x))
sized_number x k h = subst (λ (b : Bool). T (not b)) (abs_number x) (number_left (abs_of x) k h)

pub le_of_abs_le : (x k : Float) → T (le (abs_of x) k) → T (le x k)
le_of_abs_le x k h = le_trans x (abs_of x) k (le_abs x (sized_number x k h)) h

pub ge_of_abs_le : (x k : Float) → T (le (abs_of x) k) → T (le (neg k) x)
ge_of_abs_le x k h = subst (λ (z : Float). T (le (neg k) z)) (neg_neg x) (le_neg (neg x) k (le_of_abs_le (neg x) k (subst (λ (z : Float). T (le z k)) (sym (abs_neg x)) h)))

-- ---- equal values of one format
pub eq_held : (f : Format) (x y : Float) → T (fits f x) → T (fits f y) → T (eq x y) → (x ≡ y) ⊎ (T (eq x nought) × T (eq y nought))
unfolding eq
eq_held f nan y i j h = absurd h
eq_held f (inf s) nan i j h = absurd h
eq_held f (inf true) (inf true) i j h = inl refl
eq_held f (inf true) (inf false) i j h = absurd h
eq_held f (inf false) (inf true) i j h = absurd h
eq_held f (inf false) (inf false) i j h = inl refl
eq_held f (inf s) (fin t n d) i j h = absurd h
eq_held f (fin s m e) nan i j h = absurd h
eq_held f (fin s m e) (inf t) i j h = absurd h
eq_held f (fin s m e) (fin t n d) i j h =
    let a = m * up e * down d in
    let b = n * up d * down e in
    let k : a ≡ b = eqb→eq a b (and_l (eqb a b) (beq s t || eqb a 0) h) in
    elim (or_split (beq s t) (eqb a 0) (and_r (eqb a b) (beq s t || eqb a 0) h)) [
      | inl q ↦ inl (same s t q i j k)
      | inr z ↦ inr (is_zero s m e d (eqb→eq a 0 z), is_zero t n d e (sym k ∙ eqb→eq a 0 z))
    ]
  where
    held : (s : Bool) → T (fits f (fin s m e)) → T (fits f (fin s n d)) → m * up e * down d ≡ n * up d * down e → fin s m e ≡ fin s n d
    held s i j k = value_unique f (fin s m e) (fin s n d) s (m * up e) (down e) (down_pos e) i j (refl, refl) (refl, sym k)

    same : (s t : Bool) → T (beq s t) → T (fits f (fin s m e)) → T (fits f (fin t n d)) → m * up e * down d ≡ n * up d * down e → fin s m e ≡ fin t n d
    same true true q i j k = held true i j k
    same true false q i j k = absurd q
    same false true q i j k = absurd q
    same false false q i j k = held false i j k

    is_zero : (s : Bool) (m : ℕ) (e d : ℤ) → m * up e * down d ≡ 0 → T (eq (fin s m e) nought)
    is_zero s m e d z = subst (λ (k : ℕ). T (eq (fin s k e) nought)) (sym (zero_of_law m (up e) (up_pos e) (zero_of_law (m * up e) (down d) (down_pos d) z))) (eq_zeros s e false (pos 0))
