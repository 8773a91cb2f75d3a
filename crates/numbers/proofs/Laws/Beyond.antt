-- Of any three values of binary32, infinities and NaNs too, the two lists of roots are the same, or neither has a root strictly between 0 and 1. Assumes nothing.
--     Outside, AllOutside    a value is not strictly between 0 and 1, and no value of a list is
--     nan_outside, inf_outside  neither a NaN nor an infinity is strictly between them
--     beyond                 the two lists are the same, or both are all outside
use Rattle.std.proofs.Common.{◌≡◌, ℕ, zero, suc, ◌*◌, ◌^◌, ◌<◌, ◌≤◌, Bool, true, false, cond, not, ◌&&◌, T, eqb, ◌⊎◌, List, [], ◌∷◌, pos, sym, refl, ap, ◌∙◌, subst, inl, inr, le_trans, le_of_eq, mul-le-mul_right, zero-lt-suc, mul-pos, mul_right_comm, arith, lit≤}
use mathlib.Core.Bool.{false≢true}
use lib.Dec.{not_T}
use lib.Ieee.{Float, nan, inf, fin, binary32, binary64, up, down, unlike, round, neg, add, sub, mul, div, lt, le, fits, of_bits, to_bits}
use lib.Ieee.Fits.{up_pos, down_pos}
use lib.Ieee.Bits.{is_false}
use lib.Ieee.Order.{round_mono}
use Rattle.numbers.specs.Constants.{zero_of, one_of, two, four}
use Rattle.numbers.specs.SquareRoot.{sqrt_of, normal_root}
use Rattle.numbers.specs.EquationSolver.{is_linear, linear_roots, discriminant, upper_root, lower_root, square_roots_by, square_roots, roots_of, normal_roots_of}
use Rattle.numbers.specs.Whole.{Finite}
use Rattle.numbers.proofs.floats.Differences.{Signed, round_signed}
use Rattle.numbers.proofs.Laws.Order.{one, IsFinite, le→at_most, lt_not_le, ge_of_abs_le, le_of_abs_le}
use Rattle.numbers.proofs.Laws.Monotone.{add_comm, add_number, add_mono_left}
use Rattle.numbers.proofs.Laws.Exact.{round_value}
use Rattle.numbers.proofs.Laws.Bounds.{Within, within_more, within_finite, neg_within, le_of_within, mul_within}
use Rattle.numbers.proofs.Laws.SquareRoot.{infinite_root}
use Rattle.numbers.proofs.Laws.NormalRoots.{single_within, solvers_agree}

abbrev pub Outside : Float → Type 0
Outside t = (lt (zero_of binary64) t && lt t (one_of binary64)) ≡ false

unfoldable pub AllOutside : List Float → Type 0
AllOutside [] = Unit
AllOutside (t ∷ ts) = Outside t × AllOutside ts

-- ---- the lists
-- They are the same, or both have two roots, for a discriminant above 0.
same_or_two : (a b c : Float) → let d = discriminant a b c in let n = normal_root (to_bits binary64 d) in
    (normal_roots_of a b c ≡ roots_of a b c)
    ⊎ ((lt (zero_of binary64) d ≡ true) × (normal_roots_of a b c ≡ upper_root a b n ∷ lower_root a b n ∷ []) × (roots_of a b c ≡ upper_root a b (sqrt_of d) ∷ lower_root a b (sqrt_of d) ∷ []))
unfolding roots_of normal_roots_of square_roots square_roots_by
same_or_two a b c =
    let d = discriminant a b c in
    let n = normal_root (to_bits binary64 d) in
    go (is_linear a b) (lt (zero_of binary64) d) (linear_roots b c) (upper_root a b n ∷ lower_root a b n ∷ []) (upper_root a b (sqrt_of d) ∷ lower_root a b (sqrt_of d) ∷ []) _
  where
    go : (p q : Bool) (l x y z : List Float) → (cond p l (cond q x z) ≡ cond p l (cond q y z)) ⊎ ((q ≡ true) × (cond p l (cond q x z) ≡ x) × (cond p l (cond q y z) ≡ y))
    go true q l x y z = inl refl
    go false true l x y z = inr (refl, refl, refl)
    go false false l x y z = inl refl

-- ---- values that are outside
pub nan_outside : Outside nan
unfolding lt of_bits
nan_outside = refl

pub inf_outside : (s : Bool) → Outside (inf s)
unfolding lt of_bits
inf_outside true = refl
inf_outside false = refl

zero_outside : (s : Bool) → Outside (fin s 0 (pos 0))
unfolding lt of_bits
zero_outside true = refl
zero_outside false = refl

minus_outside : (x : Float) → Signed true x → Outside x
unfolding lt of_bits
minus_outside nan h = absurd h
minus_outside (inf t) h = inf_outside t
minus_outside (fin true m e) h = refl
minus_outside (fin false m e) h = absurd (false≢true h)

above_outside : (x : Float) → T (le one x) → Outside x
unfolding of_bits
above_outside x h = go (lt (zero_of binary64) x) (lt x one) (is_false (lt x one) (not_T (lt x one) (λ l. lt_not_le x one l h)))
  where
    go : (p q : Bool) → q ≡ false → (p && q) ≡ false
    go true q e = e
    go false q e = refl

-- ---- quotients
-- one of what is not finite, or by it, is outside
quotient_outside : (x y : Float) → (IsFinite x → IsFinite y → Outside (div binary64 x y)) → Outside (div binary64 x y)
unfolding div
quotient_outside nan y h = nan_outside
quotient_outside (inf s) nan h = nan_outside
quotient_outside (inf s) (inf t) h = nan_outside
quotient_outside (inf s) (fin t n d) h = inf_outside (unlike s t)
quotient_outside (fin s m e) nan h = nan_outside
quotient_outside (fin s m e) (inf t) h = zero_outside (unlike s t)
quotient_outside (fin s m e) (fin t n d) h = h tt tt

-- x is at least 2 ^ k in size, or no finite value
abbrev Huge : ℕ → Float → Type 0
Huge k nan = Unit
Huge k (inf s) = Unit
Huge k (fin s m e) = 2 ^ k * down e ≤ m * up e

round_outside : (s : Bool) (a c : ℕ) → 0 < c → c ≤ a → Outside (round binary64 s a c)
round_outside true a c C h = minus_outside (round binary64 true a c) (round_signed binary64 true a c)
round_outside false a c C h =
    above_outside (round binary64 false a c)
    (subst (λ (v : Float). T (le v (round binary64 false a c))) (round_value binary64 one false 1 1 (zero-lt-suc 0) (unfold fits in tt) (refl, refl)) (round_mono binary64 1 1 a c (zero-lt-suc 0) C (omega arith)))

-- and so is one of 2 ^ k or more by 2 ^ k or less
huge_quotient : (k : ℕ) (x y : Float) → Huge k x → Within k y → Outside (div binary64 x y)
huge_quotient k x y h w = quotient_outside x y (λ i j. go x y i j h w)
  where
    by : (p q u : Bool) (r : Float) → (T (not p) → Outside r) → Outside (cond p (cond q nan (inf u)) r)
    by true true u r f = nan_outside
    by true false u r f = inf_outside u
    by false q u r f = f tt

    positive : (n : ℕ) → T (not (eqb n 0)) → 0 < n
    positive zero h = absurd h
    positive (suc n) h = zero-lt-suc n

    go : (x y : Float) → IsFinite x → IsFinite y → Huge k x → Within k y → Outside (div binary64 x y)
    go (fin s m e) (fin t n d) i j h w =
        unfold div in by (eqb n 0) (eqb m 0) (unlike s t) _ (λ z. round_outside (unlike s t) (m * up e * down d) (n * up d * down e) (mul-pos (mul-pos (positive n z) (up_pos d)) (down_pos e))
        (le_trans (mul-le-mul_right (down e) w) (le_trans (le_of_eq (mul_right_comm (2 ^ k) (down d) (down e))) (mul-le-mul_right (down d) h))))
    go nan _ i j h w = elim i [ ]
    go (inf _) _ i j h w = elim i [ ]
    go (fin s m e) nan i j h w = elim j [ ]
    go (fin s m e) (inf _) i j h w = elim j [ ]

-- ---- what a finite result is made of
neg_finite : (x : Float) → IsFinite (neg x) → IsFinite x
unfolding neg
neg_finite nan i = i
neg_finite (inf s) i = i
neg_finite (fin s m e) i = tt

add_finite : (x y : Float) → IsFinite (add binary64 x y) → IsFinite x
unfolding add
add_finite nan y i = i
add_finite (inf s) nan i = i
add_finite (inf true) (inf true) i = i
add_finite (inf true) (inf false) i = i
add_finite (inf false) (inf true) i = i
add_finite (inf false) (inf false) i = i
add_finite (inf s) (fin t n d) i = i
add_finite (fin s m e) y i = tt

add_finite_second : (x y : Float) → IsFinite (add binary64 x y) → IsFinite y
add_finite_second x y i = add_finite y x (subst IsFinite (add_comm binary64 x y) i)

mul_finite_second : (x y : Float) → IsFinite (mul binary64 x y) → IsFinite y
unfolding mul
mul_finite_second nan y i = absurd i
mul_finite_second (inf s) nan i = i
mul_finite_second (inf s) (inf t) i = i
mul_finite_second (inf s) (fin t n d) i = tt
mul_finite_second (fin s m e) nan i = i
mul_finite_second (fin s m e) (inf t) i = go (eqb m 0) (unlike s t) i
  where
    go : (p u : Bool) → IsFinite (cond p nan (inf u)) → ⊥
    go true u i = i
    go false u i = i
mul_finite_second (fin s m e) (fin t n d) i = tt

discriminant_finite : (a b c : Float) → IsFinite (discriminant a b c) → IsFinite c
unfolding discriminant sub
discriminant_finite a b c i =
    let y = mul binary64 (mul binary64 four a) c in
    mul_finite_second (mul binary64 four a) c (neg_finite y (add_finite_second (mul binary64 b b) (neg y) i))

-- ---- the two roots, for the s that is taken for the discriminant's
abbrev Both : Float → Float → Float → Type 0
Both a b s = AllOutside (upper_root a b s ∷ lower_root a b s ∷ [])

both : (a b s : Float) → Outside (upper_root a b s) → Outside (lower_root a b s) → Both a b s
unfolding AllOutside
both a b s h k = (h, (k, tt))

-- They are outside where one of a, b and s is not finite.
roots_outside : (a b s : Float) → (IsFinite a → IsFinite b → IsFinite s → ⊥) → Both a b s
roots_outside a b s h =
    both a b s
    (unfold upper_root in at s h)
    (unfold lower_root in unfold sub in at (neg s) (λ i j k. h i j (neg_finite s k)))
  where
    at : (s : Float) → (IsFinite a → IsFinite b → IsFinite s → ⊥) → Outside (div binary64 (add binary64 (neg b) s) (mul binary64 two a))
    at s h = quotient_outside (add binary64 (neg b) s) (mul binary64 two a)
        (λ i j. absurd (h (mul_finite_second two a j) (neg_finite b (add_finite (neg b) s i)) (add_finite_second (neg b) s i)))

-- ---- 2 ^ 512 for the discriminant's root
huge_above : (k : ℕ) (x : Float) → T (le (fin false 1 (pos k)) x) → Huge k x
huge_above k nan h = tt
huge_above k (inf s) h = tt
huge_above k (fin true m e) h = omega (arith, le→at_most false 1 (pos k) true m e h)
huge_above k (fin false m e) h = omega (arith, le→at_most false 1 (pos k) false m e h)

huge_below : (k : ℕ) (x : Float) → T (le x (fin true 1 (pos k))) → Huge k x
huge_below k nan h = tt
huge_below k (inf s) h = tt
huge_below k (fin true m e) h = omega (arith, le→at_most true m e true 1 (pos k) h)
huge_below k (fin false m e) h = omega (arith, le→at_most false m e true 1 (pos k) h)

-- evaluated: 2 ^ 128 is lost beside 2 ^ 512
lost_above : add binary64 (fin true 1 (pos 128)) (fin false 1 (pos 512)) ≡ fin false 1 (pos 512)
unfolding add
lost_above = refl

lost_below : add binary64 (fin false 1 (pos 128)) (fin true 1 (pos 512)) ≡ fin true 1 (pos 512)
unfolding add
lost_below = refl

huge_sum : (s : Bool) (x : Float) → Within 128 x → Huge 512 (add binary64 x (fin s 1 (pos 512)))
huge_sum false x w =
    let y : Float = fin false 1 (pos 512) in
    huge_above 512 (add binary64 x y) (subst (λ (v : Float). T (le v (add binary64 x y))) lost_above
    (add_mono_left binary64 (fin true 1 (pos 128)) x y (unfold neg in ge_of_abs_le x (fin false 1 (pos 128)) (le_of_within 128 x w)) (add_number binary64 (fin true 1 (pos 128)) y tt tt) (add_number binary64 x y (within_finite 128 x w) tt)))
huge_sum true x w =
    let y : Float = fin true 1 (pos 512) in
    huge_below 512 (add binary64 x y) (subst (λ (v : Float). T (le (add binary64 x y) v)) lost_below
    (add_mono_left binary64 x (fin false 1 (pos 128)) y (le_of_abs_le x (fin false 1 (pos 128)) (le_of_within 128 x w)) (add_number binary64 x y (within_finite 128 x w) tt) (add_number binary64 (fin false 1 (pos 128)) y tt tt)))

-- so −b with 2 ^ 512 is that large, and 2a is not
huge_outside : (a b : Float) → Within 128 a → Within 128 b → Both a b (fin false 1 (pos 512))
huge_outside a b v w =
    both a b (fin false 1 (pos 512)) (unfold upper_root in at false) (unfold lower_root in unfold sub in unfold neg in at true)
  where
    double : Within 512 (mul binary64 two a)
    double = within_more 129 512 (mul binary64 two a) (lit≤ tt) (mul_within binary64 1 128 two a (lit≤ tt) (unfold of_bits in lit≤ tt) v)

    at : (s : Bool) → Outside (div binary64 (add binary64 (neg b) (fin s 1 (pos 512))) (mul binary64 two a))
    at s = huge_quotient 512 (add binary64 (neg b) (fin s 1 (pos 512))) (mul binary64 two a) (huge_sum s (neg b) (neg_within 128 b w)) double

-- ---- together
above_infinite : (x : Float) → lt (zero_of binary64) x ≡ true → (IsFinite x → ⊥) → x ≡ inf false
unfolding lt of_bits
above_infinite nan h n = absurd (false≢true h)
above_infinite (inf true) h n = absurd (false≢true h)
above_infinite (inf false) h n = refl
above_infinite (fin s m e) h n = absurd (n tt)

ended : (x : Float) → IsFinite x ⊎ (IsFinite x → ⊥)
ended nan = inr (λ i. i)
ended (inf s) = inr (λ i. i)
ended (fin s m e) = inl tt

held : (x : Float) → IsFinite x → T (fits binary32 x) → Finite binary32 x
held (fin s m e) i p = p
held nan i p = elim i [ ]
held (inf _) i p = elim i [ ]

-- With a discriminant of ∞ one root of it is 2 ^ 512, and the other ∞.
infinite : (a b d : Float) → d ≡ inf false → Within 128 a → Within 128 b → Both a b (normal_root (to_bits binary64 d)) × Both a b (sqrt_of d)
unfolding sqrt_of
infinite a b d e v w = (
  subst (Both a b) (sym (ap (λ (x : Float). normal_root (to_bits binary64 x)) e ∙ infinite_root)) (huge_outside a b v w),
  roots_outside a b (sqrt_of d) (λ i j k. subst IsFinite (ap sqrt_of e) k),
)

pub beyond : (a b c : Float) → T (fits binary32 a) → T (fits binary32 b) → T (fits binary32 c)
    → (normal_roots_of a b c ≡ roots_of a b c) ⊎ (AllOutside (normal_roots_of a b c) × AllOutside (roots_of a b c))
beyond a b c p q r = elim (same_or_two a b c) [
  | inl e ↦ inl e
  | inr h ↦ elim (cases h.0) [ inl e ↦ inl e | inr o ↦ inr (subst AllOutside (sym h.1) o.0, subst AllOutside (sym h.2) o.1) ]
]
  where
    cases : lt (zero_of binary64) (discriminant a b c) ≡ true → (normal_roots_of a b c ≡ roots_of a b c) ⊎ (Both a b (normal_root (to_bits binary64 (discriminant a b c))) × Both a b (sqrt_of (discriminant a b c)))
    cases h = elim (ended a) [
      | inr out ↦ inr (roots_outside a b _ (λ i j k. out i), roots_outside a b _ (λ i j k. out i))
      | inl i ↦ elim (ended b) [
        | inr out ↦ inr (roots_outside a b _ (λ i j k. out j), roots_outside a b _ (λ i j k. out j))
        | inl j ↦ elim (ended c) [
          | inr out ↦ inr (infinite a b (discriminant a b c) (above_infinite (discriminant a b c) h (λ k. out (discriminant_finite a b c k))) (single_within a (held a i p)) (single_within b (held b j q)))
          | inl k ↦ inl (solvers_agree a b c (held a i p) (held b j q) (held c k r))
        ]
      ]
    ]
