-- The median of three values against the zero value: it lies where two of the three lie, so its match is known without it. None of the four is a NaN. Assumes nothing.
--     two_of_not                       two of three tests fail just where not two hold
--     median_at_least, median_at_most  the zero value is at most the median just where it is at most two of the three, and at least it likewise
--     median_past, median_short        the median lies above it just where two of the three do, and below it likewise
--     eq_by_sides                      two values are equal just where neither lies above the other
--     match_by_sides                   the match of a value: 0 where it lies on neither side, else 1 or −1 as the side is the map's
--     match_by_two                     so the match of the median, from the sides of the three
use mathlib.Core.Path.{◌≡◌, refl, sym, ap, ◌∙◌}
use mathlib.Core.Logic.{◌⊎◌, inl, inr}
use mathlib.Core.Bool.{Bool, true, false, not, cond, ◌&&◌, beq, true≢false}
use lib.Dec.{T}
use lib.IntN.{pos, negsuc}
use lib.Ieee.{Float, lt, le, eq, is_nan}
use Rattle.ground.proofs.Laws.Bools.{both_ways, both_hold, holds, held}
use Rattle.numbers.specs.Scalar.{median_of}
use Rattle.numbers.proofs.Laws.Order.{le_trans, le_of_lt, le_of_eq, ge_of_eq, eq_of_le_le, lt_not_le, le_is_not_lt, lt_is_not_le}
use Rattle.numbers.proofs.Laws.Scalar.{TwoOf, median_no_nan, median_two_above, median_two_below, median_least, median_greatest}
use Rattle.signs.specs.Flip.{is_amiss}
use Rattle.signs.specs.Signs.{match_of}
use Rattle.signs.specs.Inner.{two_of}

-- ---- two of three tests
pub two_of_not : (a b c : Bool) → two_of (not a) (not b) (not c) ≡ not (two_of a b c)
unfolding two_of
two_of_not true true true = refl
two_of_not true true false = refl
two_of_not true false true = refl
two_of_not true false false = refl
two_of_not false true true = refl
two_of_not false true false = refl
two_of_not false false true = refl
two_of_not false false false = refl

-- as a choice of two
chosen : (a b c : Bool) → two_of a b c ≡ true → (T a × T b) ⊎ ((T a × T c) ⊎ (T b × T c))
unfolding two_of
chosen true true c h = inl (tt, tt)
chosen true false true h = inr (inl (tt, tt))
chosen true false false h = absurd (true≢false (sym h))
chosen false true true h = inr (inr (tt, tt))
chosen false true false h = absurd (true≢false (sym h))
chosen false false true h = absurd (true≢false (sym h))
chosen false false false h = absurd (true≢false (sym h))

choose : (a b c : Bool) → (T a × T b) ⊎ ((T a × T c) ⊎ (T b × T c)) → two_of a b c ≡ true
unfolding two_of
choose true true c h = refl
choose true false true h = refl
choose false true true h = refl
choose true false false (inl x) = absurd x.1
choose true false false (inr (inl x)) = absurd x.1
choose true false false (inr (inr x)) = absurd x.0
choose false true false (inl x) = absurd x.0
choose false true false (inr (inl x)) = absurd x.0
choose false true false (inr (inr x)) = absurd x.1
choose false false c (inl x) = absurd x.0
choose false false c (inr (inl x)) = absurd x.0
choose false false c (inr (inr x)) = absurd x.0

-- ---- the median
pub median_at_least : (z a b c : Float) → T (not (is_nan a)) → T (not (is_nan b)) → T (not (is_nan c)) → le z (median_of a b c) ≡ two_of (le z a) (le z b) (le z c)
median_at_least z a b c l m n =
    let v = median_of a b c in
    both_ways (le z v) (two_of (le z a) (le z b) (le z c)) (λ h. choose (le z a) (le z b) (le z c) (through (holds (le z v) h) (median_two_above a b c l m n)))
    (λ h. held (le z v) (median_greatest z a b c l m n (chosen (le z a) (le z b) (le z c) h)))
  where
    through : T (le z (median_of a b c)) → TwoOf (λ (u : Float). T (le (median_of a b c) u)) a b c → TwoOf (λ (u : Float). T (le z u)) a b c
    through h (inl x) = inl (le_trans z (median_of a b c) a h x.0, le_trans z (median_of a b c) b h x.1)
    through h (inr (inl x)) = inr (inl (le_trans z (median_of a b c) a h x.0, le_trans z (median_of a b c) c h x.1))
    through h (inr (inr x)) = inr (inr (le_trans z (median_of a b c) b h x.0, le_trans z (median_of a b c) c h x.1))

pub median_at_most : (z a b c : Float) → T (not (is_nan a)) → T (not (is_nan b)) → T (not (is_nan c)) → le (median_of a b c) z ≡ two_of (le a z) (le b z) (le c z)
median_at_most z a b c l m n =
    let v = median_of a b c in
    both_ways (le v z) (two_of (le a z) (le b z) (le c z)) (λ h. choose (le a z) (le b z) (le c z) (through (holds (le v z) h) (median_two_below a b c l m n)))
    (λ h. held (le v z) (median_least a b c z l m n (chosen (le a z) (le b z) (le c z) h)))
  where
    through : T (le (median_of a b c) z) → TwoOf (λ (u : Float). T (le u (median_of a b c))) a b c → TwoOf (λ (u : Float). T (le u z)) a b c
    through h (inl x) = inl (le_trans a (median_of a b c) z x.0 h, le_trans b (median_of a b c) z x.1 h)
    through h (inr (inl x)) = inr (inl (le_trans a (median_of a b c) z x.0 h, le_trans c (median_of a b c) z x.1 h))
    through h (inr (inr x)) = inr (inr (le_trans b (median_of a b c) z x.0 h, le_trans c (median_of a b c) z x.1 h))

pub median_past : (z a b c : Float) → T (not (is_nan z)) → T (not (is_nan a)) → T (not (is_nan b)) → T (not (is_nan c)) → lt z (median_of a b c) ≡ two_of (lt z a) (lt z b) (lt z c)
median_past z a b c k l m n =
    lt_is_not_le z (median_of a b c) k (median_no_nan a b c l m n)
    ∙ ap not (median_at_most z a b c l m n)
    ∙ sym (two_of_not (le a z) (le b z) (le c z))
    ∙ sym (λ i. two_of (lt_is_not_le z a k l i) (lt_is_not_le z b k m i) (lt_is_not_le z c k n i))

pub median_short : (z a b c : Float) → T (not (is_nan z)) → T (not (is_nan a)) → T (not (is_nan b)) → T (not (is_nan c)) → lt (median_of a b c) z ≡ two_of (lt a z) (lt b z) (lt c z)
median_short z a b c k l m n =
    lt_is_not_le (median_of a b c) z (median_no_nan a b c l m n) k
    ∙ ap not (median_at_least z a b c l m n)
    ∙ sym (two_of_not (le z a) (le z b) (le z c))
    ∙ sym (λ i. two_of (lt_is_not_le a z l k i) (lt_is_not_le b z m k i) (lt_is_not_le c z n k i))

-- ---- the match
pub eq_by_sides : (x y : Float) → T (not (is_nan x)) → T (not (is_nan y)) → eq x y ≡ (not (lt y x) && not (lt x y))
eq_by_sides x y m n =
    both_ways (eq x y) (le x y && le y x) (λ h. let e = holds (eq x y) h in (λ i. held (le x y) (le_of_eq x y e) i && held (le y x) (ge_of_eq x y e) i))
    (λ h. let p = both_hold (le x y) (le y x) h in held (eq x y) (eq_of_le_le x y (holds (le x y) p.0) (holds (le y x) p.1)))
    ∙ (λ i. le_is_not_lt x y m n i && le_is_not_lt y x n m i)

-- by what two tests say, of which not both hold
told : (above below filled : Bool) → (above ≡ true → below ≡ true → ⊥)
    → cond (not above && not below) (pos 0) (cond (cond filled (not above) above) (negsuc 0) (pos 1)) ≡ cond (beq above below) (pos 0) (cond (beq above filled) (pos 1) (negsuc 0))
told true true filled n = absurd (n refl refl)
told true false true n = refl
told true false false n = refl
told false true true n = refl
told false true false n = refl
told false false filled n = refl

pub match_by_sides : (z : Float) (filled : Bool) (v : Float) → T (not (is_nan z)) → T (not (is_nan v))
    → match_of z filled v ≡ cond (beq (lt z v) (lt v z)) (pos 0) (cond (beq (lt z v) filled) (pos 1) (negsuc 0))
unfolding match_of is_amiss
match_by_sides z filled v k n =
    ap (λ (b : Bool). cond b (pos 0) (cond (cond filled (not (lt z v)) (lt z v)) (negsuc 0) (pos 1))) (eq_by_sides v z n k)
    ∙ told (lt z v) (lt v z) filled (λ p q. lt_not_le z v (holds (lt z v) p) (le_of_lt v z (holds (lt v z) q)))

pub match_by_two : (z : Float) (filled : Bool) (a b c : Float) → T (not (is_nan z)) → T (not (is_nan a)) → T (not (is_nan b)) → T (not (is_nan c))
    → let above = two_of (lt z a) (lt z b) (lt z c) in
    let below = two_of (lt a z) (lt b z) (lt c z) in
    match_of z filled (median_of a b c) ≡ cond (beq above below) (pos 0) (cond (beq above filled) (pos 1) (negsuc 0))
match_by_two z filled a b c k l m n =
    match_by_sides z filled (median_of a b c) k (median_no_nan a b c l m n)
    ∙ (λ i. cond (beq (median_past z a b c k l m n i) (median_short z a b c k l m n i)) (pos 0) (cond (beq (median_past z a b c k l m n i) filled) (pos 1) (negsuc 0)))
