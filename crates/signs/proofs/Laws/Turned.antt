-- What the correction comes to: three flipped values have their median on the other side, and one corrected value lies on its side. Assumes nothing.
-- All values are small, and z is the zero value. The median of the flips is that of `flip_of z a`, `flip_of z b` and `flip_of z c`.
--     two_of_implies            two of three tests hold where those of three others do that each imply one
--     turned_up, turned_down    a median not above z is turned to one not below it, and one not below to one not above
--     turned_level              one equal to z to one equal to z
--     turned_past, turned_short  and a strict side to the strict other one where the three flips are exact
--     match_wrong, match_right, match_level, level_match  a match of −1 says that the value lies strictly on the wrong side, 1 strictly on the right one, and 0 just that it equals z
--     side_match, past_match    a value on its side has the match 1 or 0, and strictly on it the match 1
--     wrong_turned, wrong_match  where the match is −1 the flips' median lies on its side, so its match is 1 or 0
--     wrong_exact               it is 1 where the flips are exact
--     turned_to_level           evaluated: else it may be 0
--     level_turned              where the match is 0 that of the flips' median is 0 again
--     right_side                where it is 1 the median lies on its side as it is
--     corrected_side            one value, corrected, lies on its side
--     corrected_twice           and a second correction gives an equal value
use mathlib.Core.Path.{◌≡◌, refl, sym, ap, ◌∙◌, subst}
use mathlib.Core.Logic.{◌⊎◌, inl, inr}
use native.Mathlib.Omega.{arith}
use mathlib.Core.Bool.{Bool, true, false, not, cond, ◌&&◌, ◌||◌, beq}
use lib.Dec.{T}
use lib.IntN.{ℤ, pos, negsuc, nat_abs, pos-ne-negsuc}
use lib.Ieee.{Float, binary32, add, sub, lt, le, eq, is_nan, fits, of_bits}
use Rattle.ground.proofs.Laws.Bools.{and_implies, or_implies, holds, held}
use Rattle.numbers.specs.Scalar.{median_of, min_of, max_of}
use Rattle.numbers.proofs.Laws.Order.{le_of_lt, le_of_eq, ge_of_eq, le_of_not_lt, eq_of_le_le, eq_refl, eq_sym, eq_trans, lt_not_le, le_is_not_lt}
use Rattle.numbers.proofs.Laws.Scalar.{median_no_nan}
use Rattle.numbers.proofs.Laws.Bounds.{between_within}
use Rattle.signs.specs.Flip.{double_of, flip_of, is_amiss, flipped_if, on_side, Exact}
use Rattle.signs.specs.Signs.{match_of}
use Rattle.signs.specs.Inner.{two_of}
use Rattle.signs.proofs.Laws.Median.{median_at_least, median_at_most, median_past, median_short, match_by_sides}
use Rattle.signs.proofs.Laws.Flip.{Small, small_number, flip_fits, flip_number, flip_level, flip_up, flip_down, flip_strict_up, flip_strict_down}

-- ---- three flipped values
pub two_of_implies : (a b c a' b' c' : Bool) → (a ≡ true → a' ≡ true) → (b ≡ true → b' ≡ true) → (c ≡ true → c' ≡ true) → two_of a b c ≡ true → two_of a' b' c' ≡ true
unfolding two_of
two_of_implies a b c a' b' c' f g h =
    or_implies (a && b) ((a || b) && c) (a' && b') ((a' || b') && c') (and_implies a b a' b' f (λ p. g)) (and_implies (a || b) c (a' || b') c' (or_implies a b a' b' f g) (λ p. h))

-- a test of each value that its flip answers by another
carried : (p q : Float → Bool) (z a b c : Float) → ((v : Float) → Small v → T (p v) → T (q (flip_of z v))) → Small a → Small b → Small c → two_of (p a) (p b) (p c) ≡ true
    → two_of (q (flip_of z a)) (q (flip_of z b)) (q (flip_of z c)) ≡ true
carried p q z a b c f A B C =
    two_of_implies (p a) (p b) (p c) (q (flip_of z a)) (q (flip_of z b)) (q (flip_of z c)) (one a A) (one b B) (one c C)
  where
    one : (v : Float) → Small v → p v ≡ true → q (flip_of z v) ≡ true
    one v s h = held (q (flip_of z v)) (f v s (holds (p v) h))

pub turned_up : (z a b c : Float) → Small z → Small a → Small b → Small c → T (le (median_of a b c) z) → T (le z (median_of (flip_of z a) (flip_of z b) (flip_of z c)))
turned_up z a b c Z A B C h =
    holds (le z (median_of (flip_of z a) (flip_of z b) (flip_of z c)))
    (median_at_least z (flip_of z a) (flip_of z b) (flip_of z c) (flip_number z a Z.1 A.1) (flip_number z b Z.1 B.1) (flip_number z c Z.1 C.1)
    ∙ carried (λ v. le v z) (λ v. le z v) z a b c (λ v s. flip_up z v Z s) A B C
    (sym (median_at_most z a b c (small_number a A) (small_number b B) (small_number c C)) ∙ held (le (median_of a b c) z) h))

pub turned_down : (z a b c : Float) → Small z → Small a → Small b → Small c → T (le z (median_of a b c)) → T (le (median_of (flip_of z a) (flip_of z b) (flip_of z c)) z)
turned_down z a b c Z A B C h =
    holds (le (median_of (flip_of z a) (flip_of z b) (flip_of z c)) z)
    (median_at_most z (flip_of z a) (flip_of z b) (flip_of z c) (flip_number z a Z.1 A.1) (flip_number z b Z.1 B.1) (flip_number z c Z.1 C.1)
    ∙ carried (λ v. le z v) (λ v. le v z) z a b c (λ v s. flip_down z v Z s) A B C
    (sym (median_at_least z a b c (small_number a A) (small_number b B) (small_number c C)) ∙ held (le z (median_of a b c)) h))

pub turned_level : (z a b c : Float) → Small z → Small a → Small b → Small c → T (eq (median_of a b c) z) → T (eq (median_of (flip_of z a) (flip_of z b) (flip_of z c)) z)
turned_level z a b c Z A B C h =
    let m = median_of a b c in
    eq_of_le_le (median_of (flip_of z a) (flip_of z b) (flip_of z c)) z (turned_down z a b c Z A B C (ge_of_eq m z h)) (turned_up z a b c Z A B C (le_of_eq m z h))

pub turned_past : (z a b c : Float) → Small z → Small a → Small b → Small c → Exact z a → Exact z b → Exact z c → T (lt (median_of a b c) z)
    → T (lt z (median_of (flip_of z a) (flip_of z b) (flip_of z c)))
turned_past z a b c Z A B C x y w h =
    holds (lt z (median_of (flip_of z a) (flip_of z b) (flip_of z c)))
    (median_past z (flip_of z a) (flip_of z b) (flip_of z c) (small_number z Z) (flip_number z a Z.1 A.1) (flip_number z b Z.1 B.1) (flip_number z c Z.1 C.1)
    ∙ two_of_implies (lt a z) (lt b z) (lt c z) (lt z (flip_of z a)) (lt z (flip_of z b)) (lt z (flip_of z c)) (one a A x) (one b B y) (one c C w)
    (sym (median_short z a b c (small_number z Z) (small_number a A) (small_number b B) (small_number c C)) ∙ held (lt (median_of a b c) z) h))
  where
    one : (v : Float) → Small v → Exact z v → lt v z ≡ true → lt z (flip_of z v) ≡ true
    one v s e h = held (lt z (flip_of z v)) (flip_strict_up z v Z s e (holds (lt v z) h))

pub turned_short : (z a b c : Float) → Small z → Small a → Small b → Small c → Exact z a → Exact z b → Exact z c → T (lt z (median_of a b c))
    → T (lt (median_of (flip_of z a) (flip_of z b) (flip_of z c)) z)
turned_short z a b c Z A B C x y w h =
    holds (lt (median_of (flip_of z a) (flip_of z b) (flip_of z c)) z)
    (median_short z (flip_of z a) (flip_of z b) (flip_of z c) (small_number z Z) (flip_number z a Z.1 A.1) (flip_number z b Z.1 B.1) (flip_number z c Z.1 C.1)
    ∙ two_of_implies (lt z a) (lt z b) (lt z c) (lt (flip_of z a) z) (lt (flip_of z b) z) (lt (flip_of z c) z) (one a A x) (one b B y) (one c C w)
    (sym (median_past z a b c (small_number z Z) (small_number a A) (small_number b B) (small_number c C)) ∙ held (lt z (median_of a b c)) h))
  where
    one : (v : Float) → Small v → Exact z v → lt z v ≡ true → lt (flip_of z v) z ≡ true
    one v s e h = held (lt (flip_of z v) z) (flip_strict_down z v Z s e (holds (lt z v) h))

-- ---- what a match says, of any value
-- the match by the two tests
abbrev Told : Bool → Bool → Bool → ℤ
Told above below filled = cond (beq above below) (pos 0) (cond (beq above filled) (pos 1) (negsuc 0))

one_not_zero : pos 1 ≡ pos 0 → ⊥
one_not_zero h = absurd (omega (arith, ap nat_abs h))

told_wrong : (above below filled : Bool) → Told above below filled ≡ negsuc 0 → T (cond filled below above)
told_wrong true true filled h = absurd (pos-ne-negsuc 0 0 h)
told_wrong true false true h = absurd (pos-ne-negsuc 1 0 h)
told_wrong true false false h = tt
told_wrong false true true h = tt
told_wrong false true false h = absurd (pos-ne-negsuc 1 0 h)
told_wrong false false filled h = absurd (pos-ne-negsuc 0 0 h)

told_right : (above below filled : Bool) → Told above below filled ≡ pos 1 → T (cond filled above below)
told_right true true filled h = absurd (one_not_zero (sym h))
told_right true false true h = tt
told_right true false false h = absurd (pos-ne-negsuc 1 0 (sym h))
told_right false true true h = absurd (pos-ne-negsuc 1 0 (sym h))
told_right false true false h = tt
told_right false false filled h = absurd (one_not_zero (sym h))

told_side : (above below filled : Bool) → T (cond filled (not below) (not above)) → (Told above below filled ≡ pos 1) ⊎ (Told above below filled ≡ pos 0)
told_side true true filled h = inr refl
told_side true false true h = inl refl
told_side true false false h = absurd h
told_side false true true h = absurd h
told_side false true false h = inl refl
told_side false false filled h = inr refl

told_past : (above below filled : Bool) → T (cond filled (above && not below) (below && not above)) → Told above below filled ≡ pos 1
told_past true true true h = absurd h
told_past true true false h = absurd h
told_past true false true h = refl
told_past true false false h = absurd h
told_past false true true h = absurd h
told_past false true false h = refl
told_past false false true h = absurd h
told_past false false false h = absurd h

pub match_wrong : (z : Float) (filled : Bool) (v : Float) → T (not (is_nan z)) → T (not (is_nan v)) → match_of z filled v ≡ negsuc 0 → T (cond filled (lt v z) (lt z v))
match_wrong z filled v m n h = told_wrong (lt z v) (lt v z) filled (sym (match_by_sides z filled v m n) ∙ h)

pub match_right : (z : Float) (filled : Bool) (v : Float) → T (not (is_nan z)) → T (not (is_nan v)) → match_of z filled v ≡ pos 1 → T (cond filled (lt z v) (lt v z))
match_right z filled v m n h = told_right (lt z v) (lt v z) filled (sym (match_by_sides z filled v m n) ∙ h)

pub match_level : (z : Float) (filled : Bool) (v : Float) → match_of z filled v ≡ pos 0 → T (eq v z)
unfolding match_of
match_level z filled v h = go (eq v z) (is_amiss z filled v) h
  where
    go : (e a : Bool) → cond e (pos 0) (cond a (negsuc 0) (pos 1)) ≡ pos 0 → T e
    go true a h = tt
    go false true h = absurd (pos-ne-negsuc 0 0 (sym h))
    go false false h = absurd (one_not_zero h)

pub level_match : (z : Float) (filled : Bool) (v : Float) → T (eq v z) → match_of z filled v ≡ pos 0
unfolding match_of
level_match z filled v h = ap (λ (e : Bool). cond e (pos 0) (cond (is_amiss z filled v) (negsuc 0) (pos 1))) (held (eq v z) h)

pub side_match : (z : Float) (filled : Bool) (v : Float) → T (not (is_nan z)) → T (not (is_nan v)) → T (on_side z filled v) → (match_of z filled v ≡ pos 1) ⊎ (match_of z filled v ≡ pos 0)
unfolding on_side
side_match z filled v m n h =
    subst (λ (k : ℤ). (k ≡ pos 1) ⊎ (k ≡ pos 0)) (sym (match_by_sides z filled v m n))
    (told_side (lt z v) (lt v z) filled (subst T (λ i. cond filled (le_is_not_lt z v m n i) (le_is_not_lt v z n m i)) h))

pub past_match : (z : Float) (filled : Bool) (v : Float) → T (not (is_nan z)) → T (not (is_nan v)) → T (cond filled (lt z v) (lt v z)) → match_of z filled v ≡ pos 1
past_match z filled v m n h = match_by_sides z filled v m n ∙ told_past (lt z v) (lt v z) filled (go filled h)
  where
    both : (a b : Bool) → (T b → T a → ⊥) → T a → T (a && not b)
    both true true f h = absurd (f tt tt)
    both true false f h = tt
    both false b f h = absurd h

    go : (filled : Bool) → T (cond filled (lt z v) (lt v z)) → T (cond filled (lt z v && not (lt v z)) (lt v z && not (lt z v)))
    go true h = both (lt z v) (lt v z) (λ p q. lt_not_le v z p (le_of_lt z v q)) h
    go false h = both (lt v z) (lt z v) (λ p q. lt_not_le z v p (le_of_lt v z q)) h

-- ---- so of three values and their flips
pub wrong_turned : (z : Float) (filled : Bool) (a b c : Float) → Small z → Small a → Small b → Small c → match_of z filled (median_of a b c) ≡ negsuc 0
    → T (on_side z filled (median_of (flip_of z a) (flip_of z b) (flip_of z c)))
unfolding on_side
wrong_turned z filled a b c Z A B C h =
    go filled (match_wrong z filled (median_of a b c) (small_number z Z) (median_no_nan a b c (small_number a A) (small_number b B) (small_number c C)) h)
  where
    m : Float
    m = median_of (flip_of z a) (flip_of z b) (flip_of z c)

    go : (filled : Bool) → T (cond filled (lt (median_of a b c) z) (lt z (median_of a b c))) → T (cond filled (le z m) (le m z))
    go true l = turned_up z a b c Z A B C (le_of_lt (median_of a b c) z l)
    go false l = turned_down z a b c Z A B C (le_of_lt z (median_of a b c) l)

flips_number : (z a b c : Float) → Small z → Small a → Small b → Small c → T (not (is_nan (median_of (flip_of z a) (flip_of z b) (flip_of z c))))
flips_number z a b c Z A B C = median_no_nan (flip_of z a) (flip_of z b) (flip_of z c) (flip_number z a Z.1 A.1) (flip_number z b Z.1 B.1) (flip_number z c Z.1 C.1)

pub wrong_match : (z : Float) (filled : Bool) (a b c : Float) → Small z → Small a → Small b → Small c → match_of z filled (median_of a b c) ≡ negsuc 0
    → let m = median_of (flip_of z a) (flip_of z b) (flip_of z c) in
    (match_of z filled m ≡ pos 1) ⊎ (match_of z filled m ≡ pos 0)
wrong_match z filled a b c Z A B C h =
    side_match z filled (median_of (flip_of z a) (flip_of z b) (flip_of z c)) (small_number z Z) (flips_number z a b c Z A B C) (wrong_turned z filled a b c Z A B C h)

pub wrong_exact : (z : Float) (filled : Bool) (a b c : Float) → Small z → Small a → Small b → Small c → Exact z a → Exact z b → Exact z c → match_of z filled (median_of a b c) ≡ negsuc 0
    → match_of z filled (median_of (flip_of z a) (flip_of z b) (flip_of z c)) ≡ pos 1
wrong_exact z filled a b c Z A B C x y w h =
    past_match z filled m (small_number z Z) (flips_number z a b c Z A B C)
    (go filled (match_wrong z filled (median_of a b c) (small_number z Z) (median_no_nan a b c (small_number a A) (small_number b B) (small_number c C)) h))
  where
    m : Float
    m = median_of (flip_of z a) (flip_of z b) (flip_of z c)

    go : (filled : Bool) → T (cond filled (lt (median_of a b c) z) (lt z (median_of a b c))) → T (cond filled (lt z m) (lt m z))
    go true l = turned_past z a b c Z A B C x y w l
    go false l = turned_short z a b c Z A B C x y w l

pub level_turned : (z : Float) (filled : Bool) (a b c : Float) → Small z → Small a → Small b → Small c → match_of z filled (median_of a b c) ≡ pos 0
    → let m = median_of (flip_of z a) (flip_of z b) (flip_of z c) in
    T (eq m z) × (match_of z filled m ≡ pos 0)
level_turned z filled a b c Z A B C h =
    let e = turned_level z a b c Z A B C (match_level z filled (median_of a b c) h) in
    (e, level_match z filled (median_of (flip_of z a) (flip_of z b) (flip_of z c)) e)

pub right_side : (z : Float) (filled : Bool) (v : Float) → T (not (is_nan z)) → T (not (is_nan v)) → match_of z filled v ≡ pos 1 → T (on_side z filled v)
unfolding on_side
right_side z filled v m n h = go filled (match_right z filled v m n h)
  where
    go : (filled : Bool) → T (cond filled (lt z v) (lt v z)) → T (cond filled (le z v) (le v z))
    go true l = le_of_lt z v l
    go false l = le_of_lt v z l

-- ---- one value by its own comparison
-- amiss it lies on the other side or on z
amiss_side : (z : Float) (filled : Bool) (v : Float) → Small z → Small v → T (is_amiss z filled v) → T (on_side z filled (flip_of z v))
unfolding is_amiss on_side
amiss_side z true v Z S h = flip_up z v Z S (le_of_not_lt z v (small_number z Z) (small_number v S) h)
amiss_side z false v Z S h = flip_down z v Z S (le_of_lt z v h)

-- and else as it is
kept_side : (z : Float) (filled : Bool) (v : Float) → Small z → Small v → T (not (is_amiss z filled v)) → T (on_side z filled v)
unfolding is_amiss on_side
kept_side z true v Z S h = le_of_lt z v (not_not (lt z v) h)
  where
    not_not : (b : Bool) → T (not (not b)) → T b
    not_not true h = tt
    not_not false h = h
kept_side z false v Z S h = le_of_not_lt z v (small_number z Z) (small_number v S) h

by_test : (P : Float → Type 0) (z : Float) (b : Bool) (v : Float) → (T b → P (flip_of z v)) → (T (not b) → P v) → P (flipped_if z b v)
unfolding flipped_if
by_test P z true v f g = f tt
by_test P z false v f g = g tt

pub corrected_side : (z : Float) (filled : Bool) (v : Float) → Small z → Small v → T (on_side z filled (flipped_if z (is_amiss z filled v) v))
corrected_side z filled v Z S = by_test (λ x. T (on_side z filled x)) z (is_amiss z filled v) v (amiss_side z filled v Z S) (kept_side z filled v Z S)

-- a value on its side is amiss only where it equals z, and there the flip does
side_amiss : (z : Float) (filled : Bool) (x : Float) → Small z → T (fits binary32 x) → T (not (is_nan x)) → T (on_side z filled x) → T (is_amiss z filled x) → T (eq (flip_of z x) x)
unfolding is_amiss on_side
side_amiss z true x Z p n s h =
    let l = le_of_not_lt z x (small_number z Z) n h in
    let e = eq_of_le_le x z l s in
    eq_trans (flip_of z x) z x (flip_level z x Z (p, between_within 20 z x z Z.1 Z.1 s l) e) (eq_sym x z e)
side_amiss z false x Z p n s h = absurd (lt_not_le z x h s)

pub corrected_twice : (z : Float) (filled : Bool) (v : Float) → Small z → Small v
    → let x = flipped_if z (is_amiss z filled v) v in
    T (eq (flipped_if z (is_amiss z filled x) x) x)
corrected_twice z filled v Z S = go (flipped_if z (is_amiss z filled v) v) value (corrected_side z filled v Z S)
  where
    value : T (fits binary32 (flipped_if z (is_amiss z filled v) v)) × T (not (is_nan (flipped_if z (is_amiss z filled v) v)))
    value = by_test (λ x. T (fits binary32 x) × T (not (is_nan x))) z (is_amiss z filled v) v (λ h. (flip_fits z v, flip_number z v Z.1 S.1)) (λ h. (S.0, small_number v S))

    go : (x : Float) → T (fits binary32 x) × T (not (is_nan x)) → T (on_side z filled x) → T (eq (flipped_if z (is_amiss z filled x) x) x)
    go x p s = by_test (λ y. T (eq y x)) z (is_amiss z filled x) x (side_amiss z filled x Z p.0 p.1 s) (λ h. eq_refl x p.1)

-- evaluated: at 0.5 a filled texel of values just below it has the match −1, and its flips have 0, not 1
pub turned_to_level : let z = of_bits binary32 0x3f00_0000 in
    let v = of_bits binary32 0x3eff_ffff in
    let x = flip_of z v in
    (match_of z true (median_of v v v) ≡ negsuc 0) × (match_of z true (median_of x x x) ≡ pos 0)
unfolding match_of is_amiss flip_of double_of median_of min_of max_of add sub lt eq is_nan of_bits
turned_to_level = (refl, refl)
