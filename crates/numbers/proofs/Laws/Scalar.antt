-- The smaller and the larger of two floats and the middle one of three, by the order of values and by that with −0 below +0. Assumes nothing.
--     min_either, max_either                    the smaller and the larger of two are one of them
--     min_ranks_first, min_ranks_second         the smaller ranks at most each, in the order with −0 below +0
--     max_ranks_first, max_ranks_second         the larger ranks at least each
--     by_rank                                   so both choose by that order
--     min_first, min_second                     the smaller is at most each
--     max_first, max_second                     the larger is at least each
--     min_keeps, max_keeps, median_keeps        what holds of all holds of the one that is chosen
--     min_mono, max_mono, median_mono           each grows with what it is chosen from
--     min_fits, max_fits, median_fits, median_no_nan  of values of a format it is one, and of such as are no NaN none
--     median_either                             the median is one of the three
--     median_above, median_below                what is at most, or at least, all three is so of the median
--     TwoOf                                     two of a, b and c have the property P
--     median_two_below, median_two_above        two of the three are at most the median, and two at least
--     median_least, median_greatest, median_only  what two are at most is at least the median, what two are at least at most, and what is both equals it
--     median_swap, median_turn                  the first two may be swapped, and the three turned about, which gives every order
--     median_twice                              the median of a value twice and another is that value
--     min_lowest, max_highest                   neither of two numbers lies below the smaller, and the larger below neither
--     min_swap, max_swap                        of two such numbers the order does not matter, to a zero's sign
--     median_order, median_order_bits           nor does it of three, in all six orders, to the last bit
--     zeros_min, zeros_max, zeros_median        of −0 and +0 the one is the smaller, the other the larger; between them and 5 it is +0, and −0 with −5
--     median_nan_first, median_nan_second, median_nan_third  where one of the three is a NaN the order does matter
--     nan_zero_one, nan_one_zero                the smallest example
use Rattle.std.proofs.Common.{◌≡◌, Bool, true, false, cond, not, ◌||◌, T, ◌⊎◌, pos, sym, refl, ap, ◌∙◌, subst, inl, inr}
use lib.Ieee.Bits.{is_false}
use lib.Ieee.{Float, nan, inf, fin, Format, le, lt, eq, is_nan, fits, to_bits}
use Rattle.numbers.specs.Orders.{Number, InEveryOrder}
use Rattle.numbers.specs.Scalar.{is_below, min_of, max_of, median_of}
use Rattle.numbers.proofs.Laws.Order.{nought, minus_nought, one, number_left, number_right, le_trans, eq_of_le_le}
pub use Rattle.numbers.proofs.floats.Middle.{TwoOf}
use Rattle.numbers.proofs.floats.Middle.{NoNan, AtMost, either, Chooses, map_two, through, two_below, two_above, swapped, turned, twice}
use Rattle.numbers.proofs.Laws.Rank.{Ranked, ranked_same, ranked_trans, ranked_below, ranked_not_below, ranked_not_above, ranked_only, nan_not_above, nan_not_below}

-- ---- two
pub min_either : (x y : Float) → (min_of x y ≡ x) ⊎ (min_of x y ≡ y)
unfolding min_of
min_either x y = either (is_nan x || is_below y x) x y

pub max_either : (x y : Float) → (max_of x y ≡ x) ⊎ (max_of x y ≡ y)
unfolding max_of
max_either x y = either (is_nan x || is_below x y) x y

-- x where it is no NaN and the test fails, and y where the test passes
taken : (x y : Float) (P : Float → Type 0) (b c : Bool) → T (not b) → (T c → P y) → (T (not c) → P x) → P (cond (b || c) y x)
taken x y P true c n l r = absurd n
taken x y P false true n l r = l tt
taken x y P false false n l r = r tt

-- y where x is a NaN too
taken_second : (x y : Float) (P : Float → Type 0) (b c : Bool) → P y → (T (not b) → T (not c) → P x) → P (cond (b || c) y x)
taken_second x y P true c l r = l
taken_second x y P false true l r = l
taken_second x y P false false l r = r tt tt

-- by the order with −0 below +0
pub min_ranks_first : (x y : Float) → T (not (is_nan x)) → Ranked (min_of x y) x
unfolding min_of
min_ranks_first x y n = taken x y (λ (v : Float). Ranked v x) (is_nan x) (is_below y x) n (λ h. ranked_below y x h) (λ h. ranked_same x n)

pub min_ranks_second : (x y : Float) → T (not (is_nan y)) → Ranked (min_of x y) y
unfolding min_of
min_ranks_second x y n = taken_second x y (λ (v : Float). Ranked v y) (is_nan x) (is_below y x) (ranked_same y n) (λ m h. ranked_not_below x y m n h)

pub max_ranks_first : (x y : Float) → T (not (is_nan x)) → Ranked x (max_of x y)
unfolding max_of
max_ranks_first x y n = taken x y (λ (v : Float). Ranked x v) (is_nan x) (is_below x y) n (λ h. ranked_below x y h) (λ h. ranked_same x n)

pub max_ranks_second : (x y : Float) → T (not (is_nan y)) → Ranked y (max_of x y)
unfolding max_of
max_ranks_second x y n = taken_second x y (λ (v : Float). Ranked y v) (is_nan x) (is_below x y) (ranked_same y n) (λ m h. ranked_not_below y x n m h)

pub min_lowest : (x y : Float) → T (not (is_nan x)) → T (not (is_nan y)) → T (not (is_below x (min_of x y))) × T (not (is_below y (min_of x y)))
min_lowest x y m n = (ranked_not_above (min_of x y) x (min_ranks_first x y m), ranked_not_above (min_of x y) y (min_ranks_second x y n))

pub max_highest : (x y : Float) → T (not (is_nan x)) → T (not (is_nan y)) → T (not (is_below (max_of x y) x)) × T (not (is_below (max_of x y) y))
max_highest x y m n = (ranked_not_above x (max_of x y) (max_ranks_first x y m), ranked_not_above y (max_of x y) (max_ranks_second x y n))

-- and so by that of values
pub min_first : (x y : Float) → T (not (is_nan x)) → T (le (min_of x y) x)
min_first x y n = (min_ranks_first x y n).0

pub min_second : (x y : Float) → T (not (is_nan y)) → T (le (min_of x y) y)
min_second x y n = (min_ranks_second x y n).0

pub max_first : (x y : Float) → T (not (is_nan x)) → T (le x (max_of x y))
max_first x y n = (max_ranks_first x y n).0

pub max_second : (x y : Float) → T (not (is_nan y)) → T (le y (max_of x y))
max_second x y n = (max_ranks_second x y n).0

pub by_rank : Chooses Ranked min_of max_of
by_rank =
    record {
      same = ranked_same;
      trans = ranked_trans;
      lo_either = min_either;
      hi_either = max_either;
      lo_first = λ x y m n. min_ranks_first x y m;
      lo_second = λ x y m n. min_ranks_second x y n;
      hi_first = λ x y m n. max_ranks_first x y m;
      hi_second = λ x y m n. max_ranks_second x y n;
    }

pub min_keeps : (P : Float → Type 0) (x y : Float) → P x → P y → P (min_of x y)
min_keeps P x y p q = elim (min_either x y) [ inl e ↦ subst P (sym e) p | inr e ↦ subst P (sym e) q ]

pub max_keeps : (P : Float → Type 0) (x y : Float) → P x → P y → P (max_of x y)
max_keeps P x y p q = elim (max_either x y) [ inl e ↦ subst P (sym e) p | inr e ↦ subst P (sym e) q ]

pub min_mono : (x x' y y' : Float) → T (le x x') → T (le y y') → T (le (min_of x y) (min_of x' y'))
min_mono x x' y y' h k =
    min_keeps (λ (v : Float). T (le (min_of x y) v)) x' y' (le_trans (min_of x y) x x' (min_first x y (number_left x x' h)) h) (le_trans (min_of x y) y y' (min_second x y (number_left y y' k)) k)

pub max_mono : (x x' y y' : Float) → T (le x x') → T (le y y') → T (le (max_of x y) (max_of x' y'))
max_mono x x' y y' h k =
    max_keeps (λ (v : Float). T (le v (max_of x' y'))) x y (le_trans x x' (max_of x' y') h (max_first x' y' (number_right x x' h))) (le_trans y y' (max_of x' y') k (max_second x' y' (number_right y y' k)))

pub min_fits : (f : Format) (x y : Float) → T (fits f x) → T (fits f y) → T (fits f (min_of x y))
min_fits f x y p q = min_keeps (λ (v : Float). T (fits f v)) x y p q

pub max_fits : (f : Format) (x y : Float) → T (fits f x) → T (fits f y) → T (fits f (max_of x y))
max_fits f x y p q = max_keeps (λ (v : Float). T (fits f v)) x y p q

-- ---- three
is : (a b c : Float) → median_of a b c ≡ max_of (min_of a b) (min_of (max_of a b) c)
unfolding median_of
is a b c = refl

pub median_keeps : (P : Float → Type 0) (a b c : Float) → P a → P b → P c → P (median_of a b c)
median_keeps P a b c p q r = subst P (sym (is a b c)) (max_keeps P (min_of a b) (min_of (max_of a b) c) (min_keeps P a b p q) (min_keeps P (max_of a b) c (max_keeps P a b p q) r))

pub median_either : (a b c : Float) → (median_of a b c ≡ a) ⊎ ((median_of a b c ≡ b) ⊎ (median_of a b c ≡ c))
median_either a b c = median_keeps (λ (v : Float). (v ≡ a) ⊎ ((v ≡ b) ⊎ (v ≡ c))) a b c (inl refl) (inr (inl refl)) (inr (inr refl))

pub median_no_nan : (a b c : Float) → T (not (is_nan a)) → T (not (is_nan b)) → T (not (is_nan c)) → T (not (is_nan (median_of a b c)))
median_no_nan a b c = median_keeps (λ (v : Float). T (not (is_nan v))) a b c

pub median_fits : (f : Format) (a b c : Float) → T (fits f a) → T (fits f b) → T (fits f c) → T (fits f (median_of a b c))
median_fits f a b c = median_keeps (λ (v : Float). T (fits f v)) a b c

pub median_above : (lo a b c : Float) → T (le lo a) → T (le lo b) → T (le lo c) → T (le lo (median_of a b c))
median_above lo a b c = median_keeps (λ (v : Float). T (le lo v)) a b c

pub median_below : (a b c hi : Float) → T (le a hi) → T (le b hi) → T (le c hi) → T (le (median_of a b c) hi)
median_below a b c hi = median_keeps (λ (v : Float). T (le v hi)) a b c

-- ---- three, by the order of values
pub median_two_below : (a b c : Float) → T (not (is_nan a)) → T (not (is_nan b)) → T (not (is_nan c)) → TwoOf (λ (v : Float). T (le v (median_of a b c))) a b c
unfolding median_of
median_two_below a b c l m n =
    let v = median_of a b c in
    map_two (λ (u : Float). Ranked u v) (λ (u : Float). T (le u v)) a b c (λ u r. r.0) (two_below Ranked min_of max_of by_rank a b c l m n)

pub median_two_above : (a b c : Float) → T (not (is_nan a)) → T (not (is_nan b)) → T (not (is_nan c)) → TwoOf (λ (v : Float). T (le (median_of a b c) v)) a b c
unfolding median_of
median_two_above a b c l m n =
    let v = median_of a b c in
    map_two (λ (u : Float). Ranked v u) (λ (u : Float). T (le v u)) a b c (λ u r. r.0) (two_above Ranked min_of max_of by_rank a b c l m n)

pub median_least : (a b c v : Float) → T (not (is_nan a)) → T (not (is_nan b)) → T (not (is_nan c)) → TwoOf (λ (u : Float). T (le u v)) a b c → T (le (median_of a b c) v)
median_least a b c v l m n h = through AtMost le_trans a b c (median_of a b c) v (median_two_above a b c l m n) h

pub median_greatest : (v a b c : Float) → T (not (is_nan a)) → T (not (is_nan b)) → T (not (is_nan c)) → TwoOf (λ (u : Float). T (le v u)) a b c → T (le v (median_of a b c))
median_greatest v a b c l m n h = through AtMost le_trans a b c v (median_of a b c) h (median_two_below a b c l m n)

pub median_only : (a b c v : Float) → T (not (is_nan a)) → T (not (is_nan b)) → T (not (is_nan c)) → TwoOf (λ (u : Float). T (le u v)) a b c → TwoOf (λ (u : Float). T (le v u)) a b c
    → T (eq (median_of a b c) v)
median_only a b c v l m n h k = eq_of_le_le (median_of a b c) v (median_least a b c v l m n h) (median_greatest v a b c l m n k)

pub median_swap : (a b c : Float) → T (not (is_nan a)) → T (not (is_nan b)) → T (not (is_nan c)) → T (eq (median_of a b c) (median_of b a c))
unfolding median_of
median_swap a b c l m n = eq_of_le_le (median_of a b c) (median_of b a c) (swapped Ranked min_of max_of by_rank a b c l m n).0 (swapped Ranked min_of max_of by_rank b a c m l n).0

pub median_turn : (a b c : Float) → T (not (is_nan a)) → T (not (is_nan b)) → T (not (is_nan c)) → T (eq (median_of a b c) (median_of c a b))
unfolding median_of
median_turn a b c l m n = let k = turned Ranked min_of max_of by_rank a b c l m n in eq_of_le_le (median_of a b c) (median_of c a b) k.0.0 k.1.0

pub median_twice : (a b : Float) → T (not (is_nan a)) → T (not (is_nan b)) → T (eq (median_of a a b) a)
unfolding median_of
median_twice a b l m = let k = twice Ranked min_of max_of by_rank a b l m in eq_of_le_le (median_of a a b) a k.0.0 k.1.0

pub median_mono : (a a' b b' c c' : Float) → T (le a a') → T (le b b') → T (le c c') → T (le (median_of a b c) (median_of a' b' c'))
median_mono a a' b b' c c' h k g =
    let v = median_of a b c in
    median_greatest v a' b' c' (number_right a a' h) (number_right b b' k) (number_right c c' g)
    (up (median_two_above a b c (number_left a a' h) (number_left b b' k) (number_left c c' g)))
  where
    up : TwoOf (λ (u : Float). T (le (median_of a b c) u)) a b c → TwoOf (λ (u : Float). T (le (median_of a b c) u)) a' b' c'
    up (inl x) = inl (le_trans (median_of a b c) a a' x.0 h, le_trans (median_of a b c) b b' x.1 k)
    up (inr (inl x)) = inr (inl (le_trans (median_of a b c) a a' x.0 h, le_trans (median_of a b c) c c' x.1 g))
    up (inr (inr x)) = inr (inr (le_trans (median_of a b c) b b' x.0 k, le_trans (median_of a b c) c c' x.1 g))

-- ---- numbers of one format: the same value in every order, a zero's sign included
-- the smaller of two in either order ranks at most itself in the other
min_ranked : (x y : Float) → NoNan x → NoNan y → Ranked (min_of x y) (min_of y x)
min_ranked x y m n = min_keeps (λ (v : Float). Ranked (min_of x y) v) y x (min_ranks_second x y n) (min_ranks_first x y m)

max_ranked : (x y : Float) → NoNan x → NoNan y → Ranked (max_of x y) (max_of y x)
max_ranked x y m n = max_keeps (λ (v : Float). Ranked v (max_of y x)) x y (max_ranks_second y x m) (max_ranks_first y x n)

pub min_swap : (f : Format) (x y : Float) → Number f x → Number f y → min_of x y ≡ min_of y x
min_swap f x y p q =
    ranked_only f (min_of x y) (min_of y x) (min_fits f x y p.0 q.0) (min_fits f y x q.0 p.0) (min_ranked x y p.1 q.1) (min_ranked y x q.1 p.1)

pub max_swap : (f : Format) (x y : Float) → Number f x → Number f y → max_of x y ≡ max_of y x
max_swap f x y p q =
    ranked_only f (max_of x y) (max_of y x) (max_fits f x y p.0 q.0) (max_fits f y x q.0 p.0) (max_ranked x y p.1 q.1) (max_ranked y x q.1 p.1)

swap : (f : Format) (a b c : Float) → Number f a → Number f b → Number f c → median_of a b c ≡ median_of b a c
unfolding median_of
swap f a b c p q r =
    ranked_only f (median_of a b c) (median_of b a c) (median_fits f a b c p.0 q.0 r.0) (median_fits f b a c q.0 p.0 r.0) (swapped Ranked min_of max_of by_rank a b c p.1 q.1 r.1)
    (swapped Ranked min_of max_of by_rank b a c q.1 p.1 r.1)

turn : (f : Format) (a b c : Float) → Number f a → Number f b → Number f c → median_of a b c ≡ median_of c a b
unfolding median_of
turn f a b c p q r =
    let k = turned Ranked min_of max_of by_rank a b c p.1 q.1 r.1 in
    ranked_only f (median_of a b c) (median_of c a b) (median_fits f a b c p.0 q.0 r.0) (median_fits f c a b r.0 p.0 q.0) k.0 k.1

pub median_order : (f : Format) (a b c : Float) → Number f a → Number f b → Number f c → InEveryOrder median_of a b c
median_order f a b c p q r =
    let cab : median_of a b c ≡ median_of c a b = turn f a b c p q r in
    let bca : median_of a b c ≡ median_of b c a = cab ∙ turn f c a b r p q in
    (cab ∙ swap f c a b r p q, swap f a b c p q r, bca, cab, bca ∙ swap f b c a q r p)

-- Each such value has one bit pattern (`one_pattern` of Laws/Rank.antt), so the patterns are the same.
pub median_order_bits : (f : Format) (a b c : Float) → Number f a → Number f b → Number f c → InEveryOrder (λ x y z. to_bits f (median_of x y z)) a b c
median_order_bits f a b c p q r =
    let k = median_order f a b c p q r in
    (ap (to_bits f) k.0, ap (to_bits f) k.1, ap (to_bits f) k.2, ap (to_bits f) k.3, ap (to_bits f) k.4)

-- −0 and +0 in both orders, and between them and 5 or −5
pub zeros_min : (min_of nought minus_nought ≡ minus_nought) × (min_of minus_nought nought ≡ minus_nought)
unfolding min_of lt is_nan
zeros_min = (refl, refl)

pub zeros_max : (max_of nought minus_nought ≡ nought) × (max_of minus_nought nought ≡ nought)
unfolding max_of lt is_nan
zeros_max = (refl, refl)

pub zeros_median : (median_of minus_nought nought (fin false 5 (pos 0)) ≡ nought) × (median_of minus_nought nought (fin true 5 (pos 0)) ≡ minus_nought)
unfolding median_of min_of max_of lt is_nan
zeros_median = (refl, refl)

-- ---- with a NaN among the three: the order decides
min_is : (x y : Float) (b : Bool) → T (not (is_nan x)) → is_below y x ≡ b → min_of x y ≡ cond b y x
unfolding min_of
min_is x y b n e = ap (λ (a : Bool). cond (a || is_below y x) y x) (is_false (is_nan x) n) ∙ ap (λ (a : Bool). cond a y x) e

max_is : (x y : Float) (b : Bool) → T (not (is_nan x)) → is_below x y ≡ b → max_of x y ≡ cond b y x
unfolding max_of
max_is x y b n e = ap (λ (a : Bool). cond (a || is_below x y) y x) (is_false (is_nan x) n) ∙ ap (λ (a : Bool). cond a y x) e

one_way : (x y : Float) → is_below x y ≡ true → is_below y x ≡ false
one_way x y e = is_false (is_below y x) (ranked_not_above x y (ranked_below x y (subst T (sym e) tt)))

max_self : (x : Float) → max_of x x ≡ x
max_self x = elim (max_either x x) [ inl e ↦ e | inr e ↦ e ]

-- the larger of x and the smaller of x and y is x
absorbed : (x y : Float) → T (not (is_nan x)) → max_of x (min_of x y) ≡ x
absorbed x y n = go (is_below y x) refl
  where
    go : (b : Bool) → is_below y x ≡ b → max_of x (min_of x y) ≡ x
    go true e = ap (max_of x) (min_is x y true n e) ∙ max_is x y false n (one_way y x e)
    go false e = ap (max_of x) (min_is x y false n e) ∙ max_self x

-- the larger of the smaller and the larger is the larger
kept : (x y : Float) → T (not (is_nan x)) → T (not (is_nan y)) → max_of (min_of x y) (max_of x y) ≡ max_of x y
kept x y m n = go (is_below x y) (is_below y x) refl refl
  where
    go : (b c : Bool) → is_below x y ≡ b → is_below y x ≡ c → max_of (min_of x y) (max_of x y) ≡ max_of x y
    go true c e f =
        ap (λ (v : Float). max_of v (max_of x y)) (min_is x y false m (one_way x y e)) ∙ ap (max_of x) (max_is x y true m e)
    go false true e f =
        ap (λ (v : Float). max_of v (max_of x y)) (min_is x y true m f) ∙ ap (max_of y) (max_is x y false m e) ∙ max_is y x true n f ∙ sym (max_is x y false m e)
    go false false e f =
        ap (λ (v : Float). max_of v (max_of x y)) (min_is x y false m f) ∙ ap (max_of x) (max_is x y false m e) ∙ max_self x ∙ sym (max_is x y false m e)

-- first: the second, or the third where that is one too
pub median_nan_first : (b c : Float) → median_of nan b c ≡ cond (is_nan b) c b
unfolding median_of min_of max_of is_nan
median_nan_first nan c = refl
median_nan_first (inf s) c = absorbed (inf s) c tt
median_nan_first (fin s m e) c = absorbed (fin s m e) c tt

-- second: the first
pub median_nan_second : (a c : Float) → T (not (is_nan a)) → median_of a nan c ≡ a
unfolding median_of
median_nan_second a c n =
    ap (λ (v : Float). max_of v (min_of (max_of a nan) c)) (min_is a nan false n (nan_not_below a)) ∙ ap (λ (v : Float). max_of a (min_of v c)) (max_is a nan false n (nan_not_above a)) ∙ absorbed a c n

-- third: the larger of the other two
pub median_nan_third : (a b : Float) → T (not (is_nan a)) → T (not (is_nan b)) → median_of a b nan ≡ max_of a b
unfolding median_of
median_nan_third a b m n =
    let g = max_of a b in
    ap (max_of (min_of a b)) (min_is g nan false (max_keeps NoNan a b m n) (nan_not_below g)) ∙ kept a b m n

pub nan_zero_one : median_of nan nought one ≡ nought
unfolding median_of min_of max_of lt is_nan
nan_zero_one = refl

pub nan_one_zero : median_of nan one nought ≡ one
unfolding median_of min_of max_of lt is_nan
nan_one_zero = refl
