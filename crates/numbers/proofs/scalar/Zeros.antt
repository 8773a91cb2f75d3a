-- What the sign of one decides of two equal numbers and of three with a zero for their median; and the median by value alone, which is the median but for a zero's sign. Assumes nothing.
use Rattle.std.proofs.Common.{◌≡◌, zero, suc, ◌*◌, Bool, true, false, cond, not, ◌&&◌, ◌||◌, T, ◌⊎◌, pos, sym, refl, ◌∙◌, subst, inl, inr, zero-mul, arith}
use lib.Ieee.{Float, nan, inf, fin, Format, binary32, up, down, le, lt, eq, ne, is_nan, fits}
use borrow.Author.Tests.{not-true, not-false}
use Rattle.std.specs.Float.{is_sign_negative}
use Rattle.numbers.specs.Inner.{lesser_of, greater_of}
use Rattle.numbers.specs.Orders.{Number}
use Rattle.numbers.specs.Scalar.{is_zero, is_below, min_of, max_of, median_of}
use Rattle.numbers.proofs.floats.Middle.{NoNan, AtMost, either, Chooses, TwoOf, middle, two_below, two_above, least, greatest}
use Rattle.numbers.proofs.floats.Differences.{of_at_most}
use Rattle.numbers.proofs.Laws.Order.{nought, minus_nought, number_left, number_right, le_of_lt, le_of_eq, ge_of_eq, le_refl, le_trans, le_of_not_lt, eq_trans, eq_held}
use Rattle.numbers.proofs.Laws.Rank.{Ranked, ranked_only, zero_is, zero_eq, zero_same}
use Rattle.numbers.proofs.Laws.Scalar.{by_rank, min_ranks_first, min_ranks_second, max_ranks_first, max_ranks_second, min_either, max_either, median_only, median_fits}

-- ---- signs
not_plus : (x : Float) → is_sign_negative x ≡ true → T (is_zero false x) → ⊥
unfolding is_sign_negative
not_plus nan e h = h
not_plus (inf s) e h = h
not_plus (fin s (suc m) e') e h = h
not_plus (fin true zero e') e h = h
not_plus (fin false zero e') e h = subst T (sym e) tt

not_minus : (x : Float) → is_sign_negative x ≡ false → T (is_zero true x) → ⊥
unfolding is_sign_negative
not_minus nan e h = h
not_minus (inf s) e h = h
not_minus (fin s (suc m) e') e h = h
not_minus (fin false zero e') e h = h
not_minus (fin true zero e') e h = subst T e tt

-- what is negative ranks at most −0, and what is not at least +0
minus_under : (x : Float) → NoNan x → is_sign_negative x ≡ true → Ranked x minus_nought
unfolding is_sign_negative is_nan le
minus_under nan n e = absurd n
minus_under (inf true) n e = (tt, λ a b. not_plus (inf true) e a)
minus_under (inf false) n e = absurd (subst T (sym e) tt)
minus_under (fin true m d) n e = (of_at_most true (m * up d * 1) true (0 * 1 * down d) (omega (arith, zero-mul (down d))), λ a b. not_plus (fin true m d) e a)
minus_under (fin false m d) n e = absurd (subst T (sym e) tt)

plus_over : (x : Float) → NoNan x → is_sign_negative x ≡ false → Ranked nought x
unfolding is_sign_negative is_nan le
plus_over nan n e = absurd n
plus_over (inf false) n e = (tt, λ a b. not_minus (inf false) e b)
plus_over (inf true) n e = absurd (subst T e tt)
plus_over (fin false m d) n e = (of_at_most false (0 * 1 * down d) false (m * up d * 1) (omega (arith, zero-mul (down d))), λ a b. not_minus (fin false m d) e b)
plus_over (fin true m d) n e = absurd (subst T e tt)

-- ---- two
unequal : (x y : Float) → ne y x ≡ true → T (eq y x) → ⊥
unfolding ne
unequal x y e h = subst T (not-true (eq y x) e) h

equal_of : (x y : Float) → ne y x ≡ false → T (eq y x)
unfolding ne
equal_of x y e = subst T (sym (not-false (eq y x) e)) tt

fails : (b c d : Bool) → b ≡ false → (T c → T d → ⊥) → b || (c && d) ≡ false
fails true c d e n = e
fails false true true e n = absurd (n tt tt)
fails false true false e n = refl
fails false false d e n = refl

-- of two that are not equal the one lies below the other by value or not at all
pub apart_min : (x y : Float) → lt y x ≡ false → ne y x ≡ true → is_below y x ≡ false
apart_min x y l n = fails (lt y x) (is_zero true y) (is_zero false x) l (λ a b. unequal x y n (zero_eq true false y x a b))

pub apart_max : (x y : Float) → lt x y ≡ false → ne y x ≡ true → is_below x y ≡ false
apart_max x y l n = fails (lt x y) (is_zero true x) (is_zero false y) l (λ a b. unequal x y n (zero_eq false true y x b a))

-- of two that are equal
module _ (x y : Float) (i : fits binary32 x ≡ true) (j : fits binary32 y ≡ true) (e' : ne y x ≡ false) where
  e : T (eq y x)
  e = equal_of x y e'

  p : Number binary32 x
  p = (subst T (sym i) tt, number_right y x (le_of_eq y x e))

  q : Number binary32 y
  q = (subst T (sym j) tt, number_left y x (le_of_eq y x e))

  pub second_number : T (not (is_nan y))
  second_number = q.1

  minus_ranks : is_sign_negative y ≡ true → Ranked y x
  minus_ranks n = (le_of_eq y x e, λ a b. not_plus y n a)

  plus_ranks : is_sign_negative y ≡ false → Ranked x y
  plus_ranks n = (ge_of_eq y x e, λ a b. not_minus y n b)

  pub min_minus : is_sign_negative y ≡ true → y ≡ min_of x y
  min_minus n = elim (min_either x y) [
    | inl h ↦ ranked_only binary32 y x q.0 p.0 (minus_ranks n) (subst (λ (v : Float). Ranked v y) h (min_ranks_second x y q.1)) ∙ sym h
    | inr h ↦ sym h
  ]

  pub min_plus : is_sign_negative y ≡ false → x ≡ min_of x y
  min_plus n = elim (min_either x y) [
    | inl h ↦ sym h
    | inr h ↦ ranked_only binary32 x y p.0 q.0 (plus_ranks n) (subst (λ (v : Float). Ranked v x) h (min_ranks_first x y p.1)) ∙ sym h
  ]

  pub max_minus : is_sign_negative y ≡ true → x ≡ max_of x y
  max_minus n = elim (max_either x y) [
    | inl h ↦ sym h
    | inr h ↦ ranked_only binary32 x y p.0 q.0 (subst (λ (v : Float). Ranked x v) h (max_ranks_first x y p.1)) (minus_ranks n) ∙ sym h
  ]

  pub max_plus : is_sign_negative y ≡ false → y ≡ max_of x y
  max_plus n = elim (max_either x y) [
    | inl h ↦ ranked_only binary32 y x q.0 p.0 (subst (λ (v : Float). Ranked y v) h (max_ranks_second x y q.1)) (plus_ranks n) ∙ sym h
    | inr h ↦ sym h
  ]

-- ---- three
-- y where the test passes, and x where it fails
taken : (x y : Float) (P : Float → Type 0) (b : Bool) → (T b → P y) → (T (not b) → P x) → P (cond b y x)
taken x y P true l r = l tt
taken x y P false l r = r tt

by_value_law : Chooses AtMost lesser_of greater_of
unfolding lesser_of greater_of
by_value_law =
    record {
      same = le_refl;
      trans = le_trans;
      lo_either = λ x y. either (lt y x) x y;
      hi_either = λ x y. either (lt x y) x y;
      lo_first = λ x y m n. taken x y (λ (v : Float). T (le v x)) (lt y x) (λ h. le_of_lt y x h) (λ h. le_refl x m);
      lo_second = λ x y m n. taken x y (λ (v : Float). T (le v y)) (lt y x) (λ h. le_refl y n) (λ h. le_of_not_lt y x n m h);
      hi_first = λ x y m n. taken x y (λ (v : Float). T (le x v)) (lt x y) (λ h. le_of_lt x y h) (λ h. le_refl x m);
      hi_second = λ x y m n. taken x y (λ (v : Float). T (le y v)) (lt x y) (λ h. le_refl y n) (λ h. le_of_not_lt x y m n h);
    }

-- the median by value alone
abbrev pub by_value : Float → Float → Float → Float
by_value a b c = middle lesser_of greater_of a b c

module _ (f : Format) (a b c : Float) (p : Number f a) (q : Number f b) (r : Number f c) where
  equal : T (eq (median_of a b c) (by_value a b c))
  equal =
      median_only a b c (by_value a b c) p.1 q.1 r.1 (two_below AtMost lesser_of greater_of by_value_law a b c p.1 q.1 r.1) (two_above AtMost lesser_of greater_of by_value_law a b c p.1 q.1 r.1)

  value_fits : T (fits f (by_value a b c))
  unfolding lesser_of greater_of
  value_fits =
      let g : T (fits f (greater_of a b)) = taken a b (λ (v : Float). T (fits f v)) (lt a b) (λ h. q.0) (λ h. p.0) in
      let l : T (fits f (lesser_of a b)) = taken a b (λ (v : Float). T (fits f v)) (lt b a) (λ h. q.0) (λ h. p.0) in
      let m : T (fits f (lesser_of (greater_of a b) c)) = taken (greater_of a b) c (λ (v : Float). T (fits f v)) (lt c (greater_of a b)) (λ h. r.0) (λ h. g) in
      taken (lesser_of a b) (lesser_of (greater_of a b) c) (λ (v : Float). T (fits f v)) (lt (lesser_of a b) (lesser_of (greater_of a b) c)) (λ h. m) (λ h. l)

  -- it is the median where it is no zero,
  pub median_by_value : eq (by_value a b c) nought ≡ false → by_value a b c ≡ median_of a b c
  median_by_value n = elim (eq_held f (median_of a b c) (by_value a b c) (median_fits f a b c p.0 q.0 r.0) value_fits equal) [ inl e ↦ sym e | inr z ↦ absurd (subst T n z.1) ]

  -- and else the median is one too
  pub median_zero : eq (by_value a b c) nought ≡ true → T (eq (median_of a b c) nought)
  median_zero n = eq_trans (median_of a b c) (by_value a b c) nought equal (subst T (sym n) tt)

  module _ (z : T (eq (median_of a b c) nought)) where
    fitting : T (fits f (median_of a b c))
    fitting = median_fits f a b c p.0 q.0 r.0

    median_minus : TwoOf (λ (v : Float). is_sign_negative v ≡ true) a b c → minus_nought ≡ median_of a b c
    unfolding median_of fits
    median_minus t =
        let k : Ranked (median_of a b c) minus_nought = least Ranked min_of max_of by_rank a b c minus_nought p.1 q.1 r.1 (two t) in
        elim (zero_is (median_of a b c) z) [ inl h ↦ zero_same f true minus_nought (median_of a b c) tt fitting tt h | inr h ↦ absurd (k.1 h tt) ]
      where
        two : TwoOf (λ (v : Float). is_sign_negative v ≡ true) a b c → TwoOf (λ (v : Float). Ranked v minus_nought) a b c
        two (inl x) = inl (minus_under a p.1 x.0, minus_under b q.1 x.1)
        two (inr (inl x)) = inr (inl (minus_under a p.1 x.0, minus_under c r.1 x.1))
        two (inr (inr x)) = inr (inr (minus_under b q.1 x.0, minus_under c r.1 x.1))

    median_plus : TwoOf (λ (v : Float). is_sign_negative v ≡ false) a b c → nought ≡ median_of a b c
    unfolding median_of fits
    median_plus t =
        let k : Ranked nought (median_of a b c) = greatest Ranked min_of max_of by_rank nought a b c p.1 q.1 r.1 (two t) in
        elim (zero_is (median_of a b c) z) [ inl h ↦ absurd (k.1 tt h) | inr h ↦ zero_same f false nought (median_of a b c) tt fitting tt h ]
      where
        two : TwoOf (λ (v : Float). is_sign_negative v ≡ false) a b c → TwoOf (λ (v : Float). Ranked nought v) a b c
        two (inl x) = inl (plus_over a p.1 x.0, plus_over b q.1 x.1)
        two (inr (inl x)) = inr (inl (plus_over a p.1 x.0, plus_over c r.1 x.1))
        two (inr (inr x)) = inr (inr (plus_over b q.1 x.0, plus_over c r.1 x.1))

    -- a zero has the sign that two of the three have
    pub median_sign : (s : Bool) → TwoOf (λ (v : Float). is_sign_negative v ≡ s) a b c → fin s 0 (pos 0) ≡ median_of a b c
    median_sign true t = median_minus t
    median_sign false t = median_plus t

    pub sign_first : is_sign_negative a ≡ is_sign_negative b → fin (is_sign_negative a) 0 (pos 0) ≡ median_of a b c
    sign_first h = median_sign (is_sign_negative a) (inl (refl, sym h))

    pub sign_third : (is_sign_negative a ≡ is_sign_negative b → ⊥) → fin (is_sign_negative c) 0 (pos 0) ≡ median_of a b c
    sign_third n = median_sign (is_sign_negative c) (among (is_sign_negative a) (is_sign_negative b) (is_sign_negative c) n)
      where
        among : (s t u : Bool) → (s ≡ t → ⊥) → ((s ≡ u) × (t ≡ u)) ⊎ (((s ≡ u) × (u ≡ u)) ⊎ ((t ≡ u) × (u ≡ u)))
        among true true u n = absurd (n refl)
        among false false u n = absurd (n refl)
        among true false true n = inr (inl (refl, refl))
        among true false false n = inr (inr (refl, refl))
        among false true true n = inr (inr (refl, refl))
        among false true false n = inr (inl (refl, refl))
