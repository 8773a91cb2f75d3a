-- The median's answer: when its value is a NaN, and which channel it names. A channel's value is `v` of its number. Assumes nothing.
--     median_number_first, -second, -third      the median is a number where one of the three is
--     median_nan_only                           so it is a NaN only if all three are
--     channel_below                             the channel is 0, 1 or 2
--     channel_carries                           where the median is a number, that channel's value compares equal to it
--     channel_lowest                            and no lower one's does
--     channel_only                              there is no other such channel
--     channel_flat                              of three times the same number it is 0
--     channel_nan                               for three NaNs it is 0
--     channel_zeros                             of −0, 5 and +0 the median is +0, and the channel 0, whose own value is −0
use Rattle.std.proofs.Common.{◌≡◌, ℕ, zero, suc, ◌<◌, Bool, true, false, cond, not, T, ◌⊎◌, pos, sym, refl, subst, inl, inr, arith}
use lib.Ieee.{Float, nan, fin, lt, eq, is_nan}
use lib.Ieee.Bits.{is_true}
use Rattle.numbers.specs.Scalar.{min_of, max_of, median_of, lowest_equal, middle_of}
use Rattle.numbers.proofs.Laws.Order.{nought, minus_nought, number_left, number_right, le_of_eq, eq_refl, eq_sym}
use Rattle.numbers.proofs.Laws.Scalar.{min_first, min_second, max_first, max_second, median_either, median_twice}

-- ---- the value
pub median_number_first : (a b c : Float) → T (not (is_nan a)) → T (not (is_nan (median_of a b c)))
unfolding median_of
median_number_first a b c n = number_right (min_of a b) (median_of a b c) (max_first (min_of a b) (min_of (max_of a b) c) (number_left (min_of a b) a (min_first a b n)))

pub median_number_second : (a b c : Float) → T (not (is_nan b)) → T (not (is_nan (median_of a b c)))
unfolding median_of
median_number_second a b c n = number_right (min_of a b) (median_of a b c) (max_first (min_of a b) (min_of (max_of a b) c) (number_left (min_of a b) b (min_second a b n)))

pub median_number_third : (a b c : Float) → T (not (is_nan c)) → T (not (is_nan (median_of a b c)))
unfolding median_of
median_number_third a b c n =
    let low = min_of (max_of a b) c in
    number_right low (median_of a b c) (max_second (min_of a b) low (number_left low c (min_second (max_of a b) c n)))

otherwise : (p q : Bool) → (T (not p) → T (not q)) → T q → T p
otherwise true q f h = tt
otherwise false true f h = absurd (f tt)
otherwise false false f h = absurd h

pub median_nan_only : (a b c : Float) → T (is_nan (median_of a b c)) → T (is_nan a) × T (is_nan b) × T (is_nan c)
median_nan_only a b c h =
    let m = is_nan (median_of a b c) in
    (otherwise (is_nan a) m (median_number_first a b c) h, otherwise (is_nan b) m (median_number_second a b c) h, otherwise (is_nan c) m (median_number_third a b c) h)

-- ---- the lowest channel whose value compares equal to m
lowest_below : (m a b c : Float) → lowest_equal m a b c < 3
unfolding lowest_equal
lowest_below m a b c = go (eq a m) (eq b m) (eq c m)
  where
    go : (p q r : Bool) → cond p 0 (cond q 1 (cond r 2 0)) < 3
    go true q r = omega arith
    go false true r = omega arith
    go false false true = omega arith
    go false false false = omega arith

lowest_equals : (v : ℕ → Float) (m : Float) → T (eq (v 0) m) ⊎ (T (eq (v 1) m) ⊎ T (eq (v 2) m)) → T (eq (v (lowest_equal m (v 0) (v 1) (v 2))) m)
unfolding lowest_equal
lowest_equals v m = go (eq (v 0) m) (eq (v 1) m) (eq (v 2) m) refl refl refl
  where
    go : (p q r : Bool) → eq (v 0) m ≡ p → eq (v 1) m ≡ q → eq (v 2) m ≡ r → T p ⊎ (T q ⊎ T r) → T (eq (v (cond p 0 (cond q 1 (cond r 2 0)))) m)
    go true q r e f g h = subst T (sym e) tt
    go false true r e f g h = subst T (sym f) tt
    go false false true e f g h = subst T (sym g) tt
    go false false false e f g (inl h) = absurd h
    go false false false e f g (inr (inl h)) = absurd h
    go false false false e f g (inr (inr h)) = absurd h

lowest_first : (v : ℕ → Float) (m : Float) (i : ℕ) → i < lowest_equal m (v 0) (v 1) (v 2) → eq (v i) m ≡ false
unfolding lowest_equal
lowest_first v m i = go (eq (v 0) m) (eq (v 1) m) (eq (v 2) m) refl refl i
  where
    go : (p q r : Bool) → eq (v 0) m ≡ p → eq (v 1) m ≡ q → (i : ℕ) → i < cond p 0 (cond q 1 (cond r 2 0)) → eq (v i) m ≡ false
    go true q r e f i l = absurd (omega (arith, l))
    go false true r e f zero l = e
    go false true r e f (suc i) l = absurd (omega (arith, l))
    go false false true e f zero l = e
    go false false true e f (suc zero) l = f
    go false false true e f (suc (suc i)) l = absurd (omega (arith, l))
    go false false false e f i l = absurd (omega (arith, l))

-- ---- of the median
pub channel_below : (a b c : Float) → (middle_of a b c).channel < 3
channel_below a b c = lowest_below (median_of a b c) a b c

-- the median is one of the three, so that one compares equal to it
one_equals : (v : ℕ → Float) (m : Float) → T (not (is_nan m)) → (m ≡ v 0) ⊎ ((m ≡ v 1) ⊎ (m ≡ v 2)) → T (eq (v 0) m) ⊎ (T (eq (v 1) m) ⊎ T (eq (v 2) m))
one_equals v m n = go
  where
    equal : (x : Float) → m ≡ x → T (eq x m)
    equal x e = subst (λ (y : Float). T (eq y m)) e (eq_refl m n)

    go : (m ≡ v 0) ⊎ ((m ≡ v 1) ⊎ (m ≡ v 2)) → T (eq (v 0) m) ⊎ (T (eq (v 1) m) ⊎ T (eq (v 2) m))
    go (inl e) = inl (equal (v 0) e)
    go (inr (inl e)) = inr (inl (equal (v 1) e))
    go (inr (inr e)) = inr (inr (equal (v 2) e))

pub channel_carries : (v : ℕ → Float) → let m = middle_of (v 0) (v 1) (v 2) in T (not (is_nan m.value)) → T (eq (v m.channel) m.value)
channel_carries v n = let m = median_of (v 0) (v 1) (v 2) in lowest_equals v m (one_equals v m n (median_either (v 0) (v 1) (v 2)))

pub channel_lowest : (v : ℕ → Float) (i : ℕ) → let m = middle_of (v 0) (v 1) (v 2) in i < m.channel → eq (v i) m.value ≡ false
channel_lowest v i l = lowest_first v (median_of (v 0) (v 1) (v 2)) i l

pub channel_only : (v : ℕ → Float) (i : ℕ) → let m = middle_of (v 0) (v 1) (v 2) in
    T (eq (v i) m.value) → ((j : ℕ) → j < i → eq (v j) m.value ≡ false) → i ≡ m.channel
channel_only v i h l =
    let m = middle_of (v 0) (v 1) (v 2) in
    let not_lower : i < m.channel → ⊥ = λ k. subst T (channel_lowest v i k) h in
    let not-higher : m.channel < i → ⊥ = λ k. subst T (l m.channel k) (channel_carries v (number_right (v i) m.value (le_of_eq (v i) m.value h))) in
    omega (arith, not_lower, not-higher)

pub channel_flat : (v : Float) → T (not (is_nan v)) → (middle_of v v v).channel ≡ 0
unfolding lowest_equal
channel_flat v n = rw (is_true (eq v (median_of v v v)) (eq_sym (median_of v v v) v (median_twice v v n n)))

pub channel_nan : middle_of nan nan nan ≡ record { value = nan; channel = 0 }
unfolding median_of min_of max_of lowest_equal is_nan eq
channel_nan = refl

-- the channel's own value may have the other sign of zero
pub channel_zeros : middle_of minus_nought (fin false 5 (pos 0)) nought ≡ record { value = nought; channel = 0 }
unfolding median_of min_of max_of lowest_equal lt eq is_nan
channel_zeros = refl
