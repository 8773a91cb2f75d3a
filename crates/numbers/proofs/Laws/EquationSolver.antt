-- The roots of a quadratic by cases, and what a count and two values say of a list of at most two. Assumes nothing.
--     linear_at_zero, linear_dominated, not_linear  with a = 0, or where b dominates a, the equation is linear, and elsewhere not
--     roots_linear, roots_square                so its roots are those of the linear rule, or of the rule with the discriminant
--     normal_linear, normal_square              and so it is with the root of a normal number
--     linear_none, linear_one                   the linear rule gives no root where b = 0, and elsewhere −c/b
--     by_two, by_one, by_none                   the other gives both roots where D > 0, one where D = 0, and none elsewhere, whatever s is taken for D's root
--     by_fewer                                  so s matters only where D > 0
--     square_two, square_one, square_none, square_fewer  as it is with D's square root
--     square_nan                                which gives none where D is a NaN
--     by_count                                  how many the other rule gives
--     at_most_two, normal_at_most_two           there are at most two roots
--     none_one_two                              a list of at most two values has none, one or two
--     listed_is, listed_count, listed_same      what a count and two values say of such a list
--     listed_none, listed_one, listed_two       how none, one and two values are listed
--     listed_own                                a solver's answer says its list as a count and two values
--     listed_only                               and there is no other answer with that list
use Rattle.std.proofs.Common.{◌≡◌, ℕ, ◌≤◌, Bool, true, false, cond, ◌||◌, T, ◌⊎◌, List, [], ◌∷◌, length, get_or, take, sym, refl, ap, ◌∙◌, subst, inl, inr, le_trans, le_of_eq as nat-le-of-eq, le_of_suc-le-suc, not-suc-le-zero, lit≤}
use lib.Dec.{not_T}
use lib.Ieee.{Float, nan, binary64, lt, eq, mul, div, neg, of_bits, to_bits}
use lib.Ieee.Bits.{is_false}
use Rattle.numbers.specs.Constants.{zero_of, dominance, two}
use Rattle.numbers.specs.Scalar.{abs_of}
use Rattle.numbers.specs.SquareRoot.{sqrt_of, normal_root}
use Rattle.numbers.specs.EquationSolver.{is_linear, linear_roots, discriminant, upper_root, lower_root, square_roots_by, square_roots, roots_of, normal_roots_of, listed, Listed}
use Rattle.numbers.specs.declared.equation_solver.Roots.{Roots}
use Rattle.numbers.specs.declared.equation_solver.Roots.TheVariants.{None, One, Two}
use Rattle.numbers.proofs.Laws.Order.{lt_not_le, le_of_eq}

-- ---- which of the two rules
pub linear_at_zero : (a b : Float) → eq a (zero_of binary64) ≡ true → is_linear a b ≡ true
unfolding is_linear
linear_at_zero a b h = ap (λ (t : Bool). t || lt (mul binary64 dominance (abs_of a)) (abs_of b)) h

pub linear_dominated : (a b : Float) → eq a (zero_of binary64) ≡ false → lt (mul binary64 dominance (abs_of a)) (abs_of b) ≡ true → is_linear a b ≡ true
unfolding is_linear
linear_dominated a b h k = λ i. h i || k i

pub not_linear : (a b : Float) → eq a (zero_of binary64) ≡ false → lt (mul binary64 dominance (abs_of a)) (abs_of b) ≡ false → is_linear a b ≡ false
unfolding is_linear
not_linear a b h k = λ i. h i || k i

pub roots_linear : (a b c : Float) → is_linear a b ≡ true → roots_of a b c ≡ linear_roots b c
unfolding roots_of
roots_linear a b c h = ap (λ (t : Bool). cond t (linear_roots b c) (square_roots a b (discriminant a b c))) h

pub roots_square : (a b c : Float) → is_linear a b ≡ false → roots_of a b c ≡ square_roots a b (discriminant a b c)
unfolding roots_of
roots_square a b c h = ap (λ (t : Bool). cond t (linear_roots b c) (square_roots a b (discriminant a b c))) h

pub normal_linear : (a b c : Float) → is_linear a b ≡ true → normal_roots_of a b c ≡ linear_roots b c
unfolding normal_roots_of
normal_linear a b c h = ap (λ (t : Bool). cond t (linear_roots b c) (square_roots_by (normal_root (to_bits binary64 (discriminant a b c))) a b (discriminant a b c))) h

pub normal_square : (a b c : Float) → is_linear a b ≡ false → normal_roots_of a b c ≡ square_roots_by (normal_root (to_bits binary64 (discriminant a b c))) a b (discriminant a b c)
unfolding normal_roots_of
normal_square a b c h = ap (λ (t : Bool). cond t (linear_roots b c) (square_roots_by (normal_root (to_bits binary64 (discriminant a b c))) a b (discriminant a b c))) h

-- ---- the linear rule
pub linear_none : (b c : Float) → eq b (zero_of binary64) ≡ true → linear_roots b c ≡ []
unfolding linear_roots
linear_none b c h = ap (λ (t : Bool). cond t [] (div binary64 (neg c) b ∷ [])) h

pub linear_one : (b c : Float) → eq b (zero_of binary64) ≡ false → linear_roots b c ≡ div binary64 (neg c) b ∷ []
unfolding linear_roots
linear_one b c h = ap (λ (t : Bool). cond t [] (div binary64 (neg c) b ∷ [])) h

-- ---- the rule with the discriminant, whatever s is taken for its root
pub by_two : (s a b d : Float) → lt (zero_of binary64) d ≡ true → square_roots_by s a b d ≡ upper_root a b s ∷ lower_root a b s ∷ []
unfolding square_roots_by
by_two s a b d h = ap (λ (t : Bool). cond t (upper_root a b s ∷ lower_root a b s ∷ []) (cond (eq d (zero_of binary64)) (div binary64 (neg b) (mul binary64 two a) ∷ []) [])) h

pub by_fewer : (s a b d : Float) → lt (zero_of binary64) d ≡ false → square_roots_by s a b d ≡ cond (eq d (zero_of binary64)) (div binary64 (neg b) (mul binary64 two a) ∷ []) []
unfolding square_roots_by
by_fewer s a b d h = ap (λ (t : Bool). cond t (upper_root a b s ∷ lower_root a b s ∷ []) (cond (eq d (zero_of binary64)) (div binary64 (neg b) (mul binary64 two a) ∷ []) [])) h

-- what equals 0 is not above it
zero_not_above : (d : Float) → eq d (zero_of binary64) ≡ true → lt (zero_of binary64) d ≡ false
zero_not_above d h =
    let z = zero_of binary64 in
    is_false (lt z d) (not_T (lt z d) (λ l. lt_not_le z d l (le_of_eq d z (subst T (sym h) tt))))

pub by_one : (s a b d : Float) → eq d (zero_of binary64) ≡ true → square_roots_by s a b d ≡ div binary64 (neg b) (mul binary64 two a) ∷ []
by_one s a b d h = by_fewer s a b d (zero_not_above d h) ∙ ap (λ (t : Bool). cond t (div binary64 (neg b) (mul binary64 two a) ∷ []) []) h

pub by_none : (s a b d : Float) → lt (zero_of binary64) d ≡ false → eq d (zero_of binary64) ≡ false → square_roots_by s a b d ≡ []
by_none s a b d h k = by_fewer s a b d h ∙ ap (λ (t : Bool). cond t (div binary64 (neg b) (mul binary64 two a) ∷ []) []) k

pub square_two : (a b d : Float) → lt (zero_of binary64) d ≡ true → square_roots a b d ≡ upper_root a b (sqrt_of d) ∷ lower_root a b (sqrt_of d) ∷ []
unfolding square_roots
square_two a b d = by_two (sqrt_of d) a b d

pub square_one : (a b d : Float) → eq d (zero_of binary64) ≡ true → square_roots a b d ≡ div binary64 (neg b) (mul binary64 two a) ∷ []
unfolding square_roots
square_one a b d = by_one (sqrt_of d) a b d

pub square_none : (a b d : Float) → lt (zero_of binary64) d ≡ false → eq d (zero_of binary64) ≡ false → square_roots a b d ≡ []
unfolding square_roots
square_none a b d = by_none (sqrt_of d) a b d

pub square_fewer : (a b d : Float) → lt (zero_of binary64) d ≡ false → square_roots a b d ≡ cond (eq d (zero_of binary64)) (div binary64 (neg b) (mul binary64 two a) ∷ []) []
unfolding square_roots
square_fewer a b d = by_fewer (sqrt_of d) a b d

pub square_nan : (a b : Float) → square_roots a b nan ≡ []
unfolding lt eq of_bits
square_nan a b = square_none a b nan refl refl

-- ---- how many
pub by_count : (s a b d : Float) → length (square_roots_by s a b d) ≡ cond (lt (zero_of binary64) d) 2 (cond (eq d (zero_of binary64)) 1 0)
unfolding square_roots_by
by_count s a b d = go (lt (zero_of binary64) d) (eq d (zero_of binary64)) (upper_root a b s) (lower_root a b s) (div binary64 (neg b) (mul binary64 two a))
  where
    go : (p q : Bool) (x y z : Float) → length (cond p (x ∷ y ∷ []) (cond q (z ∷ []) [])) ≡ cond p 2 (cond q 1 0)
    go true q x y z = refl
    go false true x y z = refl
    go false false x y z = refl

-- by either rule, the second with any s
by_at_most_two : (s a b c d : Float) → length (cond (is_linear a b) (linear_roots b c) (square_roots_by s a b d)) ≤ 2
unfolding linear_roots
by_at_most_two s a b c d = go (is_linear a b) (eq b (zero_of binary64)) (lt (zero_of binary64) d) (eq d (zero_of binary64)) (div binary64 (neg c) b) (square_roots_by s a b d) (by_count s a b d)
  where
    go : (p q r t : Bool) (x : Float) (ys : List Float) → length ys ≡ cond r 2 (cond t 1 0) → length (cond p (cond q [] (x ∷ [])) ys) ≤ 2
    go true true r t x ys h = lit≤ tt
    go true false r t x ys h = lit≤ tt
    go false q true t x ys h = nat-le-of-eq h
    go false q false true x ys h = le_trans (nat-le-of-eq h) (lit≤ tt)
    go false q false false x ys h = le_trans (nat-le-of-eq h) (lit≤ tt)

pub at_most_two : (a b c : Float) → length (roots_of a b c) ≤ 2
unfolding roots_of square_roots
at_most_two a b c = by_at_most_two (sqrt_of (discriminant a b c)) a b c (discriminant a b c)

pub normal_at_most_two : (a b c : Float) → length (normal_roots_of a b c) ≤ 2
unfolding normal_roots_of
normal_at_most_two a b c = by_at_most_two (normal_root (to_bits binary64 (discriminant a b c))) a b c (discriminant a b c)

pub none_one_two : (xs : List Float) → length xs ≤ 2 → (xs ≡ []) ⊎ ((x : Float) × (xs ≡ x ∷ [])) ⊎ ((x : Float) × (y : Float) × (xs ≡ x ∷ y ∷ []))
none_one_two [] h = inl refl
none_one_two (x ∷ []) h = inr (inl (x, refl))
none_one_two (x ∷ y ∷ []) h = inr (inr (x, y, refl))
none_one_two (x ∷ y ∷ z ∷ xs) h = absurd (not-suc-le-zero (le_of_suc-le-suc (le_of_suc-le-suc h)))

pub listed_is : (xs : List Float) (n : ℕ) (x y : Float) → length xs ≤ 2 → Listed xs n x y → xs ≡ take n (x ∷ y ∷ [])
listed_is xs n x y h l = own xs h ∙ sym (λ i. take (l.counted i) (l.one i ∷ l.two i ∷ []))
  where
    own : (xs : List Float) → length xs ≤ 2 → xs ≡ take (length xs) (get_or xs 0 (zero_of binary64) ∷ get_or xs 1 (zero_of binary64) ∷ [])
    own [] h = refl
    own (x ∷ []) h = refl
    own (x ∷ y ∷ []) h = refl
    own (x ∷ y ∷ z ∷ xs) h = absurd (not-suc-le-zero (le_of_suc-le-suc (le_of_suc-le-suc h)))

pub listed_count : (xs : List Float) (n : ℕ) (x y : Float) → length xs ≤ 2 → Listed xs n x y → n ≤ 2
listed_count xs n x y h l = subst (λ (k : ℕ). k ≤ 2) (sym l.counted) h

pub listed_same : (xs : List Float) (n m : ℕ) (x y u v : Float) → Listed xs n x y → Listed xs m u v → (n ≡ m) × (x ≡ u) × (y ≡ v)
listed_same xs n m x y u v h k = (h.counted ∙ sym k.counted, h.one ∙ sym k.one, h.two ∙ sym k.two)

pub listed_none : Listed [] 0 (zero_of binary64) (zero_of binary64)
listed_none = record { counted = refl; one = refl; two = refl }

pub listed_one : (x : Float) → Listed (x ∷ []) 1 x (zero_of binary64)
listed_one x = record { counted = refl; one = refl; two = refl }

pub listed_two : (x y : Float) → Listed (x ∷ y ∷ []) 2 x y
listed_two x y = record { counted = refl; one = refl; two = refl }

pub listed_own : (r : Roots) (xs : List Float) → listed r ≡ xs → Listed xs (length (listed r)) (get_or (listed r) 0 (zero_of binary64)) (get_or (listed r) 1 (zero_of binary64))
listed_own r xs e = record { counted = λ i. length (e i); one = λ i. get_or (e i) 0 (zero_of binary64); two = λ i. get_or (e i) 1 (zero_of binary64) }

-- the answer with a list
of_list : List Float → Roots
of_list [] = None
of_list (x ∷ []) = One x
of_list (x ∷ y ∷ xs) = Two x y

own_list : (r : Roots) → of_list (listed r) ≡ r
unfolding of_list
own_list None = refl
own_list (One x) = refl
own_list (Two x y) = refl

pub listed_only : (r s : Roots) → listed r ≡ listed s → r ≡ s
listed_only r s e = sym (own_list r) ∙ ap of_list e ∙ own_list s
