-- The number of roots is the true one: of three finite values of binary32 the solver gives as many as whole numbers say, with nothing lost to rounding. Assumes nothing.
--     dominance_exact                  10^12 times a value of binary32 is exact in binary64
--     square_exact, product_exact      so are b·b and (4·a)·c: nothing is rounded, underflows or overflows
--     linear_true                      so the linear rule applies exactly when a is 0 or |b| exceeds 10^12·|a|
--     discriminant_positive, discriminant_zero, discriminant_negative  and the rounded discriminant has the sign of the true one
--     square_true                      so elsewhere there are two, one or no roots as b² − 4ac is positive, zero or negative
--     count_true, bits_true            together: how many roots there are, from the values and from their patterns
--     solver_true                      so a count and two values that list the roots count as many
--     promise_count                    and so many has any answer that the promise of `solve_quadratic` permits
--     count_scale                      the scale at which the three are whole numbers does not matter
--     linear_one_way                   where the linear rule applies to an a that is not 0 the quadratic goes one way from 0 to 1, so it has at most one root there
--     linear_far                       and where it has no root at all, −c/b is beyond 10^11 in size
--     count_figures                    evaluated: (1, −3, 2), (1, 2, 1), (1, 1, 1) and (0, 0, 0) have two, one, none and none
--     missed, invented, misruled       of values of binary64 it is not so: one root where there are two, one where there is none, and the wrong rule
use Rattle.std.proofs.Common.{◌≡◌, ℕ, zero, suc, ◌+◌, ◌-◌, ◌*◌, ◌^◌, ◌<◌, ◌≤◌, Bool, true, false, cond, ◌&&◌, ◌||◌, T, eqb, ltb, List, [], ◌∷◌, length, ℤ, pos, negsuc, ◌+ℤ◌, ◌-ℤ◌, ◌*ℤ◌, neg_ℤ, nat_abs, sym, refl, ap, ◌∙◌, subst, inl, inr, le_of_eq, le_refl, lt_of_le_of_lt, le_of_lt, lt_irrefl, zero-lt-suc, eq-zero-or-pos, mul-le-mul, eq-or-lt_of_le, mul-lt-mul_of_pos_right, mul-pos, mul-zero, zero-mul, arith, lit<, lit≤, eqb→eq, ltb→lt, pow_pos, le-ltb, lt-ltb, eq-eqb, ne_eqb}
use mathlib.Core.Bool.{beq}
use lib.IntN.{neg_ℤ-neg_ℤ}
use lib.Ieee.{Float, fin, binary32, binary64, unlike, below, level, lt, eq, mul, sub, div, neg, fits, of_bits}
use lib.Ieee.Fits.{mul-fits}
use lib.Ieee.Exact.{HasValue}
use contract.Lifetimes.{Lfts}
use borrow.Fn.Kinds.{Dens}
use Rattle.ground.proofs.Laws.Bools.{holds}
use Rattle.numbers.specs.Constants.{zero_of, dominance, four}
use Rattle.numbers.specs.Scalar.{abs_of}
use Rattle.numbers.specs.SquareRoot.{sqrt_of}
use Rattle.numbers.specs.EquationSolver.{is_linear, linear_roots, discriminant, upper_root, lower_root, square_roots_by, square_roots, roots_of, listed, Listed}
use Rattle.numbers.specs.Whole.{Finite, signed, steps, whole_of, FiniteBits, whole_of_bits}
use Rattle.numbers.specs.RootCount.{true_linear, true_discriminant, square_count, linear_count, true_count}
use Rattle.numbers.proofs.floats.Compared.{le_or_lt}
use Rattle.numbers.proofs.floats.Differences.{or_split}
use Rattle.numbers.proofs.Laws.Order.{nought, abs_fits, lt_over, eq_over, ltb_over, eqb_over, below_over, level_over}
use Rattle.numbers.proofs.Laws.Whole.{value_held, steps_value, whole_of_bits_law, finite_of_bits, abs_signed}
use Rattle.numbers.proofs.Laws.Exact.{Short, mul_short, single_short}
use Rattle.numbers.proofs.Laws.Difference.{sub_positive, sub_zero, sub_negative}
use Rattle.numbers.proofs.Laws.EquationSolver.{by_count}
use Rattle.numbers.proofs.equation_solver.solve_quadratic.Kinds.{ps}
use Rattle.numbers.proofs.equation_solver.solve_quadratic.Reads as solver

-- ---- the products, each exact
false_unlike : (s : Bool) → unlike false s ≡ s
false_unlike true = refl
false_unlike false = refl

self_unlike : (s : Bool) → unlike s s ≡ false
self_unlike true = refl
self_unlike false = refl

-- 10^12 has 28 digits, 5^12, and 4 has one
dominance_short : Short 28 0 40 dominance false (10 ^ 12)
unfolding of_bits
dominance_short = record { digits = 244140625; zeros = 12; few = lit< tt; is = refl; fine = lit< tt; value = (refl, refl) }

four_short : Short 1 0 3 four false 4
unfolding of_bits
four_short = record { digits = 1; zeros = 2; few = lit< tt; is = refl; fine = lit< tt; value = (refl, refl) }

pub dominance_exact : (s : Bool) (m : ℕ) (e : ℤ) → T (fits binary32 (fin s m e)) → HasValue (mul binary64 dominance (fin s m e)) s (10 ^ 12 * steps binary32 m e) (2 ^ 149)
dominance_exact s m e p =
    let n = steps binary32 m e in
    subst (λ (b : Bool). HasValue (mul binary64 dominance (fin s m e)) b (10 ^ 12 * n) (2 ^ 149)) (false_unlike s)
    (mul_short 28 24 0 149 40 128 dominance (fin s m e) false s (10 ^ 12) n (lit≤ tt) (lit≤ tt) (lit≤ tt) dominance_short (single_short s m e p)).value

pub square_exact : (s : Bool) (m : ℕ) (e : ℤ) → T (fits binary32 (fin s m e)) → HasValue (mul binary64 (fin s m e) (fin s m e)) false (steps binary32 m e * steps binary32 m e) (2 ^ 298)
square_exact s m e p =
    let n = steps binary32 m e in
    let h = single_short s m e p in
    subst (λ (b : Bool). HasValue (mul binary64 (fin s m e) (fin s m e)) b (n * n) (2 ^ 298)) (self_unlike s)
    (mul_short 24 24 149 149 128 128 (fin s m e) (fin s m e) s s n n (lit≤ tt) (lit≤ tt) (lit≤ tt) h h).value

pub product_exact : (s : Bool) (m : ℕ) (e : ℤ) (t : Bool) (n : ℕ) (d : ℤ) → T (fits binary32 (fin s m e)) → T (fits binary32 (fin t n d))
    → HasValue (mul binary64 (mul binary64 four (fin s m e)) (fin t n d)) (unlike s t) (4 * steps binary32 m e * steps binary32 n d) (2 ^ 298)
product_exact s m e t n d p q =
    let x = steps binary32 m e in
    let y = steps binary32 n d in
    subst (λ (b : Bool). HasValue (mul binary64 (mul binary64 four (fin s m e)) (fin t n d)) (unlike b t) (4 * x * y) (2 ^ 298)) (false_unlike s)
    (mul_short 25 24 149 149 131 128 (mul binary64 four (fin s m e)) (fin t n d) (unlike false s) t (4 * x) y (lit≤ tt) (lit≤ tt) (lit≤ tt)
    (mul_short 1 24 0 149 3 128 four (fin s m e) false s 4 x (lit≤ tt) (lit≤ tt) (lit≤ tt) four_short (single_short s m e p)) (single_short t n d q)).value

-- ---- the linear rule
-- a value is zero just where its whole number is
zero_true : (x : Float) → Finite binary32 x → eq x (zero_of binary64) ≡ eqb (nat_abs (whole_of binary32 x)) 0
unfolding whole_of of_bits
zero_true (fin s m e) p =
    let n = steps binary32 m e in
    eq_over (fin s m e) nought s n false 0 (2 ^ 149) (pow_pos 149) (steps_value binary32 s m e p) (refl, refl) ∙ once (eqb n 0) (beq s false) ∙ ap (λ (k : ℕ). eqb k 0) (sym (abs_signed s n))
  where
    once : (b c : Bool) → (b && (c || b)) ≡ b
    once true true = refl
    once true false = refl
    once false c = refl
zero_true lib.Ieee.nan p = elim p [ ]
zero_true (lib.Ieee.inf _) p = elim p [ ]

-- and 10^12·|a| is below |b| just where it is of the whole numbers
dominated_true : (a b : Float) → Finite binary32 a → Finite binary32 b → lt (mul binary64 dominance (abs_of a)) (abs_of b) ≡ ltb (10 ^ 12 * nat_abs (whole_of binary32 a)) (nat_abs (whole_of binary32 b))
unfolding whole_of abs_of
dominated_true (fin s m e) (fin t n d) p q =
    let x = steps binary32 m e in
    let y = steps binary32 n d in
    lt_over (mul binary64 dominance (fin false m e)) (fin false n d) false (10 ^ 12 * x) false y (2 ^ 149) (pow_pos 149)
    (dominance_exact false m e (abs_fits binary32 (fin s m e) p)) (steps_value binary32 false n d (abs_fits binary32 (fin t n d) q))
    ∙ sym (λ i. ltb (10 ^ 12 * abs_signed s x i) (abs_signed t y i))
dominated_true lib.Ieee.nan b p q = elim p [ ]
dominated_true (lib.Ieee.inf _) b p q = elim p [ ]
dominated_true (fin s m e) lib.Ieee.nan p q = elim q [ ]
dominated_true (fin s m e) (lib.Ieee.inf _) p q = elim q [ ]

pub linear_true : (a b : Float) → Finite binary32 a → Finite binary32 b → is_linear a b ≡ true_linear (whole_of binary32 a) (whole_of binary32 b)
unfolding is_linear true_linear
linear_true a b p q = λ i. zero_true a p i || dominated_true a b p q i

-- ---- the discriminant
-- the sign w of 4ac and its size y against b·b, of size x: what the true count is by them
abbrev by_sizes : Bool → ℕ → ℕ → ℕ
by_sizes w y x = cond (below w y false x) 2 (cond (level false x w y) 1 0)

signed_product : (s : Bool) (a : ℕ) (t : Bool) (b : ℕ) → signed s a *ℤ signed t b ≡ signed (unlike s t) (a * b)
signed_product false a false b = refl
signed_product false a true zero = ap pos (mul-zero a) ∙ sym (ap (λ (k : ℕ). neg_ℤ (pos k)) (mul-zero a))
signed_product false a true (suc b) = refl
signed_product true zero false b = ap pos (zero-mul b) ∙ sym (ap (λ (k : ℕ). neg_ℤ (pos k)) (zero-mul b))
signed_product true (suc a) false b = refl
signed_product true zero true zero = refl
signed_product true zero true (suc b) = ap (λ (k : ℕ). neg_ℤ (pos k)) (zero-mul (suc b)) ∙ ap pos (sym (zero-mul (suc b)))
signed_product true (suc a) true zero = ap (λ (k : ℕ). neg_ℤ (pos k)) (mul-zero (suc a)) ∙ ap pos (sym (mul-zero (suc a)))
signed_product true (suc a) true (suc b) = refl

discriminant_signed : (s : Bool) (a : ℕ) (t : Bool) (b : ℕ) (u : Bool) (c : ℕ) → true_discriminant (signed s a) (signed t b) (signed u c) ≡ pos (b * b) -ℤ signed (unlike s u) (4 * a * c)
unfolding true_discriminant
discriminant_signed s a t b u c =
    λ i. (signed_product t b t b ∙ ap (λ (w : Bool). signed w (b * b)) (self_unlike t)) i
    -ℤ (ap (λ (k : ℤ). k *ℤ signed u c) (signed_product false 4 s a ∙ ap (λ (w : Bool). signed w (4 * a)) (false_unlike s)) ∙ signed_product s (4 * a) u c) i

-- the difference of two numbers
minus_le : (x y : ℕ) → y ≤ x → pos x -ℤ pos y ≡ pos (x - y)
minus_le x zero h = ap pos (omega arith)
minus_le x (suc y) h = ap (λ (b : Bool). cond b (negsuc (suc y - suc x)) (pos (x - suc y))) (le-ltb x (suc y) h)

minus_gt : (x y : ℕ) → x < y → pos x -ℤ pos y ≡ negsuc (y - suc x)
minus_gt x zero h = absurd (omega arith)
minus_gt x (suc y) h = ap (λ (b : Bool). cond b (negsuc (suc y - suc x)) (pos (x - suc y))) (lt-ltb x (suc y) h)

square_count_pos : (d : ℕ) → square_count (pos d) ≡ cond (ltb 0 d) 2 1
unfolding square_count
square_count_pos zero = refl
square_count_pos (suc d) = sym (ap (λ (b : Bool). cond b 2 1) (lt-ltb 0 (suc d) (zero-lt-suc d)))

square_count_negsuc : (d : ℕ) → square_count (negsuc d) ≡ 0
unfolding square_count
square_count_negsuc d = refl

-- b·b less what is negative is their sum
count_plus : (y x : ℕ) → square_count (pos x -ℤ signed true y) ≡ by_sizes true y x
count_plus y x = ap (λ (z : ℤ). square_count (pos x +ℤ z)) (neg_ℤ-neg_ℤ (pos y)) ∙ square_count_pos (x + y) ∙ elim (eq-zero-or-pos (x + y)) [
  | inl z ↦ (λ i. cond (le-ltb 0 (x + y) (le_of_eq z) i) 2 1) ∙ sym (λ i. cond (le-ltb 0 (y + x) (omega arith) i) 2 (cond (eq-eqb x y (omega arith) i && eq-eqb x 0 (omega arith) i) 1 0))
  | inr h ↦ (λ i. cond (lt-ltb 0 (x + y) h i) 2 1) ∙ sym (λ i. cond (lt-ltb 0 (y + x) (omega arith) i) 2 (cond (level false x true y) 1 0))
]

-- less what is not negative it is their difference
count_minus : (y x : ℕ) → square_count (pos x -ℤ signed false y) ≡ by_sizes false y x
count_minus y x = elim (le_or_lt y x) [
  | inl h ↦ ap square_count (minus_le x y h) ∙ square_count_pos (x - y) ∙ elim (eq-or-lt_of_le h) [
    | inl e ↦ (λ i. cond (le-ltb 0 (x - y) (omega arith) i) 2 1) ∙ sym (λ i. cond (le-ltb y x (omega arith) i) 2 (cond (eq-eqb x y (sym e) i && true) 1 0))
    | inr l ↦ (λ i. cond (lt-ltb 0 (x - y) (omega arith) i) 2 1) ∙ sym (λ i. cond (lt-ltb y x l i) 2 (cond (level false x false y) 1 0))
  ]
  | inr h ↦ ap square_count (minus_gt x y h) ∙ square_count_negsuc (y - suc x) ∙ sym (λ i. cond (le-ltb y x (le_of_lt h) i) 2 (cond (ne_eqb x y (λ e. absurd (omega arith)) i && true) 1 0))
]

count_signed : (w : Bool) (y x : ℕ) → square_count (pos x -ℤ signed w y) ≡ by_sizes w y x
count_signed true y x = count_plus y x
count_signed false y x = count_minus y x

-- the rounded discriminant's sign is the order of the two exact products, 4ac with its sign and b·b
module _ (s : Bool) (m : ℕ) (e : ℤ) (t : Bool) (n : ℕ) (d : ℤ) (u : Bool) (o : ℕ) (g : ℤ) (p : T (fits binary32 (fin s m e))) (q : T (fits binary32 (fin t n d))) (r : T (fits binary32 (fin u o g))) where
  abbrev ac : Float
  ac = mul binary64 (mul binary64 four (fin s m e)) (fin u o g)

  abbrev bb : Float
  bb = mul binary64 (fin t n d) (fin t n d)

  abbrev size_ac : ℕ
  size_ac = 4 * steps binary32 m e * steps binary32 o g

  abbrev size_bb : ℕ
  size_bb = steps binary32 n d * steps binary32 n d

  ac_value : HasValue ac (unlike s u) size_ac (2 ^ 298)
  ac_value = product_exact s m e u o g p r

  bb_value : HasValue bb false size_bb (2 ^ 298)
  bb_value = square_exact t n d q

  ac_finite : Finite binary64 ac
  ac_finite = value_held binary64 ac (unlike s u) size_ac (2 ^ 298) ac_value (mul-fits binary64 (mul binary64 four (fin s m e)) (fin u o g))

  bb_finite : Finite binary64 bb
  bb_finite = value_held binary64 bb false size_bb (2 ^ 298) bb_value (mul-fits binary64 (fin t n d) (fin t n d))

  pub discriminant_positive : lt (zero_of binary64) (discriminant (fin s m e) (fin t n d) (fin u o g)) ≡ below (unlike s u) size_ac false size_bb
  unfolding discriminant of_bits
  discriminant_positive = sub_positive binary64 bb ac bb_finite ac_finite ∙ lt_over ac bb (unlike s u) size_ac false size_bb (2 ^ 298) (pow_pos 298) ac_value bb_value

  pub discriminant_zero : eq (discriminant (fin s m e) (fin t n d) (fin u o g)) (zero_of binary64) ≡ level false size_bb (unlike s u) size_ac
  unfolding discriminant of_bits
  discriminant_zero = sub_zero binary64 bb ac bb_finite ac_finite ∙ eq_over bb ac false size_bb (unlike s u) size_ac (2 ^ 298) (pow_pos 298) bb_value ac_value

  pub discriminant_negative : lt (discriminant (fin s m e) (fin t n d) (fin u o g)) (zero_of binary64) ≡ below false size_bb (unlike s u) size_ac
  unfolding discriminant of_bits
  discriminant_negative = sub_negative binary64 bb ac bb_finite ac_finite ∙ lt_over bb ac false size_bb (unlike s u) size_ac (2 ^ 298) (pow_pos 298) bb_value ac_value

-- ---- the count
linear_length : (b c : Float) → length (linear_roots b c) ≡ cond (eq b (zero_of binary64)) 0 1
unfolding linear_roots
linear_length b c = go (eq b (zero_of binary64)) (div binary64 (neg c) b)
  where
    go : (p : Bool) (x : Float) → length (cond p [] (x ∷ [])) ≡ cond p 0 1
    go true x = refl
    go false x = refl

pub square_true : (a b c : Float) → Finite binary32 a → Finite binary32 b → Finite binary32 c
    → length (square_roots a b (discriminant a b c)) ≡ square_count (true_discriminant (whole_of binary32 a) (whole_of binary32 b) (whole_of binary32 c))
unfolding whole_of square_roots
square_true (fin s m e) (fin t n d) (fin u o g) p q r =
    let x = steps binary32 m e in
    let y = steps binary32 n d in
    let z = steps binary32 o g in
    by_count (sqrt_of (discriminant (fin s m e) (fin t n d) (fin u o g))) (fin s m e) (fin t n d) (discriminant (fin s m e) (fin t n d) (fin u o g))
    ∙ (λ i. cond (discriminant_positive s m e t n d u o g p q r i) 2 (cond (discriminant_zero s m e t n d u o g p q r i) 1 0))
    ∙ sym (ap square_count (discriminant_signed s x t y u z) ∙ count_signed (unlike s u) (4 * x * z) (y * y))
square_true lib.Ieee.nan b c p q r = elim p [ ]
square_true (lib.Ieee.inf _) b c p q r = elim p [ ]
square_true (fin s m e) lib.Ieee.nan c p q r = elim q [ ]
square_true (fin s m e) (lib.Ieee.inf _) c p q r = elim q [ ]
square_true (fin s m e) (fin t n d) lib.Ieee.nan p q r = elim r [ ]
square_true (fin s m e) (fin t n d) (lib.Ieee.inf _) p q r = elim r [ ]

pub count_true : (a b c : Float) → Finite binary32 a → Finite binary32 b → Finite binary32 c
    → length (roots_of a b c) ≡ true_count (whole_of binary32 a) (whole_of binary32 b) (whole_of binary32 c)
unfolding roots_of true_count linear_count
count_true a b c p q r =
    apart_length (is_linear a b) (linear_roots b c) (square_roots a b (discriminant a b c))
    ∙ (λ i. cond (linear_true a b p q i) ((linear_length b c ∙ ap (λ (z : Bool). cond z 0 1) (zero_true b q)) i) (square_true a b c p q r i))
  where
    apart_length : (t : Bool) (xs ys : List Float) → length (cond t xs ys) ≡ cond t (length xs) (length ys)
    apart_length true xs ys = refl
    apart_length false xs ys = refl

pub solver_true : (a b c : Float) (n : ℕ) (x y : Float) → Finite binary32 a → Finite binary32 b → Finite binary32 c → Listed (roots_of a b c) n x y
    → n ≡ true_count (whole_of binary32 a) (whole_of binary32 b) (whole_of binary32 c)
solver_true a b c n x y p q r l = l.counted ∙ count_true a b c p q r

-- The count of any answer of `solve_quadratic`: it keeps the promise as it is read from the source, of the arguments a, the answer z and the arguments at exit e.
pub promise_count : (κs : Lfts 0) (a : Dens κs ps) (z : _) (e : _) → solver.Post κs a z e → Finite binary32 a.0 → Finite binary32 a.1.0 → Finite binary32 a.1.1.0
    → length (listed z) ≡ true_count (whole_of binary32 a.0) (whole_of binary32 a.1.0) (whole_of binary32 a.1.1.0)
promise_count κs a z e h p q r = ap length h ∙ count_true a.0 a.1.0 a.1.1.0 p q r

pub bits_true : (a b c : ℕ) → FiniteBits binary32 a → FiniteBits binary32 b → FiniteBits binary32 c
    → length (roots_of (of_bits binary32 a) (of_bits binary32 b) (of_bits binary32 c)) ≡ true_count (whole_of_bits binary32 a) (whole_of_bits binary32 b) (whole_of_bits binary32 c)
bits_true a b c p q r =
    count_true (of_bits binary32 a) (of_bits binary32 b) (of_bits binary32 c) (finite_of_bits binary32 a p) (finite_of_bits binary32 b q) (finite_of_bits binary32 c r)
    ∙ (λ i. true_count (whole_of_bits_law binary32 a p i) (whole_of_bits_law binary32 b q i) (whole_of_bits_law binary32 c r i))

-- ---- the scale
by_sign : (P : ℤ → Type 0) → ((s : Bool) (n : ℕ) → P (signed s n)) → (k : ℤ) → P k
by_sign P h (pos n) = h false n
by_sign P h (negsuc n) = h true (suc n)

-- the count by signs and sizes
count_sizes : (s : Bool) (a : ℕ) (t : Bool) (b : ℕ) (u : Bool) (c : ℕ) → true_count (signed s a) (signed t b) (signed u c) ≡ cond (eqb a 0 || ltb (10 ^ 12 * a) b) (cond (eqb b 0) 0 1) (by_sizes (unlike s u) (4 * a * c) (b * b))
unfolding true_count true_linear linear_count
count_sizes s a t b u c = λ i. cond (eqb (abs_signed s a i) 0 || ltb (10 ^ 12 * abs_signed s a i) (abs_signed t b i)) (cond (eqb (abs_signed t b i) 0) 0 1) ((ap square_count (discriminant_signed s a t b u c) ∙ count_signed (unlike s u) (4 * a * c) (b * b)) i)

scaled : (k : ℕ) (s : Bool) (n : ℕ) → pos k *ℤ signed s n ≡ signed s (k * n)
scaled k s n = signed_product false k s n ∙ ap (λ (b : Bool). signed b (k * n)) (false_unlike s)

pub count_scale : (k : ℕ) → 0 < k → (a b c : ℤ) → true_count (pos k *ℤ a) (pos k *ℤ b) (pos k *ℤ c) ≡ true_count a b c
count_scale k K =
    by_sign (λ a. (b c : ℤ) → true_count (pos k *ℤ a) (pos k *ℤ b) (pos k *ℤ c) ≡ true_count a b c)
    (λ s a. by_sign (λ b. (c : ℤ) → true_count (pos k *ℤ signed s a) (pos k *ℤ b) (pos k *ℤ c) ≡ true_count (signed s a) b c)
    (λ t b. by_sign (λ c. true_count (pos k *ℤ signed s a) (pos k *ℤ signed t b) (pos k *ℤ c) ≡ true_count (signed s a) (signed t b) c)
    (λ u c. (λ i. true_count (scaled k s a i) (scaled k t b i) (scaled k u c i)) ∙ count_sizes s (k * a) t (k * b) u (k * c) ∙ same s a b u c ∙ sym (count_sizes s a t b u c))))
  where
    same : (s : Bool) (a b : ℕ) (u : Bool) (c : ℕ)
        → cond (eqb (k * a) 0 || ltb (10 ^ 12 * (k * a)) (k * b)) (cond (eqb (k * b) 0) 0 1) (by_sizes (unlike s u) (4 * (k * a) * (k * c)) (k * b * (k * b)))
        ≡ cond (eqb a 0 || ltb (10 ^ 12 * a) b) (cond (eqb b 0) 0 1) (by_sizes (unlike s u) (4 * a * c) (b * b))
    same s a b u c =
        let one = zero-lt-suc 0 in
        let K2 : 0 < k * k = mul-pos K K in
        let none : 0 * 1 ≡ 0 * k = sym (zero-mul k) in
        let y : 4 * (k * a) * (k * c) * 1 ≡ 4 * a * c * (k * k) = omega arith in
        let x : k * b * (k * b) * 1 ≡ b * b * (k * k) = omega arith in
        λ i. cond (eqb_over (k * a) 0 a 0 1 k one K (omega arith) none i || ltb_over (10 ^ 12 * (k * a)) (k * b) (10 ^ 12 * a) b 1 k one K (omega arith) (omega arith) i) (cond (eqb_over (k * b) 0 b 0 1 k one K (omega arith) none i) 0 1)
        (cond (below_over (unlike s u) (4 * (k * a) * (k * c)) false (k * b * (k * b)) (4 * a * c) (b * b) 1 (k * k) one K2 y x i) 2 (cond (level_over false (k * b * (k * b)) (unlike s u) (4 * (k * a) * (k * c)) (b * b) (4 * a * c) 1 (k * k) one K2 x y i) 1 0))

-- ---- where the linear rule applies to an a that is not 0
dominates : (a b : ℤ) → true_linear a b ≡ true → 0 < nat_abs a → 10 ^ 12 * nat_abs a < nat_abs b
unfolding true_linear
dominates a b h A = elim (or_split (eqb (nat_abs a) 0) (ltb (10 ^ 12 * nat_abs a) (nat_abs b)) (holds _ h)) [
  | inl z ↦ absurd (lt_irrefl 0 (subst (λ (k : ℕ). 0 < k) (eqb→eq (nat_abs a) 0 z) A))
  | inr l ↦ ltb→lt (10 ^ 12 * nat_abs a) (nat_abs b) l
]

-- from p / q on to r / q the square term changes by less than the linear one, so the whole goes one way
pub linear_one_way : (a b : ℤ) (p r q : ℕ) → true_linear a b ≡ true → 0 < nat_abs a → p < r → r ≤ q → nat_abs a * (r * r - p * p) < nat_abs b * (q * (r - p))
linear_one_way a b p r q h A l m =
    let d = r - p in
    let e : r ≡ p + d = omega arith in
    subst (λ (k : ℕ). nat_abs a * (k * k - p * p) < nat_abs b * (q * d)) (sym e) (go (nat_abs a) (nat_abs b) d (dominates a b h A) (omega arith) (omega arith))
  where
    between : (d : ℕ) → (p + d) * (p + d) - p * p ≡ d * (p + (p + d))
    between d = omega arith

    go : (x y d : ℕ) → 10 ^ 12 * x < y → 0 < d → p + d ≤ q → x * ((p + d) * (p + d) - p * p) < y * (q * d)
    go x y d k D m =
        let Q : 0 < q = omega arith in
        let ends : p + (p + d) ≤ 2 * q = omega arith in
        let twice : 2 * x < y = omega arith in
        lt_of_le_of_lt (le_of_eq (ap (λ (w : ℕ). x * w) (between d)))
        (lt_of_le_of_lt (mul-le-mul (le_refl x) (mul-le-mul (le_refl d) ends)) (lt_of_le_of_lt (le_of_eq (swap x d)) (mul-lt-mul_of_pos_right twice (mul-pos Q D))))
      where
        swap : (x d : ℕ) → x * (d * (2 * q)) ≡ 2 * x * (q * d)
        swap x d = omega arith

-- and where no number is a root at all, −c/b is beyond 10^11
pub linear_far : (a b c : ℤ) → true_linear a b ≡ true → 0 < nat_abs a → square_count (true_discriminant a b c) ≡ 0 → 10 ^ 11 * nat_abs b < nat_abs c
linear_far =
    by_sign (λ a. (b c : ℤ) → true_linear a b ≡ true → 0 < nat_abs a → square_count (true_discriminant a b c) ≡ 0 → 10 ^ 11 * nat_abs b < nat_abs c)
    (λ s a. by_sign (λ b. (c : ℤ) → true_linear (signed s a) b ≡ true → 0 < nat_abs (signed s a) → square_count (true_discriminant (signed s a) b c) ≡ 0 → 10 ^ 11 * nat_abs b < nat_abs c)
    (λ t b. by_sign (λ c. true_linear (signed s a) (signed t b) ≡ true → 0 < nat_abs (signed s a) → square_count (true_discriminant (signed s a) (signed t b) c) ≡ 0 → 10 ^ 11 * nat_abs (signed t b) < nat_abs c)
    (λ u c h A z.
    let k : 10 ^ 12 * a < b = subst (λ (w : ℕ). 10 ^ 12 * w < b) (abs_signed s a) (subst (λ (w : ℕ). 10 ^ 12 * nat_abs (signed s a) < w) (abs_signed t b) (dominates (signed s a) (signed t b) h A)) in
    subst (λ (w : ℕ). 10 ^ 11 * w < nat_abs (signed u c)) (sym (abs_signed t b)) (subst (λ (w : ℕ). 10 ^ 11 * b < w) (sym (abs_signed u c))
    (far (unlike s u) a b c k (sym (count_signed (unlike s u) (4 * a * c) (b * b)) ∙ sym (ap square_count (discriminant_signed s a t b u c)) ∙ z))))))
  where
    not_two : (b : Bool) → ◌≡◌ {A = ℕ} (cond true 2 (cond b 1 0)) 0 → ⊥
    not_two b e = omega arith

    -- what no root says of the sizes
    no_less : (w : Bool) (y x : ℕ) → by_sizes w y x ≡ 0 → x ≤ y
    no_less true y x z = elim (le_or_lt x y) [ inl l ↦ l | inr l ↦ absurd (not_two (level false x true y) (sym (ap (λ (b : Bool). cond b 2 (cond (level false x true y) 1 0)) (lt-ltb 0 (y + x) (omega arith))) ∙ z)) ]
    no_less false y x z = elim (le_or_lt x y) [ inl l ↦ l | inr l ↦ absurd (not_two (level false x false y) (sym (ap (λ (b : Bool). cond b 2 (cond (level false x false y) 1 0)) (lt-ltb y x l)) ∙ z)) ]

    far : (w : Bool) (a b c : ℕ) → 10 ^ 12 * a < b → by_sizes w (4 * a * c) (b * b) ≡ 0 → 10 ^ 11 * b < c
    far w a b c k z = elim (le_or_lt c (10 ^ 11 * b)) [
      | inl l ↦ absurd (omega (arith, no_less w (4 * a * c) (b * b) z, mul-le-mul (le_refl (4 * a)) l, mul-le-mul k (le_refl b)))
      | inr l ↦ l
    ]

-- ---- figures
-- two, one, none, and none where every x would do
pub count_figures : (true_count (pos 1) (negsuc 2) (pos 2) ≡ 2) × (true_count (pos 1) (pos 2) (pos 1) ≡ 1) × (true_count (pos 1) (pos 1) (pos 1) ≡ 0) × (true_count (pos 0) (pos 0) (pos 0) ≡ 0)
unfolding true_count true_linear true_discriminant square_count linear_count
count_figures = (refl, refl, refl, refl)

-- ---- the converse: three finite values of binary64 that are none of binary32, the count that the solver gives of them, and the true one
pub record Miscounted (a b c : Float) (given true-one : ℕ) : Type 0 where
  pub held_a : Finite binary64 a
  pub held_b : Finite binary64 b
  pub held_c : Finite binary64 c
  pub long_a : fits binary32 a ≡ false
  pub long_b : fits binary32 b ≡ false
  pub long_c : fits binary32 c ≡ false
  pub gives : length (roots_of a b c) ≡ given
  pub truth : true_count (whole_of binary64 a) (whole_of binary64 b) (whole_of binary64 c) ≡ true-one

-- (2^27 + 1)·x² − (2^28 + 4)·x + (2^27 + 3) has the roots 1 and c/a: 4ac is rounded up to b²
pub missed : Miscounted (fin false 134217729 (pos 0)) (fin true 67108865 (pos 2)) (fin false 134217731 (pos 0)) 1 2
unfolding fits roots_of is_linear linear_roots discriminant square_roots_by square_roots upper_root lower_root abs_of lt eq mul sub div neg of_bits whole_of true_linear true_discriminant square_count linear_count true_count
missed = record { held_a = tt; held_b = tt; held_c = tt; long_a = refl; long_b = refl; long_c = refl; gives = refl; truth = refl }

-- with n = 11586, (n² + 1)·x² + 2·(n² + n + 1)·x + (n² + 2n + 2) has none, D = −4: both products are rounded down to one value
pub invented : Miscounted (fin false 134235397 (pos 0)) (fin false 134246983 (pos 1)) (fin false 67129285 (pos 1)) 1 0
unfolding fits roots_of is_linear linear_roots discriminant square_roots_by square_roots upper_root lower_root abs_of lt eq mul sub div neg of_bits whole_of true_linear true_discriminant square_count linear_count true_count
invented = record { held_a = tt; held_b = tt; held_c = tt; long_a = refl; long_b = refl; long_c = refl; gives = refl; truth = refl }

-- with a = 1 + 2^-52 and b = 10^12 + 2^-12 the linear rule should apply: 10^12·a is rounded up to b
pub misruled : Miscounted (fin false 4503599627370497 (negsuc 51)) (fin false 4096000000000001 (negsuc 11)) (fin false 16777217 (pos 0)) 2 1
unfolding fits roots_of is_linear linear_roots discriminant square_roots_by square_roots upper_root lower_root abs_of lt eq mul sub div neg of_bits whole_of true_linear true_discriminant square_count linear_count true_count
misruled = record { held_a = tt; held_b = tt; held_c = tt; long_a = refl; long_b = refl; long_c = refl; gives = refl; truth = refl }
