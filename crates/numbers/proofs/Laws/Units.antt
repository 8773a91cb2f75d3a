-- Finite values of a format as whole numbers of its smallest value: their order, and a difference as the nearest to the exact one. Assumes nothing.
--     gain, loss                what a whole number is above zero, and what below: it is the one less the other, and one of them is 0
--     gain_signed, loss_signed, gain_neg, loss_neg, gain_twice, loss_twice, signed_twice  of a signed number, of a negative and of the double
--     difference                of a difference
--     whole_same                two numbers that are as far above zero as below are the same
--     abs_difference, abs_near, near_abs, abs_none  the size of a difference, as a bound either way, and 0
--     le_or_lt                  of two numbers the first is at most the second, or the second less
--     by_sign                   what holds of each signed number holds of each whole number
--     whole_neg                 the negative of a value is the negative of its number
--     lt→whole, whole→lt, le→whole, whole→le, eq→whole, whole→eq  finite values compare as their numbers
--     whole_bound               a bound of a value is one of its number
--     held_whole                q · 2 ^ j is the number of a value where q has no more digits than the format keeps and it is not too large
--     exactly                   `sum_sign` and `sum_size` give the difference of two signed numbers
--     sub_whole_nearest         no value's number is nearer to the exact difference than that of the rounded one
use Rattle.std.proofs.Common.{◌≡◌, ℕ, zero, suc, ◌+◌, ◌-◌, ◌*◌, ◌^◌, ◌<◌, ◌≤◌, Bool, true, false, cond, not, ◌&&◌, T, ltb, leb, ◌⊎◌, ℤ, pos, negsuc, ◌-ℤ◌, ◌*ℤ◌, neg_ℤ, nat_abs, sym, refl, ap, ◌∙◌, subst, inl, inr, le_trans, le_of_eq, mul-le-mul_right, mul-pos, mul-one, le_of_mul-le-mul_right, arith, ltb→lt, lt→ltb, leb→le, nltb→le, pow_pos}
use mathlib.Core.Bool.{beq}
use lib.IntN.{sub_ℕ}
use lib.Dec.{not_T, nleb→lt}
use lib.Ieee.{Float, nan, inf, fin, Format, prec, emax, low, up, down, round, sub, neg, below, lt, le, eq, fits}
use lib.Ieee.Fits.{down_pos, round-fits}
use lib.Ieee.Exact.{HasValue, round_exact}
use lib.Ieee.Scale.{round_same}
use Rattle.numbers.specs.Nearest.{apart, distance, Closest, Nearest, sum_size, sum_sign}
use Rattle.numbers.specs.Whole.{Finite, signed, steps, whole_of}
use Rattle.numbers.proofs.Laws.Order.{plus, minus, IsFinite, finite_number, lt_over, le_of_eq as le-of-level, ge_of_eq, le_of_not_lt, lt_not_le, eq_of_le_le, ltb_over}
use Rattle.numbers.proofs.Laws.Nearest.{round_nearest, round_is, sub_nearest, sum_exact, other_sign}
use Rattle.numbers.proofs.Laws.Whole.{value_held, steps_value, whole_of_value, abs_signed}
use Rattle.numbers.proofs.Laws.Bounds.{Within}
use Rattle.numbers.proofs.Laws.Difference.{counted}

-- ---- whole numbers as differences, which `omega` reads
abbrev pub gain : ℤ → ℕ
gain (pos n) = n
gain (negsuc n) = 0

abbrev pub loss : ℤ → ℕ
loss (pos n) = 0
loss (negsuc n) = suc n

pub gain_signed : (s : Bool) (n : ℕ) → gain (signed s n) ≡ plus s n
gain_signed false n = refl
gain_signed true zero = refl
gain_signed true (suc n) = refl

pub loss_signed : (s : Bool) (n : ℕ) → loss (signed s n) ≡ minus s n
loss_signed false n = refl
loss_signed true zero = refl
loss_signed true (suc n) = refl

pub gain_neg : (k : ℤ) → gain (neg_ℤ k) ≡ loss k
gain_neg (pos zero) = refl
gain_neg (pos (suc n)) = refl
gain_neg (negsuc n) = refl

pub loss_neg : (k : ℤ) → loss (neg_ℤ k) ≡ gain k
loss_neg (pos zero) = refl
loss_neg (pos (suc n)) = refl
loss_neg (negsuc n) = refl

pub gain_twice : (k : ℤ) → gain (pos 2 *ℤ k) ≡ 2 * gain k
gain_twice (pos n) = refl
gain_twice (negsuc n) = gain_neg (pos (2 * suc n))

pub loss_twice : (k : ℤ) → loss (pos 2 *ℤ k) ≡ 2 * loss k
loss_twice (pos n) = refl
loss_twice (negsuc n) = loss_neg (pos (2 * suc n))

-- of a − b for two naturals
less : (a b : ℕ) → gain (sub_ℕ a b) + b ≡ loss (sub_ℕ a b) + a
less a b = go (ltb a b) (ltb→lt a b) (nltb→le a b)
  where
    go : (t : Bool) → (T t → a < b) → (T (not t) → b ≤ a) → gain (cond t (negsuc (b - suc a)) (pos (a - b))) + b ≡ loss (cond t (negsuc (b - suc a)) (pos (a - b))) + a
    go true h k = omega (arith, h tt)
    go false h k = omega (arith, k tt)

pub difference : (a b : ℤ) → gain (a -ℤ b) + loss a + gain b ≡ loss (a -ℤ b) + gain a + loss b
difference (pos a) (pos zero) = omega arith
difference (pos a) (pos (suc b)) = omega (arith, less a (suc b))
difference (pos a) (negsuc b) = omega arith
difference (negsuc a) (pos zero) = omega (arith, less 0 (suc a))
difference (negsuc a) (pos (suc b)) = omega arith
difference (negsuc a) (negsuc b) = omega (arith, less (suc b) (suc a))

pub whole_same : (a b : ℤ) → gain a + loss b ≡ gain b + loss a → a ≡ b
whole_same (pos a) (pos b) h = ap pos (omega arith)
whole_same (pos a) (negsuc b) h = absurd (omega arith)
whole_same (negsuc a) (pos b) h = absurd (omega arith)
whole_same (negsuc a) (negsuc b) h = ap negsuc (omega arith)

pub signed_twice : (s : Bool) (n : ℕ) → signed s (n * 2) ≡ pos 2 *ℤ signed s n
signed_twice s n =
    whole_same (signed s (n * 2)) (pos 2 *ℤ signed s n)
    (go s (gain_signed s (n * 2)) (loss_signed s (n * 2)) (gain_twice (signed s n)) (loss_twice (signed s n)) (gain_signed s n) (loss_signed s n))
  where
    go : (s : Bool) {a b c d e f : ℕ} → a ≡ plus s (n * 2) → b ≡ minus s (n * 2) → c ≡ 2 * e → d ≡ 2 * f → e ≡ plus s n → f ≡ minus s n → a + d ≡ c + b
    go true {a} {b} {c} {d} {e} {f} p q r t u v = omega arith
    go false {a} {b} {c} {d} {e} {f} p q r t u v = omega arith

sized : (k : ℤ) (p q : ℕ) → gain k + p ≡ loss k + q → nat_abs k ≡ apart p q
sized (pos k) p q h = omega arith
sized (negsuc k) p q h = omega arith

pub abs_difference : (a b : ℤ) → nat_abs (a -ℤ b) ≡ apart (gain a + loss b) (gain b + loss a)
abs_difference a b = sized (a -ℤ b) (loss a + gain b) (gain a + loss b) (omega (arith, difference a b)) ∙ turned (loss a + gain b) (gain a + loss b) (gain b + loss a) (omega arith)
  where
    turned : (p q r : ℕ) → p ≡ r → apart p q ≡ apart q r
    turned p q r e = omega arith

pub abs_near : (a b : ℤ) (n : ℕ) → gain a + loss b ≤ gain b + loss a + n → gain b + loss a ≤ gain a + loss b + n → nat_abs (a -ℤ b) ≤ n
abs_near a b n h k = le_trans (le_of_eq (abs_difference a b)) (go (gain a + loss b) (gain b + loss a) h k)
  where
    go : (p q : ℕ) → p ≤ q + n → q ≤ p + n → apart p q ≤ n
    go p q h k = omega arith

pub near_abs : (a b : ℤ) (n : ℕ) → nat_abs (a -ℤ b) ≤ n → (gain a + loss b ≤ gain b + loss a + n) × (gain b + loss a ≤ gain a + loss b + n)
near_abs a b n h = go (gain a + loss b) (gain b + loss a) (le_trans (le_of_eq (sym (abs_difference a b))) h)
  where
    go : (p q : ℕ) → apart p q ≤ n → (p ≤ q + n) × (q ≤ p + n)
    go p q h = (omega arith, omega arith)

pub abs_none : (a b : ℤ) → nat_abs (a -ℤ b) ≤ 0 → a ≡ b
abs_none a b h = let k = near_abs a b 0 h in whole_same a b (omega (arith, k.0, k.1))

pub by_sign : (P : ℤ → Type 0) → ((s : Bool) (n : ℕ) → P (signed s n)) → (k : ℤ) → P k
by_sign P h (pos n) = h false n
by_sign P h (negsuc n) = h true (suc n)

-- ---- the order of values is that of their numbers
of_below : (s : Bool) (a : ℕ) (t : Bool) (b : ℕ) → T (below s a t b) → plus s a + minus t b < plus t b + minus s a
of_below false a false b h = omega (arith, ltb→lt a b h)
of_below false a true b h = absurd h
of_below true a false b h = omega (arith, ltb→lt 0 (a + b) h)
of_below true a true b h = omega (arith, ltb→lt b a h)

is_below_law : (s : Bool) (a : ℕ) (t : Bool) (b : ℕ) → plus s a + minus t b < plus t b + minus s a → T (below s a t b)
is_below_law false a false b h = lt→ltb a b (omega arith)
is_below_law false a true b h = absurd (omega arith)
is_below_law true a false b h = lt→ltb 0 (a + b) (omega arith)
is_below_law true a true b h = lt→ltb b a (omega arith)

pub le_or_lt : (a b : ℕ) → (a ≤ b) ⊎ (b < a)
le_or_lt a b = go (leb a b) (leb→le a b) (nleb→lt a b)
  where
    go : (t : Bool) → (T t → a ≤ b) → (T (not t) → b < a) → (a ≤ b) ⊎ (b < a)
    go true h k = inl (h tt)
    go false h k = inr (k tt)

whole_finite : (f : Format) (x : Float) → Finite f x → IsFinite x
whole_finite f (fin s m e) p = tt
whole_finite f nan p = elim p [ ]
whole_finite f (inf _) p = elim p [ ]

pub lt→whole : (f : Format) (x y : Float) → Finite f x → Finite f y → T (lt x y) → gain (whole_of f x) + loss (whole_of f y) < gain (whole_of f y) + loss (whole_of f x)
unfolding whole_of
lt→whole f (fin s m e) (fin t n d) p q h =
    let a = steps f m e in
    let b = steps f n d in
    omega (
      arith,
      of_below s a t b (subst T (lt_over (fin s m e) (fin t n d) s a t b (2 ^ low f) (pow_pos (low f)) (steps_value f s m e p) (steps_value f t n d q)) h),
      gain_signed s a,
      loss_signed s a,
      gain_signed t b,
      loss_signed t b,
    )
lt→whole f nan y p q h = elim p [ ]
lt→whole f (inf _) y p q h = elim p [ ]
lt→whole f (fin s m e) nan p q h = elim q [ ]
lt→whole f (fin s m e) (inf _) p q h = elim q [ ]

pub whole→lt : (f : Format) (x y : Float) → Finite f x → Finite f y → gain (whole_of f x) + loss (whole_of f y) < gain (whole_of f y) + loss (whole_of f x) → T (lt x y)
unfolding whole_of
whole→lt f (fin s m e) (fin t n d) p q h =
    let a = steps f m e in
    let b = steps f n d in
    subst T (sym (lt_over (fin s m e) (fin t n d) s a t b (2 ^ low f) (pow_pos (low f)) (steps_value f s m e p) (steps_value f t n d q)))
    (is_below_law s a t b (omega (arith, h, gain_signed s a, loss_signed s a, gain_signed t b, loss_signed t b)))
whole→lt f nan y p q h = elim p [ ]
whole→lt f (inf _) y p q h = elim p [ ]
whole→lt f (fin s m e) nan p q h = elim q [ ]
whole→lt f (fin s m e) (inf _) p q h = elim q [ ]

pub le→whole : (f : Format) (x y : Float) → Finite f x → Finite f y → T (le x y) → gain (whole_of f x) + loss (whole_of f y) ≤ gain (whole_of f y) + loss (whole_of f x)
le→whole f x y p q h = elim (le_or_lt (gain (whole_of f x) + loss (whole_of f y)) (gain (whole_of f y) + loss (whole_of f x))) [
  | inl l ↦ l
  | inr l ↦ absurd (lt_not_le y x (whole→lt f y x q p l) h)
]

pub whole→le : (f : Format) (x y : Float) → Finite f x → Finite f y → gain (whole_of f x) + loss (whole_of f y) ≤ gain (whole_of f y) + loss (whole_of f x) → T (le x y)
whole→le f x y p q h =
    le_of_not_lt y x (finite_number y (whole_finite f y q)) (finite_number x (whole_finite f x p)) (not_T (lt y x) (λ l. absurd (omega (arith, lt→whole f y x q p l))))

pub eq→whole : (f : Format) (x y : Float) → Finite f x → Finite f y → T (eq x y) → whole_of f x ≡ whole_of f y
eq→whole f x y p q h = whole_same (whole_of f x) (whole_of f y) (omega (arith, le→whole f x y p q (le-of-level x y h), le→whole f y x q p (ge_of_eq x y h)))

pub whole→eq : (f : Format) (x y : Float) → Finite f x → Finite f y → whole_of f x ≡ whole_of f y → T (eq x y)
whole→eq f x y p q h =
    let g = ap gain h in
    let l = ap loss h in
    eq_of_le_le x y (whole→le f x y p q (omega arith)) (whole→le f y x q p (omega arith))

pub whole_neg : (f : Format) (x : Float) → whole_of f (neg x) ≡ neg_ℤ (whole_of f x)
unfolding whole_of neg
whole_neg f nan = refl
whole_neg f (inf s) = refl
whole_neg f (fin s m e) = whole_same (signed (not s) (steps f m e)) (neg_ℤ (signed s (steps f m e))) (go s (steps f m e))
  where
    go : (s : Bool) (n : ℕ) → gain (signed (not s) n) + loss (neg_ℤ (signed s n)) ≡ gain (neg_ℤ (signed s n)) + loss (signed (not s) n)
    go s n = omega (arith, gain_signed (not s) n, loss_signed (not s) n, gain_neg (signed s n), loss_neg (signed s n), gain_signed s n, loss_signed s n, (sides s n).0, (sides s n).1)
      where
        sides : (s : Bool) (n : ℕ) → (plus (not s) n ≡ minus s n) × (minus (not s) n ≡ plus s n)
        sides true n = (refl, refl)
        sides false n = (refl, refl)

pub whole_bound : (f : Format) (k : ℕ) (x : Float) → Finite f x → Within k x → nat_abs (whole_of f x) ≤ 2 ^ k * 2 ^ low f
unfolding whole_of
whole_bound f k (fin s m e) p w =
    le_trans (le_of_eq (abs_signed s (steps f m e)))
    (le_of_mul-le-mul_right (go (m * up e) (down e) (2 ^ low f) (2 ^ k) (steps f m e) (steps_value f s m e p).1 (mul-le-mul_right (2 ^ low f) w)) (down_pos e))
  where
    go : (x c L K n : ℕ) → x * L ≡ n * c → x * L ≤ K * c * L → n * c ≤ K * L * c
    go x c L K n h l = omega arith
whole_bound f k nan p w = elim p [ ]
whole_bound f k (inf _) p w = elim p [ ]

-- ---- which numbers are a value's
pub held_whole : (f : Format) (s : Bool) (q j : ℕ) → q < 2 ^ prec f → q * 2 ^ j < 2 ^ (low f + suc (emax f)) → (w : Float) × Finite f w × (whole_of f w ≡ signed s (q * 2 ^ j))
held_whole f s q j few fine =
    let L = 2 ^ low f in
    let w = round f s (q * 2 ^ j) L in
    let v : HasValue w s (q * 2 ^ j) L = round_exact f s (q * 2 ^ j) L q j (pow_pos (low f)) few fine refl in
    (w, value_held f w s (q * 2 ^ j) L v (round-fits f s (q * 2 ^ j) L), whole_of_value f w s (q * 2 ^ j) v)

-- ---- rounding, over the smallest value
-- how far a value is from K smallest values
distance_is : (f : Format) (s : Bool) (K m : ℕ) (e : ℤ) → T (fits f (fin s m e)) → distance K (2 ^ low f) m e ≡ apart K (steps f m e) * down e
distance_is f s K m e p =
    sym (mul-one (distance K (2 ^ low f) m e))
    ∙ counted false (K * down e) (m * up e * 2 ^ low f) K (steps f m e) (down e) 1 (mul-one (K * down e)) (mul-one (m * up e * 2 ^ low f) ∙ (steps_value f s m e p).1)

-- a size of a difference of signed numbers
between : (r : Bool) (a : ℕ) (u : Bool) (b : ℕ) → nat_abs (signed r a -ℤ signed u b) ≡ apart (plus r a + minus u b) (plus u b + minus r a)
between r a u b = abs_difference (signed r a) (signed u b) ∙ (λ i. apart (gain_signed r a i + loss_signed u b i) (gain_signed u b i + loss_signed r a i))

-- no value is nearer to K smallest values, of either sign, than the closest
closest_whole : (f : Format) (u : Bool) (K m : ℕ) (e : ℤ) (r : Bool) (n : ℕ) (d : ℤ) → Closest f u K (2 ^ low f) m e → T (fits f (fin r n d))
    → nat_abs (signed u (steps f m e) -ℤ signed u K) ≤ nat_abs (signed r (steps f n d) -ℤ signed u K)
closest_whole f u K m e r n d c q =
    subst (λ (x : ℕ). x ≤ nat_abs (signed r (steps f n d) -ℤ signed u K)) (sym (between u (steps f m e) u K))
    (subst (λ (x : ℕ). apart (plus u (steps f m e) + minus u K) (plus u K + minus u (steps f m e)) ≤ x) (sym (between r (steps f n d) u K)) (go u r c q))
  where
    M : ℕ
    M = steps f m e

    N : ℕ
    N = steps f n d

    positive : 0 < down e * down d
    positive = mul-pos (down_pos e) (down_pos d)

    cancel : (x y p q : ℕ) → 0 < p * q → x * p * q ≤ y * q * p → x ≤ y
    cancel x y p q P h = le_of_mul-le-mul_right {k = p * q} (omega arith) P

    same : (u : Bool) → Closest f u K (2 ^ low f) m e → T (fits f (fin u n d)) → apart K M ≤ apart K N
    same u c q =
        cancel (apart K M) (apart K N) (down e) (down d) positive
        (subst (λ (x : ℕ). x * down d ≤ apart K N * down d * down e) (distance_is f u K m e c.held)
        (subst (λ (x : ℕ). distance K (2 ^ low f) m e * down d ≤ x * down e) (distance_is f u K n d q) (c.no_nearer n d q)))

    other : (u r : Bool) → Closest f u K (2 ^ low f) m e → T (fits f (fin r n d)) → apart K M ≤ K + N
    other u r c q =
        cancel (apart K M) (K + N) (down e) (down d) positive
        (subst (λ (x : ℕ). x * down d ≤ (K + N) * down d * down e) (distance_is f u K m e c.held)
        (subst (λ (x : ℕ). distance K (2 ^ low f) m e * down d ≤ x * down e) (sum K N (n * up d * 2 ^ low f) (down d) (steps_value f r n d q).1) (other_sign f u K (2 ^ low f) m e n d c)))
      where
        sum : (K N y p : ℕ) → y ≡ N * p → K * p + y ≡ (K + N) * p
        sum K N y p h = omega arith

    above : (N : ℕ) → apart (N + 0) (K + 0) ≡ apart K N
    above N = omega arith

    beneath : (N : ℕ) → apart (0 + K) (0 + N) ≡ apart K N
    beneath N = omega arith

    chain : {x y a b : ℕ} → x ≡ a → a ≤ b → y ≡ b → x ≤ y
    chain {x} {y} {a} {b} p h q = omega arith

    go : (u r : Bool) → Closest f u K (2 ^ low f) m e → T (fits f (fin r n d)) → apart (plus u M + minus u K) (plus u K + minus u M) ≤ apart (plus r N + minus u K) (plus u K + minus r N)
    go true true c q = chain (beneath M) (same true c q) (beneath N)
    go true false c q = chain (beneath M) (other true false c q) (omega arith)
    go false true c q = chain (above M) (other false true c q) (omega arith)
    go false false c q = chain (above M) (same false c q) (above N)

-- a value that is nearest to ±K smallest values
nearest_whole : (f : Format) (u : Bool) (K : ℕ) (x w : Float) → Nearest f u K (2 ^ low f) x → IsFinite x → Finite f w → nat_abs (whole_of f x -ℤ signed u K) ≤ nat_abs (whole_of f w -ℤ signed u K)
unfolding whole_of
nearest_whole f u K (fin t m e) (fin r n d) h i q =
    subst (λ (b : Bool). nat_abs (signed b (steps f m e) -ℤ signed u K) ≤ nat_abs (signed r (steps f n d) -ℤ signed u K)) (sym h.0)
    (closest_whole f u K m e r n d (subst (λ (b : Bool). Closest f b K (2 ^ low f) m e) h.0 h.2) q)
nearest_whole f u K nan w h i q = elim h [ ]
nearest_whole f u K (inf _) w h i q = elim i [ ]
nearest_whole f u K (fin t m e) nan h i q = elim q [ ]
nearest_whole f u K (fin t m e) (inf _) h i q = elim q [ ]

-- ---- differences
-- a difference is the rounded difference of the numbers
sub_counts : (f : Format) (s : Bool) (m : ℕ) (e : ℤ) (t : Bool) (n : ℕ) (d : ℤ) → T (fits f (fin s m e)) → T (fits f (fin t n d))
    → let A = steps f m e in
    let B = steps f n d in
    Nearest f (sum_sign s A (not t) B) (sum_size s A (not t) B) (2 ^ low f) (sub f (fin s m e) (fin t n d))
sub_counts f s m e t n d p q =
    let a = m * up e * down d in
    let b = n * up d * down e in
    let c = down e * down d in
    let A = steps f m e in
    let B = steps f n d in
    let L = 2 ^ low f in
    let P : 0 < L = pow_pos (low f) in
    let C : 0 < c = mul-pos (down_pos e) (down_pos d) in
    let x : a * L ≡ A * c = over (m * up e) (down e) (down d) L A (steps_value f s m e p).1 in
    let y : b * L ≡ B * c = over (n * up d) (down d) (down e) L B (steps_value f t n d q).1 ∙ turned B (down d) (down e) in
    let u = sum_sign s A (not t) B in
    let signs : sum_sign s a (not t) b ≡ u = λ i. cond (ltb_over a b A B L c P C x y i) (not t) (cond (ltb_over b a B A L c P C y x i) s (s && not t)) in
    let is : sub f (fin s m e) (fin t n d) ≡ round f u (sum_size s A (not t) B) L =
    sym (round_is f (sum_sign s a (not t) b) (sum_size s a (not t) b) c (sub f (fin s m e) (fin t n d)) C (sub_nearest f s m e t n d))
    ∙ ap (λ (v : Bool). round f v (sum_size s a (not t) b) c) signs
    ∙ round_same f u (sum_size s a (not t) b) c (sum_size s A (not t) B) L C P (counted (beq s (not t)) a b A B c L x y) in
    subst (Nearest f u (sum_size s A (not t) B) L) (sym is) (round_nearest f u (sum_size s A (not t) B) L P)
  where
    over : (x p q L A : ℕ) → x * L ≡ A * p → x * q * L ≡ A * (p * q)
    over x p q L A h = omega (arith, ap (λ (z : ℕ). z * q) h)

    turned : (B p q : ℕ) → B * (p * q) ≡ B * (q * p)
    turned B p q = omega arith

-- what is rounded is the difference of the numbers
pub exactly : (s : Bool) (A : ℕ) (t : Bool) (B : ℕ) → signed (sum_sign s A (not t) B) (sum_size s A (not t) B) ≡ signed s A -ℤ signed t B
exactly s A t B =
    let u = sum_sign s A (not t) B in
    let r = sum_size s A (not t) B in
    whole_same (signed u r) (signed s A -ℤ signed t B)
    (go (gain (signed u r)) (loss (signed u r)) (plus u r) (minus u r) (gain (signed s A)) (loss (signed s A)) (plus s A) (minus s A) (gain (signed t B)) (loss (signed t B)) (plus t B) (minus t B)
    (plus (not t) B) (minus (not t) B) (gain (signed s A -ℤ signed t B)) (loss (signed s A -ℤ signed t B))
    (gain_signed u r) (loss_signed u r) (gain_signed s A) (loss_signed s A) (gain_signed t B) (loss_signed t B) (sides t).0 (sides t).1 (sum_exact s A (not t) B) (difference (signed s A) (signed t B)))
  where
    sides : (t : Bool) → (plus (not t) B ≡ minus t B) × (minus (not t) B ≡ plus t B)
    sides true = (refl, refl)
    sides false = (refl, refl)

    go : (gu lu pu nu gs ls ps ns gt lt pt nt pt' nt' gd ld : ℕ) → gu ≡ pu → lu ≡ nu → gs ≡ ps → ls ≡ ns → gt ≡ pt → lt ≡ nt → pt' ≡ nt → nt' ≡ pt
        → pu + ns + nt' ≡ nu + ps + pt' → gd + ls + gt ≡ ld + gs + lt → gu + ld ≡ gd + lu
    go gu lu pu nu gs ls ps ns gt lt pt nt pt' nt' gd ld a b c d e f g h i j = omega arith

pub sub_whole_nearest : (f : Format) (x y w : Float) → Finite f x → Finite f y → IsFinite (sub f x y) → Finite f w
    → nat_abs (whole_of f (sub f x y) -ℤ (whole_of f x -ℤ whole_of f y)) ≤ nat_abs (whole_of f w -ℤ (whole_of f x -ℤ whole_of f y))
sub_whole_nearest f (fin s m e) (fin t n d) w p q i r =
    let A = steps f m e in
    let B = steps f n d in
    let v = sub f (fin s m e) (fin t n d) in
    unfold whole_of in subst (λ (k : ℤ). nat_abs (whole_of f v -ℤ k) ≤ nat_abs (whole_of f w -ℤ k)) (exactly s A t B)
    (nearest_whole f (sum_sign s A (not t) B) (sum_size s A (not t) B) v w (sub_counts f s m e t n d p q) i r)
sub_whole_nearest f nan y w p q i r = elim p [ ]
sub_whole_nearest f (inf _) y w p q i r = elim p [ ]
sub_whole_nearest f (fin s m e) nan w p q i r = elim q [ ]
sub_whole_nearest f (fin s m e) (inf _) w p q i r = elim q [ ]
