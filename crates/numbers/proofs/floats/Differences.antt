-- Signed numbers as differences: their order, their sums, and `round` of them. Assumes nothing.
-- A signed number, s and its size a, stands as the difference of two numbers, one of which is 0: `plus s a` less `minus s a`. So its order is one of sums, which `omega` reads.
use Rattle.std.proofs.Common.{◌≡◌, ℕ, zero, suc, ◌+◌, ◌-◌, ◌*◌, ◌^◌, ◌<◌, ◌≤◌, Bool, true, false, cond, not, ◌&&◌, ◌||◌, T, eqb, ltb, ◌⊎◌, pos, sym, refl, ap, ◌∙◌, subst, inl, inr, lt_irrefl, mul-le-mul_right, zero-lt-suc, eq-zero-or-pos, eq-or-lt_of_le, mul-pos, mul-zero, zero-mul, le_of_mul-le-mul_right, arith, eqb→eq, ltb→lt, lt→ltb, nltb→le}
use native.Mathlib.Nat.{mul-mul-mul_comm}
use mathlib.Core.Bool.{beq, and_comm}
use lib.Ieee.{Float, nan, inf, fin, Format, binary32, binary64, prec, emax, low, unlike, odd, units, round, sum, neg, below, level, is_nan}
use lib.Ieee.Fits.{and_i, and_l, and_r, eq→eqb, round_is}
use lib.Ieee.Scale.{round_same}
use Rattle.numbers.specs.Nearest.{apart, sum_size, sum_sign}

abbrev pub plus : Bool → ℕ → ℕ
plus s a = cond s 0 a

abbrev pub minus : Bool → ℕ → ℕ
minus s a = cond s a 0

-- ±a ≤ ±b
abbrev pub AtMost : Bool → ℕ → Bool → ℕ → Type 0
AtMost s a t b = plus s a + minus t b ≤ plus t b + minus s a

-- ---- tests
pub or_split : (a b : Bool) → T (a || b) → T a ⊎ T b
or_split true b t = inl tt
or_split false b t = inr t

pub or_l : (a b : Bool) → T a → T (a || b)
or_l true b t = tt
or_l false b t = absurd t

pub or_r : (a b : Bool) → T b → T (a || b)
or_r true b t = tt
or_r false b t = t

-- ---- the order of differences, and the tests that `lt`, `eq` and `le` make
pub of_below : (s : Bool) (a : ℕ) (t : Bool) (b : ℕ) → T (below s a t b) → plus s a + minus t b < plus t b + minus s a
of_below false a false b h = let k : a < b = ltb→lt a b h in omega arith
of_below false a true b h = absurd h
of_below true a false b h = let k : 0 < a + b = ltb→lt 0 (a + b) h in omega arith
of_below true a true b h = let k : b < a = ltb→lt b a h in omega arith

pub of_not_below : (s : Bool) (a : ℕ) (t : Bool) (b : ℕ) → T (not (below s a t b)) → AtMost t b s a
of_not_below false a false b h = let k : b ≤ a = nltb→le a b h in omega arith
of_not_below false a true b h = omega arith
of_not_below true a false b h = let k : a + b ≤ 0 = nltb→le 0 (a + b) h in omega arith
of_not_below true a true b h = let k : a ≤ b = nltb→le b a h in omega arith

pub of_level : (s : Bool) (a : ℕ) (t : Bool) (b : ℕ) → T (level s a t b) → plus s a + minus t b ≡ plus t b + minus s a
of_level false a false b h = let k : a ≡ b = eqb→eq a b (and_l (eqb a b) true h) in omega arith
of_level false a true b h = omega (arith, eqb→eq a b (and_l (eqb a b) (eqb a 0) h), eqb→eq a 0 (and_r (eqb a b) (eqb a 0) h))
of_level true a false b h = omega (arith, eqb→eq a b (and_l (eqb a b) (eqb a 0) h), eqb→eq a 0 (and_r (eqb a b) (eqb a 0) h))
of_level true a true b h = let k : a ≡ b = eqb→eq a b (and_l (eqb a b) true h) in omega arith

pub at_most : (s : Bool) (a : ℕ) (t : Bool) (b : ℕ) → T (below s a t b || level s a t b) → AtMost s a t b
at_most s a t b h = elim (or_split (below s a t b) (level s a t b) h) [
  | inl l ↦ omega (arith, of_below s a t b l)
  | inr l ↦ omega (arith, of_level s a t b l)
]

-- two zeros
both : (a b : ℕ) → a + b ≤ 0 → T (eqb a b && eqb a 0)
both a b h = let z : a ≡ 0 = omega arith in let e : a ≡ b = omega arith in and_i (eqb a b) (eqb a 0) (eq→eqb e) (eq→eqb z)

-- a test for less, or another that holds where the two are the same
less_or : (a b : ℕ) (e : Bool) → a ≤ b → (a ≡ b → T e) → T (ltb a b || e)
less_or a b e l k = elim (eq-or-lt_of_le l) [ inl q ↦ or_r (ltb a b) e (k q) | inr q ↦ or_l (ltb a b) e (lt→ltb a b q) ]

pub of_at_most : (s : Bool) (a : ℕ) (t : Bool) (b : ℕ) → AtMost s a t b → T (below s a t b || level s a t b)
of_at_most false a false b h = less_or a b (level false a false b) (omega arith) (λ e. and_i (eqb a b) true (eq→eqb e) tt)
of_at_most false a true b h = both a b (omega arith)
of_at_most true a false b h = less_or 0 (a + b) (level true a false b) (omega arith) (λ e. both a b (omega arith))
of_at_most true a true b h = less_or b a (level true a true b) (omega arith) (λ e. and_i (eqb a b) true (eq→eqb (sym e)) tt)

pub flip : (s : Bool) (a : ℕ) (t : Bool) (b : ℕ) → AtMost s a t b → AtMost (not t) b (not s) a
flip false a false b h = omega arith
flip false a true b h = omega arith
flip true a false b h = omega arith
flip true a true b h = omega arith

scale : (s : Bool) (a : ℕ) (t : Bool) (b c : ℕ) → AtMost s a t b → AtMost s (a * c) t (b * c)
scale false a false b c h = omega (arith, mul-le-mul_right c h)
scale false a true b c h = omega (arith, mul-le-mul_right c h)
scale true a false b c h = omega arith
scale true a true b c h = omega (arith, mul-le-mul_right c h)

-- two zeros of any signs
pub nothing : (s : Bool) (a : ℕ) (t : Bool) (b : ℕ) → a ≡ 0 → b ≡ 0 → AtMost s a t b
nothing true a true b h k = omega arith
nothing true a false b h k = omega arith
nothing false a true b h k = omega arith
nothing false a false b h k = omega arith

-- ---- differences over common denominators
pub scale_plus : (s : Bool) (a q : ℕ) → plus s (a * q) ≡ plus s a * q
scale_plus true a q = sym (zero-mul q)
scale_plus false a q = refl

pub scale_minus : (s : Bool) (a q : ℕ) → minus s (a * q) ≡ minus s a * q
scale_minus true a q = refl
scale_minus false a q = sym (zero-mul q)

at_order : (s : Bool) (X p' : ℕ) (s' : Bool) (X' p : ℕ) → AtMost s (X * p') s' (X' * p) → plus s X * p' + minus s' X' * p ≤ plus s' X' * p + minus s X * p'
at_order s X p' s' X' p h = omega (arith, scale_plus s X p', scale_minus s' X' p, scale_plus s' X' p, scale_minus s X p')

to_order : (s : Bool) (X p' : ℕ) (s' : Bool) (X' p : ℕ) → plus s X * p' + minus s' X' * p ≤ plus s' X' * p + minus s X * p' → AtMost s (X * p') s' (X' * p)
to_order s X p' s' X' p h = omega (arith, scale_plus s X p', scale_minus s' X' p, scale_plus s' X' p, scale_minus s X p')

-- X / p ≤ Y / q ≤ Z / r
pub through : (s : Bool) (X p : ℕ) (t : Bool) (Y q : ℕ) (v : Bool) (Z r : ℕ) → 0 < q → AtMost s (X * q) t (Y * p) → AtMost t (Y * r) v (Z * q) → AtMost s (X * r) v (Z * p)
through s X p t Y q v Z r Q h k = to_order s X r v Z p (past (plus s X) (minus s X) (plus t Y) (minus t Y) (plus v Z) (minus v Z) p q r Q (at_order s X q t Y p h) (at_order t Y r v Z q k))
  where
    past : (ps ns pt nt pv nv p q r : ℕ) → 0 < q → ps * q + nt * p ≤ pt * p + ns * q → pt * r + nv * q ≤ pv * q + nt * r → ps * r + nv * p ≤ pv * p + ns * r
    past ps ns pt nt pv nv p q r Q h k =
        let l : (ps * r + nv * p) * q ≤ (pv * p + ns * r) * q = omega (arith, mul-le-mul_right r h, mul-le-mul_right p k) in
        le_of_mul-le-mul_right l Q

-- ---- sums
-- by the order of the two sizes
by_order : (a b : ℕ) (P : Bool → Bool → Type 0) → (a < b → P true false) → (b < a → P false true) → (a ≡ b → P false false) → P (ltb a b) (ltb b a)
by_order a b P l g e = go (ltb a b) (ltb→lt a b) (nltb→le a b) (ltb b a) (ltb→lt b a) (nltb→le b a)
  where
    go : (x : Bool) → (T x → a < b) → (T (not x) → b ≤ a) → (y : Bool) → (T y → b < a) → (T (not y) → a ≤ b) → P x y
    go true h k true h' k' = absurd (omega (arith, h tt, h' tt))
    go true h k false h' k' = l (h tt)
    go false h k true h' k' = g (h' tt)
    go false h k false h' k' = e (omega (arith, k tt, k' tt))

-- v is ±r rounded over c, and ±r is ±a + ±b
pub record Summed (f : Format) (v : Float) (s : Bool) (a : ℕ) (t : Bool) (b c : ℕ) (u : Bool) (r : ℕ) : Type 0 where
  pub is : v ≡ round f u r c
  pub value : plus u r + minus s a + minus t b ≡ minus u r + plus s a + plus t b

-- what `sum` rounds
pub summed : (f : Format) (s : Bool) (a : ℕ) (t : Bool) (b c : ℕ) → Summed f (sum f s a t b c) s a t b c (sum_sign s a t b) (sum_size s a t b)
unfolding sum
summed f s a t b c =
    by_order a b
    (λ x y. Summed f (cond (beq s t) (round f s (a + b) c) (cond x (round f t (b - a) c) (round f (s && y) (a - b) c))) s a t b c (cond x t (cond y s (s && t))) (sum_size s a t b))
    (less s t) (more s t) (same s t)
  where
    less : (s t : Bool) → a < b → Summed f (cond (beq s t) (round f s (a + b) c) (round f t (b - a) c)) s a t b c t (sum_size s a t b)
    less true true l = record { is = refl; value = omega arith }
    less false false l = record { is = refl; value = omega arith }
    less true false l = record { is = ap (λ (z : ℕ). round f false z c) (omega arith); value = omega arith }
    less false true l = record { is = ap (λ (z : ℕ). round f true z c) (omega arith); value = omega arith }

    more : (s t : Bool) → b < a → Summed f (cond (beq s t) (round f s (a + b) c) (round f (s && true) (a - b) c)) s a t b c s (sum_size s a t b)
    more true true l = record { is = refl; value = omega arith }
    more false false l = record { is = refl; value = omega arith }
    more true false l = record { is = ap (λ (z : ℕ). round f true z c) (omega arith); value = omega arith }
    more false true l = record { is = ap (λ (z : ℕ). round f false z c) (omega arith); value = omega arith }

    same : (s t : Bool) → a ≡ b → Summed f (cond (beq s t) (round f s (a + b) c) (round f (s && false) (a - b) c)) s a t b c (s && t) (sum_size s a t b)
    same true true e = record { is = refl; value = omega arith }
    same false false e = record { is = refl; value = omega arith }
    same true false e = record { is = ap (λ (z : ℕ). round f false z c) (omega arith); value = omega arith }
    same false true e = record { is = ap (λ (z : ℕ). round f false z c) (omega arith); value = omega arith }

-- that number is at most the sum of the sizes
pub sum_size_law : (s : Bool) (a : ℕ) (t : Bool) (b : ℕ) → sum_size s a t b ≤ a + b
sum_size_law s a t b = go (beq s t)
  where
    go : (x : Bool) → cond x (a + b) (apart a b) ≤ a + b
    go true = omega arith
    go false = omega arith

pub sum_comm : (f : Format) (s : Bool) (a : ℕ) (t : Bool) (b c : ℕ) → sum f s a t b c ≡ sum f t b s a c
sum_comm f s a t b c = (summed f s a t b c).is ∙ (λ i. round f (signs i) (sizes s t i) c) ∙ sym (summed f t b s a c).is
  where
    signs : sum_sign s a t b ≡ sum_sign t b s a
    signs = by_order a b (λ x y. cond x t (cond y s (s && t)) ≡ cond y s (cond x t (t && s))) (λ l. refl) (λ l. refl) (λ e. and_comm s t)

    sizes : (s t : Bool) → sum_size s a t b ≡ sum_size t b s a
    sizes true true = omega arith
    sizes true false = omega arith
    sizes false true = omega arith
    sizes false false = omega arith

-- with X / p ≤ X' / p', and Y / q added to both
pub sums_order : (s : Bool) (X p : ℕ) (s' : Bool) (X' p' : ℕ) (t : Bool) (Y q : ℕ) (u : Bool) (r : ℕ) (v : Bool) (w : ℕ) → AtMost s (X * p') s' (X' * p)
    → plus u r + minus s (X * q) + minus t (Y * p) ≡ minus u r + plus s (X * q) + plus t (Y * p)
    → plus v w + minus s' (X' * q) + minus t (Y * p') ≡ minus v w + plus s' (X' * q) + plus t (Y * p')
    → AtMost u (r * (p' * q)) v (w * (p * q))
sums_order s X p s' X' p' t Y q u r v w h a b =
    to_order u r (p' * q) v w (p * q)
    (core (plus u r) (minus u r) (plus s X) (minus s X) (plus t Y) (minus t Y) (plus v w) (minus v w) (plus s' X') (minus s' X') p p' q (at_sum s X q t Y p u r a) (at_sum s' X' q t Y p' v w b) (at_order s X p' s' X' p h))
  where
    at_sum : (s : Bool) (X q : ℕ) (t : Bool) (Y p : ℕ) (u : Bool) (r : ℕ) → plus u r + minus s (X * q) + minus t (Y * p) ≡ minus u r + plus s (X * q) + plus t (Y * p) → plus u r + minus s X * q + minus t Y * p ≡ minus u r + plus s X * q + plus t Y * p
    at_sum s X q t Y p u r h = omega (arith, scale_minus s X q, scale_minus t Y p, scale_plus s X q, scale_plus t Y p)

    core : (pu nu ps ns pt nt pu' nu' ps' ns' p p' q : ℕ) → pu + ns * q + nt * p ≡ nu + ps * q + pt * p → pu' + ns' * q + nt * p' ≡ nu' + ps' * q + pt * p' → ps * p' + ns' * p ≤ ps' * p + ns * p'
        → pu * (p' * q) + nu' * (p * q) ≤ pu' * (p * q) + nu * (p' * q)
    core pu nu ps ns pt nt pu' nu' ps' ns' p p' q e e' h = omega (arith, ap (λ (z : ℕ). z * (p' * q)) e, ap (λ (z : ℕ). z * (p * q)) e', mul-le-mul_right (q * q) h)

-- ---- products
pub unlike_false : (s : Bool) → unlike s false ≡ s
unlike_false true = refl
unlike_false false = refl

-- with X / p ≤ X' / p', and both times ±Y / q, which is 0 where it is negative
pub products_order : (s : Bool) (X p : ℕ) (s' : Bool) (X' p' : ℕ) (t : Bool) (Y q : ℕ) → (t ≡ true → Y ≡ 0) → AtMost s (X * p') s' (X' * p) → AtMost (unlike s t) (X * Y * (p' * q)) (unlike s' t) (X' * Y * (p * q))
products_order s X p s' X' p' true Y q z h = nothing (unlike s true) (X * Y * (p' * q)) (unlike s' true) (X' * Y * (p * q)) (none X (p' * q)) (none X' (p * q))
  where
    none : (a b : ℕ) → a * Y * b ≡ 0
    none a b = ap (λ (y : ℕ). a * y * b) (z refl) ∙ ap (λ (y : ℕ). y * b) (mul-zero a) ∙ zero-mul b
products_order s X p s' X' p' false Y q z h =
    rw (unlike_false s, unlike_false s', mul-mul-mul_comm X Y p' q, mul-mul-mul_comm X' Y p q) (scale s (X * p') s' (X' * p) (Y * q) h)

-- ---- `round` at the other sign
odd_neg : (d q k l : ℕ) → odd d true q k l ≡ neg (odd d false q k l)
unfolding odd neg
odd_neg d zero k l = refl
odd_neg d (suc q) k l = refl

units_neg : (f : Format) (q k : ℕ) → units f true q k ≡ neg (units f false q k)
unfolding units neg
units_neg f q k = go (ltb (q * 2 ^ k) (2 ^ (low f + suc (emax f))))
  where
    go : (b : Bool) → cond b (odd (suc (prec f)) true q k (low f)) (inf true) ≡ neg (cond b (odd (suc (prec f)) false q k (low f)) (inf false))
    go true = odd_neg (suc (prec f)) q k (low f)
    go false = refl

pub round_neg : (f : Format) (a c : ℕ) → round f true a c ≡ neg (round f false a c)
round_neg f a c = round_is f true a c ∙ units_neg f _ _ ∙ ap neg (sym (round_is f false a c))

-- what `round` gives has the sign that it was handed, and is no NaN
abbrev pub Signed : Bool → Float → Type 0
Signed s nan = ⊥
Signed s (inf t) = t ≡ s
Signed s (fin t m e) = t ≡ s

pub signed_number : (s : Bool) (x : Float) → Signed s x → T (not (is_nan x))
unfolding is_nan
signed_number s nan h = h
signed_number s (inf t) h = tt
signed_number s (fin t m e) h = tt

odd_signed : (d : ℕ) (s : Bool) (q k l : ℕ) → Signed s (odd d s q k l)
unfolding odd
odd_signed d s zero k l = refl
odd_signed d s (suc q) k l = refl

pub units_signed : (f : Format) (s : Bool) (q k : ℕ) → Signed s (units f s q k)
unfolding units
units_signed f s q k = go (ltb (q * 2 ^ k) (2 ^ (low f + suc (emax f))))
  where
    go : (b : Bool) → Signed s (cond b (odd (suc (prec f)) s q k (low f)) (inf s))
    go true = odd_signed (suc (prec f)) s q k (low f)
    go false = refl

pub round_signed : (f : Format) (s : Bool) (a c : ℕ) → Signed s (round f s a c)
round_signed f s a c = subst (Signed s) (sym (round_is f s a c)) (units_signed f s _ _)

-- ---- a fraction that is 0
pub round_zero : (f : Format) (s : Bool) (c : ℕ) → 0 < c → round f s 0 c ≡ fin s 0 (pos 0)
round_zero f s c h = round_same f s 0 c 0 1 h (zero-lt-suc 0) (sym (zero-mul c)) ∙ at_one f
  where
    at_one : (f : Format) → round f s 0 1 ≡ fin s 0 (pos 0)
    at_one binary32 = unfold round in refl
    at_one binary64 = unfold round in refl

pub zero_of_law : (a d : ℕ) → 0 < d → a * d ≡ 0 → a ≡ 0
zero_of_law a d D e = elim (eq-zero-or-pos a) [ inl z ↦ z | inr p ↦ absurd (lt_irrefl 0 (subst (λ (x : ℕ). 0 < x) e (mul-pos p D))) ]
