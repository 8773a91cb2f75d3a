-- A rounded difference of two finite values of a format is positive, zero or negative exactly as the true one is: it is a whole number of the format's smallest values. Assumes nothing.
--     sub_positive, sub_zero, sub_negative  x - y is above 0 just where y is below x, equals 0 just where they are equal, and is below 0 just where x is below y
--     counted, one_at_least                 a difference of two whole numbers of a unit is such a number, so it is zero or at least one unit
use Rattle.std.proofs.Common.{◌≡◌, ℕ, zero, suc, ◌+◌, ◌*◌, ◌^◌, ◌<◌, ◌≤◌, Bool, true, false, cond, not, ◌&&◌, ◌||◌, T, eqb, ltb, ℤ, pos, negsuc, sym, refl, ap, ◌∙◌, subst, inl, inr, zero-le, le_trans, le_of_eq, lt_irrefl, zero-lt-suc, eq-zero-or-pos, mul-pos, one-mul, zero-mul, arith, pow_pos, ltb-true, le-ltb, lt-ltb, eq-eqb, ne_eqb, eqb-true}
use mathlib.Core.Bool.{beq}
use lib.Ieee.{Float, nan, inf, fin, Format, binary32, binary64, low, up, down, round, add, sub, neg, below, level, le, lt, eq, fits}
use lib.Ieee.Fits.{up_pos, down_pos}
use lib.Ieee.Order.{round_mono}
use Rattle.ground.proofs.Laws.Bools.{both_ways, holds, held as is_held_lem}
use Rattle.numbers.specs.Nearest.{apart, sum_size, sum_sign}
use Rattle.numbers.specs.Whole.{Finite}
use Rattle.numbers.proofs.floats.Differences.{or_split, of_at_most, of_below, of_not_below, of_level, summed, round_neg, round_signed, round_zero, Signed}
use Rattle.numbers.proofs.floats.Distances.{apart_scale}
use Rattle.numbers.proofs.floats.Held.{held, count}
use Rattle.numbers.proofs.Laws.Order.{plus, minus, nought, le→at_most, lt_over, eq_over}
use Rattle.numbers.proofs.Laws.Exact.{round_value}

-- ---- a fraction of at least the smallest value rounds to a value that is not zero
-- above zero, or below it where u is true
abbrev Beyond : Bool → Float → Type 0
Beyond u nan = ⊥
Beyond u (inf t) = t ≡ u
Beyond u (fin t m e) = (t ≡ u) × (0 < m)

-- the exponent of the smallest value
lowest : Format → ℤ
lowest binary32 = negsuc 148
lowest binary64 = negsuc 1073

smallest_is : (f : Format) → round f false 1 (2 ^ low f) ≡ fin false 1 (lowest f)
unfolding lowest fits
smallest_is binary32 = round_value binary32 (fin false 1 (negsuc 148)) false 1 (2 ^ 149) (pow_pos 149) tt (refl, refl)
smallest_is binary64 = round_value binary64 (fin false 1 (negsuc 1073)) false 1 (2 ^ 1074) (pow_pos 1074) tt (refl, refl)

-- what is at least that is above zero
at_least : (d : ℤ) (x : Float) → Signed false x → T (le (fin false 1 d) x) → Beyond false x
at_least d nan s l = s
at_least d (inf t) s l = s
at_least d (fin t zero e) s l = absurd (lt_irrefl 0 (subst (λ (k : ℕ). 0 < k) (none t (0 * up e * down d) (ap (λ (k : ℕ). k * down d) (zero-mul (up e)) ∙ zero-mul (down d)) (le→at_most false 1 d t 0 e l)) (mul-pos (mul-pos (zero-lt-suc 0) (up_pos d)) (down_pos e))))
  where
    none : (t : Bool) (b : ℕ) → b ≡ 0 → {a : ℕ} → a + minus t b ≤ plus t b + 0 → a ≡ 0
    none true b z h = omega arith
    none false b z h = omega arith
at_least d (fin t (suc m) e) s l = (s, zero-lt-suc m)

beyond_neg : (x : Float) → Beyond false x → Beyond true (neg x)
unfolding neg
beyond_neg nan b = b
beyond_neg (inf t) b = ap not b
beyond_neg (fin t m e) b = (ap not b.0, b.1)

round_above : (f : Format) (r c : ℕ) → 0 < c → c ≤ r * 2 ^ low f → Beyond false (round f false r c)
round_above f r c C h =
    at_least (lowest f) (round f false r c) (round_signed f false r c)
    (subst (λ (v : Float). T (le v (round f false r c))) (smallest_is f) (round_mono f 1 (2 ^ low f) r c (pow_pos (low f)) C (le_trans (le_of_eq (one-mul c)) h)))

round_beyond : (f : Format) (u : Bool) (r c : ℕ) → 0 < c → c ≤ r * 2 ^ low f → Beyond u (round f u r c)
round_beyond f false r c C h = round_above f r c C h
round_beyond f true r c C h = subst (Beyond true) (sym (round_neg f r c)) (beyond_neg (round f false r c) (round_above f r c C h))

-- ---- so `round` of such a fraction, or of 0, compares with 0 as the fraction does
record Signs (v : Float) (u : Bool) (r : ℕ) : Type 0 where
  positive : lt nought v ≡ (not u && ltb 0 r)
  zero : eq v nought ≡ eqb r 0
  negative : lt v nought ≡ (u && ltb 0 r)

more : (r : ℕ) → 0 < r → eqb r 0 ≡ false
more r h = ne_eqb r 0 (λ e. lt_irrefl 0 (subst (λ (k : ℕ). 0 < k) e h))

inf_signs : (u : Bool) (r : ℕ) → 0 < r → Signs (inf u) u r
unfolding lt eq
inf_signs true r h = record { positive = refl; zero = sym (more r h); negative = sym (lt-ltb 0 r h) }
inf_signs false r h = record { positive = sym (lt-ltb 0 r h); zero = sym (more r h); negative = refl }

fin_signs : (u : Bool) (m : ℕ) (e : ℤ) (r : ℕ) → 0 < r → 0 < m → Signs (fin u m e) u r
fin_signs u m e r h M =
    let X = m * up e in
    let c = down e in
    let C = down_pos e in
    let z = zero-mul c in
    record {
      positive = lt_over nought (fin u m e) false 0 u X c C (refl, z) (refl, refl) ∙ go u;
      zero = eq_over (fin u m e) nought u X false 0 c C (refl, refl) (refl, z) ∙ ap (λ (b : Bool). b && (beq u false || b)) (more X P) ∙ sym (more r h);
      negative = lt_over (fin u m e) nought u X false 0 c C (refl, refl) (refl, z) ∙ back u;
    }
  where
    P : 0 < m * up e
    P = mul-pos M (up_pos e)

    go : (u : Bool) → below false 0 u (m * up e) ≡ (not u && ltb 0 r)
    go true = refl
    go false = lt-ltb 0 (m * up e) P ∙ sym (lt-ltb 0 r h)

    back : (u : Bool) → below u (m * up e) false 0 ≡ (u && ltb 0 r)
    back true = lt-ltb 0 (m * up e + 0) (omega (arith, P)) ∙ sym (lt-ltb 0 r h)
    back false = le-ltb (m * up e) 0 zero-le

beyond_signs : (v : Float) (u : Bool) (r : ℕ) → 0 < r → Beyond u v → Signs v u r
beyond_signs nan u r h b = absurd b
beyond_signs (inf t) u r h b = subst (λ (w : Bool). Signs (inf w) u r) (sym b) (inf_signs u r h)
beyond_signs (fin t m e) u r h b = subst (λ (w : Bool). Signs (fin w m e) u r) (sym b.0) (fin_signs u m e r h b.1)

none_signs : (u : Bool) → Signs (fin u 0 (pos 0)) u 0
unfolding lt eq
none_signs true = record { positive = refl; zero = refl; negative = refl }
none_signs false = record { positive = refl; zero = refl; negative = refl }

round_signs : (f : Format) (u : Bool) (r c : ℕ) → 0 < c → (0 < r → c ≤ r * 2 ^ low f) → Signs (round f u r c) u r
round_signs f u r c C h = elim (eq-zero-or-pos r) [
  | inl z ↦ subst (λ (k : ℕ). Signs (round f u k c) u k) (sym z) (subst (λ (v : Float). Signs v u 0) (sym (round_zero f u c C)) (none_signs u))
  | inr p ↦ beyond_signs (round f u r c) u r p (round_beyond f u r c C (h p))
]

-- ---- a difference of two values that a format holds is a whole number of its smallest values
-- so it is 0 or at least one of them
pub one_at_least : (r k c L : ℕ) → 0 < L → r * L ≡ k * c → 0 < r → c ≤ r * L
one_at_least r zero c L P e h = absurd (lt_irrefl 0 (subst (λ (x : ℕ). 0 < x) (e ∙ zero-mul c) (mul-pos h P)))
one_at_least r (suc k) c L P e h = omega (arith, e)

pub counted : (same : Bool) (A B X Y c L : ℕ) → A * L ≡ X * c → B * L ≡ Y * c → cond same (A + B) (apart A B) * L ≡ cond same (X + Y) (apart X Y) * c
counted true A B X Y c L a b = omega (arith, a, b)
counted false A B X Y c L a b = sym (apart_scale A B L) ∙ (λ i. apart (a i) (b i)) ∙ apart_scale X Y c

sub_signs : (f : Format) (s : Bool) (m : ℕ) (e : ℤ) (t : Bool) (n : ℕ) (d : ℤ) → T (fits f (fin s m e)) → T (fits f (fin t n d))
    → let a = m * up e * down d in
    let b = n * up d * down e in
    Signs (sub f (fin s m e) (fin t n d)) (sum_sign s a (not t) b) (sum_size s a (not t) b)
unfolding sub add neg
sub_signs f s m e t n d p q =
    let a = m * up e * down d in
    let b = n * up d * down e in
    let c = down e * down d in
    let h = held f s m e p in
    let k = held f t n d q in
    let u = sum_sign s a (not t) b in
    let r = sum_size s a (not t) b in
    let same = beq s (not t) in
    let x = count f m e h in
    let y = count f n d k in
    subst (λ (v : Float). Signs v u r) (sym (summed f s a (not t) b c).is)
    (round_signs f u r c (mul-pos (down_pos e) (down_pos d))
    (one_at_least r (cond same (x + y) (apart x y)) c (2 ^ low f) (pow_pos (low f))
    (counted same a b x y c (2 ^ low f) (omega (arith, ap (λ (z : ℕ). z * down d) h.value)) (omega (arith, ap (λ (z : ℕ). z * down e) k.value)))))

-- ---- and its sign is the order of the two
-- ±a and ±b compare as plain numbers, what is negative being brought to the other side
below_is : (s : Bool) (a : ℕ) (t : Bool) (b : ℕ) → below s a t b ≡ ltb (plus s a + minus t b) (plus t b + minus s a)
below_is s a t b = go (below s a t b) (of_below s a t b) (of_not_below s a t b)
  where
    go : (x : Bool) → (T x → plus s a + minus t b < plus t b + minus s a) → (T (not x) → plus t b + minus s a ≤ plus s a + minus t b) → x ≡ ltb (plus s a + minus t b) (plus t b + minus s a)
    go true h k = sym (lt-ltb _ _ (h tt))
    go false h k = sym (le-ltb _ _ (k tt))

level_is : (s : Bool) (a : ℕ) (t : Bool) (b : ℕ) → level s a t b ≡ eqb (plus s a + minus t b) (plus t b + minus s a)
level_is s a t b = both_ways (level s a t b) (eqb x y) (λ h. eq-eqb x y (of_level s a t b (holds (level s a t b) h))) (λ h. back (eqb-true x y h))
  where
    x : ℕ
    x = plus s a + minus t b

    y : ℕ
    y = plus t b + minus s a

    back : x ≡ y → level s a t b ≡ true
    back e = elim (or_split (below s a t b) (level s a t b) (of_at_most s a t b (le_of_eq e))) [
      | inl l ↦ absurd (omega (arith, of_below s a t b l))
      | inr l ↦ is_held_lem (level s a t b) l
    ]

-- ±r is q - p
record Ordered (u : Bool) (r p q : ℕ) : Type 0 where
  positive : (not u && ltb 0 r) ≡ ltb p q
  zero : eqb r 0 ≡ eqb q p
  negative : (u && ltb 0 r) ≡ ltb q p

ordered : (u : Bool) (r p q : ℕ) → plus u r + p ≡ minus u r + q → Ordered u r p q
ordered true r p q e = record {
  positive = sym (le-ltb p q (omega arith));
  zero = both_ways (eqb r 0) (eqb q p) (λ h. eq-eqb q p (omega (arith, eqb-true r 0 h))) (λ h. eq-eqb r 0 (omega (arith, eqb-true q p h)));
  negative = both_ways (ltb 0 r) (ltb q p) (λ h. lt-ltb q p (omega (arith, ltb-true 0 r h))) (λ h. lt-ltb 0 r (omega (arith, ltb-true q p h)));
}
ordered false r p q e = record {
  positive = both_ways (ltb 0 r) (ltb p q) (λ h. lt-ltb p q (omega (arith, ltb-true 0 r h))) (λ h. lt-ltb 0 r (omega (arith, ltb-true p q h)));
  zero = both_ways (eqb r 0) (eqb q p) (λ h. eq-eqb q p (omega (arith, eqb-true r 0 h))) (λ h. eq-eqb r 0 (omega (arith, eqb-true q p h)));
  negative = sym (le-ltb q p (omega arith));
}

sum_ordered : (s : Bool) (a : ℕ) (t : Bool) (b : ℕ) → Ordered (sum_sign s a (not t) b) (sum_size s a (not t) b) (plus t b + minus s a) (plus s a + minus t b)
sum_ordered s a t b = ordered (sum_sign s a (not t) b) (sum_size s a (not t) b) (plus t b + minus s a) (plus s a + minus t b) (omega (arith, (summed binary64 s a (not t) b 1).value, (turned t).0, (turned t).1))
  where
    turned : (t : Bool) → (plus (not t) b ≡ minus t b) × (minus (not t) b ≡ plus t b)
    turned true = (refl, refl)
    turned false = (refl, refl)

-- ---- the three laws
pub sub_positive : (f : Format) (x y : Float) → Finite f x → Finite f y → lt nought (sub f x y) ≡ lt y x
sub_positive f (fin s m e) (fin t n d) p q =
    let a = m * up e * down d in
    let b = n * up d * down e in
    (sub_signs f s m e t n d p q).positive ∙ (sum_ordered s a t b).positive ∙ sym (unfold lt in below_is t b s a)
sub_positive f nan y p q = elim p [ ]
sub_positive f (inf _) y p q = elim p [ ]
sub_positive f (fin s m e) nan p q = elim q [ ]
sub_positive f (fin s m e) (inf _) p q = elim q [ ]

pub sub_zero : (f : Format) (x y : Float) → Finite f x → Finite f y → eq (sub f x y) nought ≡ eq x y
sub_zero f (fin s m e) (fin t n d) p q =
    let a = m * up e * down d in
    let b = n * up d * down e in
    (sub_signs f s m e t n d p q).zero ∙ (sum_ordered s a t b).zero ∙ sym (unfold eq in level_is s a t b)
sub_zero f nan y p q = elim p [ ]
sub_zero f (inf _) y p q = elim p [ ]
sub_zero f (fin s m e) nan p q = elim q [ ]
sub_zero f (fin s m e) (inf _) p q = elim q [ ]

pub sub_negative : (f : Format) (x y : Float) → Finite f x → Finite f y → lt (sub f x y) nought ≡ lt x y
sub_negative f (fin s m e) (fin t n d) p q =
    let a = m * up e * down d in
    let b = n * up d * down e in
    (sub_signs f s m e t n d p q).negative ∙ (sum_ordered s a t b).negative ∙ sym (unfold lt in below_is s a t b)
sub_negative f nan y p q = elim p [ ]
sub_negative f (inf _) y p q = elim p [ ]
sub_negative f (fin s m e) nan p q = elim q [ ]
sub_negative f (fin s m e) (inf _) p q = elim q [ ]
