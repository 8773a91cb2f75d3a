-- A value turned over at the zero value z: what the flip keeps, what rounding takes of it, and what a second flip gives back. Assumes nothing.
-- A value's number is how many times 2 ^ -149 it is.
--     Small                     a value of binary32 that is at most 2 ^ 20 in size
--     small, small_number       one that passes the checks is so, and it is no NaN
--     double_fits, flip_fits    the double and the flip are values of binary32
--     double_within, flip_within, flip_number  of small values they are finite, and no NaN
--     double_exact              the double is exact
--     small_held, flip_held, flip_twice_held  they are finite values of binary32, and so is what two flips give
--     flip_nearest, flip_nearest_wide  no value is nearer to 2 · z − v than the flip, nor where v is at most 2 ^ k in size
--     mirror                    2 · z − v by its parts above and below zero
--     flip_anti                 the flip turns the order round
--     flip_level                a value equal to z flips to one equal to z
--     flip_up, flip_down        one not above z flips to one not below it, and one not below to one not above: under rounding too
--     exact_slip, slip_exact    a flip is exact just where nothing slipped
--     flip_strict_up, flip_strict_down  where it is, what lies strictly on one side flips strictly to the other
--     flip_twice, flip_twice_same  and two flips give an equal value, the same one where it is no zero
--     flip_back                 2 · z less the flip is no farther from v than what slipped
--     flip_twice_near           two flips move a value by at most twice what the first one slipped
--     sizes_near                two numbers of one sign are as near as their sizes
--     slip_bound                a flip slips by at most 1/8, which is 2 ^ 146
--     lands_on, twice_slips, back_again  evaluated: a strict side may be lost, twice the slip is reached, and 0.25 flips to 0.75 and back at 0.5
use mathlib.Core.Path.{◌≡◌, refl, sym, ap, ◌∙◌, subst}
use mathlib.Core.Logic.{inl, inr}
use Prim.Native.Nat.{ℕ, suc, ◌+◌, ◌*◌, ◌/◌, ◌%◌, ◌^◌, ◌≤◌, ◌<◌}
use native.Mathlib.Nat.{le_trans, le_of_eq, lt_of_lt_of_le, div-add-mod', div-le_of_le-mul, mod-lt}
use native.Mathlib.Omega.{arith}
use mathlib.Core.Bool.{Bool, true, false, not}
use lib.IntN.{ℤ, pos, negsuc, neg_ℤ, nat_abs, ◌-ℤ◌, ◌*ℤ◌}
use lib.Dec.{T, lit≤}
use lib.Pow.{pow-add, pow_pos, pow_mono, shl_lt}
use lib.Ieee.{Float, nan, inf, fin, binary32, add, sub, neg, lt, le, eq, is_nan, fits, of_bits}
use lib.Ieee.Fits.{add-fits, sub-fits, neg-fits}
use Rattle.ground.proofs.Laws.Bools.{holds}
use Rattle.numbers.specs.Scalar.{abs_of}
use Rattle.numbers.specs.Whole.{Finite, signed, steps, whole_of}
use Rattle.numbers.proofs.Laws.Whole.{abs_signed}
use Rattle.numbers.proofs.Laws.Order.{plus, minus, nought, IsFinite, neg_neg, abs_le, le_of_eq as le-of-level, ge_of_eq, eq_held, le_trans as le-through, eq_refl}
use Rattle.numbers.proofs.Laws.Monotone.{sub_anti_right}
use Rattle.numbers.proofs.Laws.Bounds.{Within, within_finite, within_no_nan, within_held, within_of_le, within_more, neg_within, add_within, sub_within}
use Rattle.numbers.proofs.Laws.Exact.{single_short}
use Rattle.ranges.specs.Constants.{limit_of}
use Rattle.inputs.specs.Checks.{oversize}
use Rattle.inputs.proofs.Laws.Checks.{size_bounds}
use Rattle.signs.specs.Flip.{double_of, flip_of, Exact, slip}
use Rattle.numbers.proofs.Laws.Units.{le_or_lt, gain, loss, gain_signed, loss_signed, gain_neg, loss_neg, gain_twice, loss_twice, signed_twice, difference, whole_same, abs_near, near_abs, abs_none, by_sign, whole_neg, whole_bound, lt→whole, whole→lt, eq→whole, whole→eq, held_whole, sub_whole_nearest}

-- ---- that flips are values
abbrev pub Small : Float → Type 0
Small v = T (fits binary32 v) × Within 20 v

limit_is : limit_of binary32 ≡ fin false 1 (pos 20)
unfolding of_bits
limit_is = refl

pub small : (v : Float) → T (fits binary32 v) → oversize binary32 v ≡ false → Small v
small v p h = (p, within_of_le 20 v (go (limit_of binary32) limit_is (size_bounds binary32 v h)))
  where
    go : (k : Float) → k ≡ fin false 1 (pos 20) → (le (neg k) v ≡ true) × (le v k ≡ true) → T (le (abs_of v) (fin false 1 (pos 20)))
    go k e b = subst (λ (x : Float). T (le (abs_of v) x)) e (abs_le v k (holds (le (neg k) v) b.0) (holds (le v k) b.1))

pub small_number : (v : Float) → Small v → T (not (is_nan v))
small_number v a = within_no_nan 20 v a.1

pub double_fits : (z : Float) → T (fits binary32 (double_of z))
unfolding double_of
double_fits z = add-fits binary32 z z

pub flip_fits : (z v : Float) → T (fits binary32 (flip_of z v))
unfolding flip_of
flip_fits z v = sub-fits binary32 (double_of z) v

pub double_within : (z : Float) → Within 20 z → Within 21 (double_of z)
unfolding double_of
double_within z w = add_within binary32 20 20 20 z z (lit≤ tt) (lit≤ tt) (lit≤ tt) w w

-- of a value up to 2 ^ k in size
within : (k : ℕ) (z v : Float) → 21 ≤ k → k + 1 ≤ 127 → Within 20 z → Within k v → Within (k + 1) (flip_of z v)
unfolding flip_of
within k z v h g w u = sub_within binary32 21 k k (double_of z) v h (le_of_eq refl) g (double_within z w) u

pub flip_within : (z v : Float) → Within 20 z → Within 20 v → Within 22 (flip_of z v)
flip_within z v w u = within 21 z v (lit≤ tt) (lit≤ tt) w (within_more 20 21 v (lit≤ tt) u)

pub flip_number : (z v : Float) → Within 20 z → Within 20 v → T (not (is_nan (flip_of z v)))
flip_number z v w u = within_no_nan 22 (flip_of z v) (flip_within z v w u)

pub flip_held : (z v : Float) → Within 20 z → Within 20 v → Finite binary32 (flip_of z v)
flip_held z v w u = within_held 22 binary32 (flip_of z v) (flip_within z v w u) (flip_fits z v)

pub small_held : (v : Float) → Small v → Finite binary32 v
small_held v a = within_held 20 binary32 v a.1 a.0

-- ---- order
pub flip_anti : (z v v' : Float) → Within 20 z → Within 20 v → Within 20 v' → T (le v v') → T (le (flip_of z v') (flip_of z v))
flip_anti z v v' w u u' h = let m = flip_number z v w u in let n = flip_number z v' w u' in unfold flip_of in sub_anti_right binary32 (double_of z) v v' h m n

-- ---- the flip as the nearest value
-- the double of a value is one too
double_is : (s : Bool) (m : ℕ) (e : ℤ) → Small (fin s m e) → (w : Float) × Finite binary32 w × (whole_of binary32 w ≡ pos 2 *ℤ whole_of binary32 (fin s m e))
unfolding whole_of
double_is s m e a =
    let h = single_short s m e a.0 in
    let n = steps binary32 m e in
    let twice : h.digits * 2 ^ (h.zeros + 1) ≡ n * 2 = ap (λ (x : ℕ). h.digits * x) (pow-add 2 h.zeros 1) ∙ moved h.digits (2 ^ h.zeros) n h.is in
    let bound : n ≤ 2 ^ 20 * 2 ^ 149 = le_trans (le_of_eq (sym (abs_signed s n))) (whole_bound binary32 20 (fin s m e) a.0 a.1) in
    let w = held_whole binary32 s h.digits (h.zeros + 1) h.few (subst (λ (x : ℕ). x < 2 ^ 277) (sym twice) (room n (2 ^ 20 * 2 ^ 149) (2 ^ 277) bound (lit≤ tt))) in
    (w.0, w.1, w.2 ∙ ap (signed s) twice ∙ signed_twice s n)
  where
    moved : (d p n : ℕ) → n ≡ d * p → d * (p * 2) ≡ n * 2
    moved d p n h = omega (arith, h)

    room : (n B R : ℕ) → n ≤ B → suc (B * 2) ≤ R → n * 2 < R
    room n B R h k = omega arith

small_double : (z : Float) → Small z → (w : Float) × Finite binary32 w × (whole_of binary32 w ≡ pos 2 *ℤ whole_of binary32 z)
small_double nan a = absurd a.1
small_double (inf s) a = absurd a.1
small_double (fin s m e) a = double_is s m e a

-- a sum of a value with itself is its difference from its negative
double_sub : (z : Float) → double_of z ≡ sub binary32 z (neg z)
unfolding double_of sub
double_sub z = ap (add binary32 z) (sym (neg_neg z))

pub double_exact : (z : Float) → Small z → whole_of binary32 (double_of z) ≡ pos 2 *ℤ whole_of binary32 z
double_exact z a =
    let Z = whole_of binary32 z in
    let w = small_double z a in
    let E = Z -ℤ whole_of binary32 (neg z) in
    let same : E ≡ pos 2 *ℤ Z = whole_same E (pos 2 *ℤ Z) (go Z (whole_of binary32 (neg z)) (whole_neg binary32 z)) in
    let near = sub_whole_nearest binary32 z (neg z) w.0 (small_held z a) (within_held 20 binary32 (neg z) (neg_within 20 z a.1) (neg-fits binary32 z a.0))
    (subst IsFinite (double_sub z) (within_finite 21 (double_of z) (double_within z a.1))) w.1 in
    let none : nat_abs (whole_of binary32 w.0 -ℤ E) ≤ 0 = subst (λ (k : ℤ). nat_abs (k -ℤ E) ≤ 0) (sym (w.2 ∙ sym same)) (abs_near E E 0 (omega arith) (omega arith)) in
    ap (whole_of binary32) (double_sub z) ∙ abs_none (whole_of binary32 (sub binary32 z (neg z))) E (le_trans near none) ∙ same
  where
    go : (Z N : ℤ) → N ≡ neg_ℤ Z → gain (Z -ℤ N) + loss (pos 2 *ℤ Z) ≡ gain (pos 2 *ℤ Z) + loss (Z -ℤ N)
    go Z N e = omega (arith, difference Z N, ap gain e, ap loss e, gain_neg Z, loss_neg Z, gain_twice Z, loss_twice Z)

-- of a value up to 2 ^ k in size
pub flip_nearest_wide : (k : ℕ) (z v w : Float) → 21 ≤ k → k + 1 ≤ 127 → Small z → T (fits binary32 v) → Within k v → Finite binary32 w
    → nat_abs (whole_of binary32 (flip_of z v) -ℤ (pos 2 *ℤ whole_of binary32 z -ℤ whole_of binary32 v)) ≤ nat_abs (whole_of binary32 w -ℤ (pos 2 *ℤ whole_of binary32 z -ℤ whole_of binary32 v))
flip_nearest_wide k z v w h g a p u q =
    let i = within_finite (k + 1) (flip_of z v) (within k z v h g a.1 u) in
    let K = whole_of binary32 v in
    unfold flip_of in subst (λ (D : ℤ). nat_abs (whole_of binary32 (sub binary32 (double_of z) v) -ℤ (D -ℤ K)) ≤ nat_abs (whole_of binary32 w -ℤ (D -ℤ K))) (double_exact z a)
    (sub_whole_nearest binary32 (double_of z) v w (within_held 21 binary32 (double_of z) (double_within z a.1) (double_fits z)) (within_held k binary32 v u p) i q)

pub flip_nearest : (z v w : Float) → Small z → Small v → Finite binary32 w → slip z v ≤ nat_abs (whole_of binary32 w -ℤ (pos 2 *ℤ whole_of binary32 z -ℤ whole_of binary32 v))
unfolding slip
flip_nearest z v w a b q = flip_nearest_wide 21 z v w (lit≤ tt) (lit≤ tt) a b.0 (within_more 20 21 v (lit≤ tt) b.1) q

-- ---- exact flips
pub exact_slip : (z v : Float) → Exact z v → slip z v ≡ 0
unfolding slip
exact_slip z v e =
    let E = pos 2 *ℤ whole_of binary32 z -ℤ whole_of binary32 v in
    none (subst (λ (k : ℤ). nat_abs (k -ℤ E) ≤ 0) (sym e) (abs_near E E 0 (omega arith) (omega arith)))
  where
    none : {n : ℕ} → n ≤ 0 → n ≡ 0
    none {n} h = omega arith

pub slip_exact : (z v : Float) → slip z v ≡ 0 → Exact z v
unfolding slip
slip_exact z v e = abs_none (whole_of binary32 (flip_of z v)) (pos 2 *ℤ whole_of binary32 z -ℤ whole_of binary32 v) (le_of_eq e)

-- the sides of a flip's number
pub mirror : (Z K : ℤ) → gain (pos 2 *ℤ Z -ℤ K) + 2 * loss Z + gain K ≡ loss (pos 2 *ℤ Z -ℤ K) + 2 * gain Z + loss K
mirror Z K = omega (arith, difference (pos 2 *ℤ Z) K, gain_twice Z, loss_twice Z)

pub flip_level : (z v : Float) → Small z → Small v → T (eq v z) → T (eq (flip_of z v) z)
flip_level z v a b h =
    let Z = whole_of binary32 z in
    let K = whole_of binary32 v in
    let E = pos 2 *ℤ Z -ℤ K in
    let e = eq→whole binary32 v z (small_held v b) (small_held z a) h in
    let on : E ≡ Z = whole_same E Z (omega (arith, mirror Z K, ap gain e, ap loss e)) in
    whole→eq binary32 (flip_of z v) z (flip_held z v a.1 b.1) (small_held z a)
    (slip_exact z v (none (le_trans (flip_nearest z v z a b (small_held z a)) (abs_near Z E 0 (level (ap gain on) (ap loss on)).0 (level (ap gain on) (ap loss on)).1))) ∙ on)
  where
    none : {n : ℕ} → n ≤ 0 → n ≡ 0
    none {n} h = omega arith

    level : {a b c d : ℕ} → a ≡ b → c ≡ d → (b + c ≤ a + d + 0) × (a + d ≤ b + c + 0)
    level {a} {b} {c} {d} h k = (omega arith, omega arith)

-- ---- sides
pub flip_up : (z v : Float) → Small z → Small v → T (le v z) → T (le z (flip_of z v))
flip_up z v a b h =
    let m = flip_level z z a a (eq_refl z (small_number z a)) in
    le-through z (flip_of z z) (flip_of z v) (ge_of_eq (flip_of z z) z m) (flip_anti z v z a.1 b.1 a.1 h)

pub flip_down : (z v : Float) → Small z → Small v → T (le z v) → T (le (flip_of z v) z)
flip_down z v a b h =
    let m = flip_level z z a a (eq_refl z (small_number z a)) in
    le-through (flip_of z v) (flip_of z z) z (flip_anti z z v a.1 a.1 b.1 h) (le-of-level (flip_of z z) z m)

pub flip_strict_up : (z v : Float) → Small z → Small v → Exact z v → T (lt v z) → T (lt z (flip_of z v))
flip_strict_up z v a b e h =
    let Z = whole_of binary32 z in
    let K = whole_of binary32 v in
    whole→lt binary32 z (flip_of z v) (small_held z a) (flip_held z v a.1 b.1) (omega (arith, lt→whole binary32 v z (small_held v b) (small_held z a) h, mirror Z K, ap gain e, ap loss e))

pub flip_strict_down : (z v : Float) → Small z → Small v → Exact z v → T (lt z v) → T (lt (flip_of z v) z)
flip_strict_down z v a b e h =
    let Z = whole_of binary32 z in
    let K = whole_of binary32 v in
    whole→lt binary32 (flip_of z v) z (flip_held z v a.1 b.1) (small_held z a) (omega (arith, lt→whole binary32 z v (small_held z a) (small_held v b) h, mirror Z K, ap gain e, ap loss e))

-- ---- two flips
-- 2 · z less the flip is v again but for the slip
pub flip_back : (z v : Float) → nat_abs (whole_of binary32 v -ℤ (pos 2 *ℤ whole_of binary32 z -ℤ whole_of binary32 (flip_of z v))) ≤ slip z v
flip_back z v =
    let Z = whole_of binary32 z in
    let K = whole_of binary32 v in
    let X = whole_of binary32 (flip_of z v) in
    let n = slip z v in
    let first = near_abs X (pos 2 *ℤ Z -ℤ K) n (unfold slip in le_of_eq refl) in
    abs_near K (pos 2 *ℤ Z -ℤ X) n (omega (arith, first.0, first.1, mirror Z K, mirror Z X)) (omega (arith, first.0, first.1, mirror Z K, mirror Z X))

-- and v is a value, so rounding that moves it by no more than the slip again
pub flip_twice_near : (z v : Float) → Small z → Small v → nat_abs (whole_of binary32 (flip_of z (flip_of z v)) -ℤ whole_of binary32 v) ≤ 2 * slip z v
flip_twice_near z v a b =
    let K = whole_of binary32 v in
    let E = pos 2 *ℤ whole_of binary32 z -ℤ whole_of binary32 (flip_of z v) in
    let Y = whole_of binary32 (flip_of z (flip_of z v)) in
    let n = slip z v in
    let second = near_abs Y E n (le_trans (flip_nearest_wide 22 z (flip_of z v) v (lit≤ tt) (lit≤ tt) a (flip_fits z v) (flip_within z v a.1 b.1) (small_held v b)) (flip_back z v)) in
    let first = near_abs K E n (flip_back z v) in
    abs_near Y K (2 * n) (omega (arith, second.0, first.1)) (omega (arith, second.1, first.0))

pub flip_twice_held : (z v : Float) → Small z → Small v → Finite binary32 (flip_of z (flip_of z v))
flip_twice_held z v a b =
    within_held 23 binary32 (flip_of z (flip_of z v)) (within 22 z (flip_of z v) (lit≤ tt) (lit≤ tt) a.1 (flip_within z v a.1 b.1)) (flip_fits z (flip_of z v))

pub flip_twice : (z v : Float) → Small z → Small v → Exact z v → T (eq (flip_of z (flip_of z v)) v)
flip_twice z v a b e =
    whole→eq binary32 (flip_of z (flip_of z v)) v (flip_twice_held z v a b) (small_held v b)
    (abs_none (whole_of binary32 (flip_of z (flip_of z v))) (whole_of binary32 v) (le_trans (flip_twice_near z v a b) (none (exact_slip z v e))))
  where
    none : {n : ℕ} → n ≡ 0 → 2 * n ≤ 0
    none {n} h = omega arith

pub flip_twice_same : (z v : Float) → Small z → Small v → Exact z v → eq v nought ≡ false → flip_of z (flip_of z v) ≡ v
flip_twice_same z v a b e h = elim (eq_held binary32 (flip_of z (flip_of z v)) v (flip_fits z (flip_of z v)) b.0 (flip_twice z v a b e)) [
  | inl p ↦ p
  | inr p ↦ absurd (subst T h p.1)
]

-- ---- how much slips
-- two numbers of one sign are as near as their sizes
pub sizes_near : (s : Bool) (m n b : ℕ) → m ≤ n + b → n ≤ m + b → nat_abs (signed s m -ℤ signed s n) ≤ b
sizes_near s m n b h k =
    let g = go s (gain_signed s m) (loss_signed s m) (gain_signed s n) (loss_signed s n) in
    abs_near (signed s m) (signed s n) b g.0 g.1
  where
    go : (s : Bool) {x y u v : ℕ} → x ≡ plus s m → y ≡ minus s m → u ≡ plus s n → v ≡ minus s n → (x + v ≤ u + y + b) × (u + y ≤ x + v + b)
    go true {x} {y} {u} {v} p q r t = (omega arith, omega arith)
    go false {x} {y} {u} {v} p q r t = (omega arith, omega arith)

-- Below 2 ^ 22 every multiple of 1/4 is a value, and one of them is no farther than 1/8.
multiple_near : (s : Bool) (n : ℕ) → n ≤ 2 ^ 147 * (3 * 2 ^ 22) → (w : Float) × Finite binary32 w × (nat_abs (whole_of binary32 w -ℤ signed s n) ≤ 2 ^ 146)
multiple_near s n h =
    let q = n / 2 ^ 147 in
    let r = n % 2 ^ 147 in
    let e = div-add-mod' n (2 ^ 147) in
    let few : q ≤ 3 * 2 ^ 22 = div-le_of_le-mul (2 ^ 147) h in
    elim (le_or_lt r (2 ^ 146)) [
      | inl l ↦ chosen q (room few).0 (under q (2 ^ 147) r (2 ^ 146) e l).0 (under q (2 ^ 147) r (2 ^ 146) e l).1
      | inr l ↦ let k = over q (2 ^ 147) r (2 ^ 146) e refl (mod-lt n (pow_pos 147)) l in chosen (suc q) (room few).1 k.0 k.1
    ]
  where
    room : {q : ℕ} → q ≤ 12582912 → (q < 16777216) × (suc q < 16777216)
    room {q} h = (omega arith, omega arith)

    under : (q u r b : ℕ) → q * u + r ≡ n → r ≤ b → (q * u ≤ n + b) × (n ≤ q * u + b)
    under q u r b e l = (omega arith, omega arith)

    over : (q u r b : ℕ) → q * u + r ≡ n → u ≡ b + b → r < u → b < r → (suc q * u ≤ n + b) × (n ≤ suc q * u + b)
    over q u r b e d k l = (omega arith, omega arith)

    chosen : (q : ℕ) → q < 2 ^ 24 → q * 2 ^ 147 ≤ n + 2 ^ 146 → n ≤ q * 2 ^ 147 + 2 ^ 146 → (w : Float) × Finite binary32 w × (nat_abs (whole_of binary32 w -ℤ signed s n) ≤ 2 ^ 146)
    chosen q few lo hi =
        let w = held_whole binary32 s q 147 few (lt_of_lt_of_le (shl_lt 24 147 few) (pow_mono {i = 171} {j = 277} (lit≤ tt))) in
        (w.0, w.1, subst (λ (k : ℤ). nat_abs (k -ℤ signed s n) ≤ 2 ^ 146) (sym w.2) (sizes_near s (q * 2 ^ 147) n (2 ^ 146) lo hi))

nearby : (k : ℤ) → nat_abs k ≤ 2 ^ 147 * (3 * 2 ^ 22) → (w : Float) × Finite binary32 w × (nat_abs (whole_of binary32 w -ℤ k) ≤ 2 ^ 146)
nearby = by_sign (λ k. nat_abs k ≤ 2 ^ 147 * (3 * 2 ^ 22) → (w : Float) × Finite binary32 w × (nat_abs (whole_of binary32 w -ℤ k) ≤ 2 ^ 146))
    (λ s n h. multiple_near s n (le_trans (le_of_eq (sym (abs_signed s n))) h))

pub slip_bound : (z v : Float) → Small z → Small v → slip z v ≤ 2 ^ 146
slip_bound z v a b =
    let Z = whole_of binary32 z in
    let K = whole_of binary32 v in
    let E = pos 2 *ℤ Z -ℤ K in
    let size : nat_abs E ≤ 2 ^ 147 * (3 * 2 ^ 22) =
    le_trans (sized Z K E (2 ^ 20 * 2 ^ 149) (mirror Z K) (whole_bound binary32 20 z (small_held z a) a.1) (whole_bound binary32 20 v (small_held v b) b.1)) (lit≤ tt) in
    let w = nearby E size in
    le_trans (flip_nearest z v w.0 a b w.1) w.2
  where
    parts : (k : ℤ) → nat_abs k ≡ gain k + loss k
    parts (pos n) = omega arith
    parts (negsuc n) = omega arith

    sized : (Z K E : ℤ) (m : ℕ) → gain E + 2 * loss Z + gain K ≡ loss E + 2 * gain Z + loss K → nat_abs Z ≤ m → nat_abs K ≤ m → nat_abs E ≤ 3 * m
    sized Z K (pos n) m e h k = omega (arith, parts Z, parts K)
    sized Z K (negsuc n) m e h k = omega (arith, parts Z, parts K)

-- ---- evaluated
-- at 0.5 the value just below it flips to 0.5 itself: a strict side may be lost
pub lands_on : flip_of (of_bits binary32 0x3f00_0000) (of_bits binary32 0x3eff_ffff) ≡ of_bits binary32 0x3f00_0000
unfolding flip_of double_of add sub of_bits
lands_on = refl

-- at 0.75 · 2^-23 two flips move 1 + 3 · 2^-23 to 1 + 4 · 2^-23, by twice what the first slipped
pub twice_slips : let z = of_bits binary32 0x33c0_0000 in
    let v = of_bits binary32 0x3f80_0003 in
    let x = of_bits binary32 0x3f80_0004 in
    (flip_of z (flip_of z v) ≡ x) × (nat_abs (whole_of binary32 x -ℤ whole_of binary32 v) ≡ 2 * slip z v)
unfolding flip_of double_of add sub of_bits slip whole_of
twice_slips = (refl, refl)

-- at 0.5 the value 0.25 flips to 0.75 exactly, and back
pub back_again : let z = of_bits binary32 0x3f00_0000 in
    let v = of_bits binary32 0x3e80_0000 in
    let x = of_bits binary32 0x3f40_0000 in
    (flip_of z v ≡ x) × (flip_of z x ≡ v) × (slip z v ≡ 0)
unfolding flip_of double_of add sub of_bits slip whole_of
back_again = (refl, refl, refl)
