-- Four texels, each of whose pairs of samples is level or rises by 2 ^ -6 at least, or each level or falling so: no root is inside. Assumes nothing.
use Rattle.std.proofs.Common.{◌≡◌, ℕ, ◌+◌, ◌*◌, ◌^◌, ◌≤◌, Bool, true, false, not, T, ◌⊎◌, negsuc, sym, refl, subst, inl, inr, le_trans, le_of_eq, le_refl, lt_of_le_of_lt, add-le-add, mul-le-mul_right, mul_right_comm, le_of_mul-le-mul_right, arith, lit<, lit≤, pow_pos}
use lib.Ieee.{Float, nan, inf, fin, binary32, down, add, sub, neg, le, eq, fits, of_bits}
use lib.Ieee.Fits.{down_pos, neg-fits}
use lib.Ieee.Exact.{HasValue}
use Rattle.numbers.proofs.Laws.Order as Order
use Rattle.numbers.proofs.Laws.Order.{plus, minus, AtMost, nought, IsFinite}
use Rattle.numbers.proofs.Laws.Monotone.{add_number, sub_number, add_comm, add_mono_left, add_mono_right, sub_mono_left}
use Rattle.numbers.proofs.Laws.Exact.{add_zero_eq}
use Rattle.numbers.proofs.Laws.Bounds.{Within, within_finite, neg_within}
use Rattle.numbers.proofs.floats.Held.{held, count}
use Rattle.ground.specs.Lists.{some}
use Rattle.detectors.specs.Pairs.{inside}
use Rattle.detectors.specs.Diagonal.{quadratic_roots}
use Rattle.detectors.proofs.orders.Outside.{sub_not_positive}
use Rattle.detectors.proofs.orders.Sums.{add_near, neg_value}
use Rattle.detectors.proofs.orders.Values.{le_values, zero_value}
use Rattle.detectors.proofs.orders.Pairs.{least, Sized, step_at, neg_finite}
use Rattle.detectors.proofs.orders.Mirror.{add_neg, add_alike}
use Rattle.detectors.proofs.orders.Samples.{Sample, finite_of, together, difference_within, sum_within, rising_outside, falling_outside}

-- 2 ^ -6
abbrev pub coarse : Float
coarse = fin false 1 (negsuc 5)

-- level, or risen by at least 2 ^ -6
abbrev pub Rises : Float → Type 0
Rises x = T (eq x nought) ⊎ T (le coarse x)

-- ---- samples in units of 2 ^ -149
record Whole (x : Float) : Type 0 where
  s : Bool
  X : ℕ
  value : HasValue x s X (2 ^ 149)
  few : X ≤ 2 ^ 160

whole : (x : Float) → Sample x → Whole x
whole x h = go x h.fit h.within
  where
    go : (x : Float) → T (fits binary32 x) → Within 11 x → Whole x
    go nan f w = absurd w
    go (inf s) f w = absurd w
    go (fin s m e) f w =
        let k = held binary32 s m e f in
        record {
          s = s;
          X = count binary32 m e k;
          value = (refl, k.value);
          few = le_of_mul-le-mul_right (le_trans (le_of_eq (sym k.value)) (le_trans (mul-le-mul_right (2 ^ 149) w) (le_of_eq (mul_right_comm (2 ^ 11) (down e) (2 ^ 149))))) (down_pos e);
        }

-- A difference of 0 is of equal samples.
sub_zero_le : (x y : Float) → Sample x → Sample y → T (eq (sub binary32 x y) nought) → T (le y x)
unfolding sub
sub_zero_le x y h k z =
    let p = whole x h in
    let q = whole y k in
    let r = add_near binary32 x (neg y) p.s p.X (not q.s) q.X 149 (lit≤ tt) (lt_of_le_of_lt (add-le-add p.few q.few) (lit< tt)) p.value (neg_value y q.s q.X (2 ^ 149) q.value) in
    let R0 = zero_value (add binary32 x (neg y)) r.sign r.is.R (2 ^ 149) r.is.value (unfold of_bits in z) in
    le_values y x q.s q.X p.s p.X (2 ^ 149) (pow_pos 149) q.value p.value (go r.sign r.size p.s p.X q.s q.X (none r.size r.is.R R0 r.is.below) r.sums)
  where
    none : (N R : ℕ) → R ≡ 0 → N * 16777216 ≤ R * 16777216 + N → N ≡ 0
    none N R e h = omega arith

    go : (w : Bool) (N : ℕ) (s : Bool) (X : ℕ) (t : Bool) (Y : ℕ) → N ≡ 0 → plus w N + minus s X + minus (not t) Y ≡ minus w N + plus s X + plus (not t) Y → AtMost t Y s X
    go true N s X true Y z e = omega arith
    go true N s X false Y z e = omega arith
    go false N s X true Y z e = omega arith
    go false N s X false Y z e = omega arith

order_of : (x y : Float) → Sample x → Sample y → Rises (sub binary32 y x) → T (le x y)
order_of x y h k (inl z) = sub_zero_le y x k h z
order_of x y h k (inr l) = elim (Order.le_total x y (Order.finite_number x (finite_of x h)) (Order.finite_number y (finite_of y k))) [
  | inl g ↦ g
  | inr g ↦ absurd (no (Order.le_trans coarse (sub binary32 y x) nought l (sub_not_positive binary32 y x (finite_of y k) (finite_of x h) g)))
]
  where
    no : T (le coarse nought) → ⊥
    no h = unfold le in h

sized : (x : Float) → Rises x → Sized x
sized x (inl z) = inl z
sized x (inr l) = inr (Order.le_trans least coarse x (unfold le in tt) l)

coarse_value : HasValue coarse false (2 ^ 143) (2 ^ 149)
coarse_value = (refl, refl)

least_value : HasValue least false (2 ^ 142) (2 ^ 149)
least_value = (refl, refl)

-- 2 ^ -6 + c − c is at least 2 ^ -7
kept : (c : Float) → Sample c → T (le least (sub binary32 (add binary32 coarse c) c))
unfolding sub
kept c h =
    let p = whole c h in
    let z = add binary32 coarse c in
    let a = step_at 149 coarse c false (2 ^ 143) p.s p.X (lit≤ tt) (lt_of_le_of_lt (add-le-add (le_refl (2 ^ 143)) p.few) (lit< tt)) coarse_value p.value in
    let R-few = bound a.R a.E p.X (2 ^ 119) a.size a.err p.few in
    let b = step_at 149 z (neg c) a.w a.R (not p.s) p.X (lit≤ tt) (lt_of_le_of_lt (add-le-add R-few p.few) (lit< tt)) a.value (neg_value c p.s p.X (2 ^ 149) p.value) in
    let t = turned p.s p.X in
    le_values least (add binary32 z (neg c)) false (2 ^ 142) b.w b.R (2 ^ 149) (pow_pos 149) least_value b.value
    (core (plus p.s p.X) (minus p.s p.X) (plus (not p.s) p.X) (minus (not p.s) p.X) (plus a.w a.R) (minus a.w a.R) (plus b.w b.R) (minus b.w b.R) a.R p.X a.E b.E (2 ^ 119) t.0 t.1 a.low b.low a.err b.err R-few p.few)
  where
    turned : (s : Bool) (X : ℕ) → (plus (not s) X ≡ minus s X) × (minus (not s) X ≡ plus s X)
    turned true X = (refl, refl)
    turned false X = (refl, refl)

    bound : (R E X u : ℕ) → R ≤ 16777216 * u + X + E → E * 16777216 ≤ 16777216 * u + X → X ≤ 2199023255552 * u → R ≤ 4398046511104 * u
    bound R E X u a b c = omega arith

    small : (E S u : ℕ) → E * 16777216 ≤ S → S ≤ 6597069766656 * u → E ≤ 393216 * u
    small E S u a b = omega arith

    core : (ps ms pn mn pa ma pb mb R X E F u : ℕ) → pn ≡ ms → mn ≡ ps → 16777216 * u + ps + ma ≤ pa + 0 + ms + E → pa + pn + mb ≤ pb + ma + mn + F → E * 16777216 ≤ 16777216 * u + X → F * 16777216 ≤ R + X → R ≤ 4398046511104 * u → X ≤ 2199023255552 * u
        → 8388608 * u + mb ≤ pb + 0
    core ps ms pn mn pa ma pb mb R X E F u e g a b c d r x =
        last ps ms pn mn pa ma pb mb E F u e g a b (small E (16777216 * u + X) u c (s1 X u x)) (small F (R + X) u d (s2 R X u r x))
      where
        s1 : (X u : ℕ) → X ≤ 2199023255552 * u → 16777216 * u + X ≤ 6597069766656 * u
        s1 X u h = omega arith

        s2 : (R X u : ℕ) → R ≤ 4398046511104 * u → X ≤ 2199023255552 * u → R + X ≤ 6597069766656 * u
        s2 R X u h k = omega arith

        last : (ps ms pn mn pa ma pb mb E F u : ℕ) → pn ≡ ms → mn ≡ ps → 16777216 * u + ps + ma ≤ pa + 0 + ms + E → pa + pn + mb ≤ pb + ma + mn + F → E ≤ 393216 * u → F ≤ 393216 * u → 8388608 * u + mb ≤ pb + 0
        last ps ms pn mn pa ma pb mb E F u e g a b c d = omega arith

-- ---- b and c together
sub_alike : (x x' y : Float) → IsFinite x → IsFinite x' → IsFinite y → T (eq x x') → T (eq (sub binary32 x y) (sub binary32 x' y))
unfolding sub
sub_alike x x' y i i' j e = add_alike binary32 x x' (neg y) i i' (neg_finite y j) e

sized_alike : (x y : Float) → T (eq x y) → Sized y → Sized x
sized_alike x y e (inl z) = inl (Order.eq_trans x y nought e z)
sized_alike x y e (inr l) = inr (Order.le_trans least y x l (Order.ge_of_eq x y e))

-- Level or rising texels give a middle difference of 0 or at least 2 ^ -7.
together_sized : (bp bj cp cj : Float) → Sample bp → Sample bj → Sample cp → Sample cj → Rises (sub binary32 bj bp) → Rises (sub binary32 cj cp) → Sized (together bp bj cp cj)
together_sized bp bj cp cj p q r s (inl z) k =
    let x = sub binary32 bj bp in
    let i = within_finite 12 x (difference_within bj bp q p) in
    let j = finite_of cj s in
    let w = add binary32 x cj in
    let e : T (eq w cj) = Order.eq_trans w (add binary32 nought cj) cj (add_alike binary32 x nought cj i tt j z) (subst (λ (v : Float). T (eq v cj)) (add_comm binary32 cj nought) (add_zero_eq binary32 cj false s.fit (Order.finite_number cj j))) in
    sized_alike (together bp bj cp cj) (sub binary32 cj cp) (sub_alike w cj cp (within_finite 13 w (sum_within bp bj cp cj p q r s)) j (finite_of cp r) e) (sized (sub binary32 cj cp) k)
together_sized bp bj cp cj p q r s (inr l) k =
    let x = sub binary32 bj bp in
    let i = within_finite 12 x (difference_within bj bp q p) in
    let j = finite_of cj s in
    let o = finite_of cp r in
    let w = add binary32 x cj in
    let z = add binary32 coarse cp in
    let wf = within_finite 13 w (sum_within bp bj cp cj p q r s) in
    let zn = add_number binary32 coarse cp tt o in
    let z-w : T (le z w) = Order.le_trans z (add binary32 coarse cj) w (add_mono_right binary32 coarse cp cj (order_of cp cj r s k) zn (add_number binary32 coarse cj tt j)) (add_mono_left binary32 coarse x cj l (add_number binary32 coarse cj tt j) (add_number binary32 x cj i j)) in
    inr (Order.le_trans least (sub binary32 z cp) (sub binary32 w cp) (kept cp r)
    (sub_mono_left binary32 z w cp z-w (Order.number_right least (sub binary32 z cp) (kept cp r)) (sub_number binary32 w cp wf o)))

-- ---- the same of the negatives
neg_sample : (x : Float) → Sample x → Sample (neg x)
neg_sample x h = record { fit = neg-fits binary32 x h.fit; within = neg_within 11 x h.within }

sub_neg : (x y : Float) → IsFinite x → IsFinite y → T (eq (sub binary32 (neg x) (neg y)) (neg (sub binary32 x y)))
unfolding sub
sub_neg x y i j = add_neg binary32 x (neg y) i (neg_finite y j)

rises_alike : (x y : Float) → T (eq x y) → Rises y → Rises x
rises_alike x y e (inl z) = inl (Order.eq_trans x y nought e z)
rises_alike x y e (inr l) = inr (Order.le_trans coarse y x l (Order.ge_of_eq x y e))

falls_as : (x y : Float) → Sample x → Sample y → Rises (neg (sub binary32 y x)) → Rises (sub binary32 (neg y) (neg x))
falls_as x y h k r = rises_alike (sub binary32 (neg y) (neg x)) (neg (sub binary32 y x)) (sub_neg y x (finite_of y k) (finite_of x h)) r

falls_order : (x y : Float) → Sample x → Sample y → Rises (neg (sub binary32 y x)) → T (le y x)
falls_order x y h k r =
    subst (λ (z : Float). T (le z x)) (Order.neg_neg y)
    (subst (λ (z : Float). T (le (neg (neg y)) z)) (Order.neg_neg x) (Order.le_neg (neg x) (neg y) (order_of (neg x) (neg y) (neg_sample x h) (neg_sample y k) (falls_as x y h k r))))

together_neg : (bp bj cp cj : Float) → Sample bp → Sample bj → Sample cp → Sample cj → T (eq (together (neg bp) (neg bj) (neg cp) (neg cj)) (neg (together bp bj cp cj)))
together_neg bp bj cp cj p q r s =
    let x = sub binary32 bj bp in
    let x' = sub binary32 (neg bj) (neg bp) in
    let i = within_finite 12 x (difference_within bj bp q p) in
    let i' = within_finite 12 x' (difference_within (neg bj) (neg bp) (neg_sample bj q) (neg_sample bp p)) in
    let j = finite_of cj s in
    let o = finite_of cp r in
    let w = add binary32 x cj in
    let w' = add binary32 x' (neg cj) in
    let n = within_finite 13 w (sum_within bp bj cp cj p q r s) in
    let n' = within_finite 13 w' (sum_within (neg bp) (neg bj) (neg cp) (neg cj) (neg_sample bp p) (neg_sample bj q) (neg_sample cp r) (neg_sample cj s)) in
    let e : T (eq w' (neg w)) = Order.eq_trans w' (add binary32 (neg x) (neg cj)) (neg w) (add_alike binary32 x' (neg x) (neg cj) i' (neg_finite x i) (neg_finite cj j) (sub_neg bj bp (finite_of bj q) (finite_of bp p))) (add_neg binary32 x cj i j) in
    Order.eq_trans (sub binary32 w' (neg cp)) (sub binary32 (neg w) (neg cp)) (neg (sub binary32 w cp)) (sub_alike w' (neg w) (neg cp) n' (neg_finite w n) (neg_finite cp o) e) (sub_neg w cp n o)

-- ---- four texels, channels p and j of each
module _ (ap aj bp bj cp cj dp dj : Float) (Ap : Sample ap) (Aj : Sample aj) (Bp : Sample bp) (Bj : Sample bj) (Cp : Sample cp) (Cj : Sample cj) (Dp : Sample dp) (Dj : Sample dj) where
  -- Each is level or rises.
  pub rising_texels : Rises (sub binary32 aj ap) → Rises (sub binary32 bj bp) → Rises (sub binary32 cj cp) → Rises (sub binary32 dj dp) → some inside (quadratic_roots (sub binary32 aj ap) (together bp bj cp cj) (sub binary32 dj dp)) ≡ false
  rising_texels a b c d =
      rising_outside ap aj bp bj cp cj dp dj Ap Aj Bp Bj Cp Cj Dp Dj (order_of bp bj Bp Bj b) (order_of cp cj Cp Cj c) (sized (sub binary32 aj ap) a) (sized (sub binary32 dj dp) d)
      (inl (together_sized bp bj cp cj Bp Bj Cp Cj b c))

  -- Each is level or falls.
  pub falling_texels : Rises (neg (sub binary32 aj ap)) → Rises (neg (sub binary32 bj bp)) → Rises (neg (sub binary32 cj cp)) → Rises (neg (sub binary32 dj dp)) → some inside (quadratic_roots (sub binary32 aj ap) (together bp bj cp cj) (sub binary32 dj dp)) ≡ false
  falling_texels a b c d =
      falling_outside ap aj bp bj cp cj dp dj Ap Aj Bp Bj Cp Cj Dp Dj (falls_order bp bj Bp Bj b) (falls_order cp cj Cp Cj c) (sized (neg (sub binary32 aj ap)) a) (sized (neg (sub binary32 dj dp)) d)
      (inl (sized_alike (neg (together bp bj cp cj)) (together (neg bp) (neg bj) (neg cp) (neg cj))
      (Order.eq_sym (together (neg bp) (neg bj) (neg cp) (neg cj)) (neg (together bp bj cp cj)) (together_neg bp bj cp cj Bp Bj Cp Cj))
      (together_sized (neg bp) (neg bj) (neg cp) (neg cj) (neg_sample bp Bp) (neg_sample bj Bj) (neg_sample cp Cp) (neg_sample cj Cj) (falls_as bp bj Bp Bj b) (falls_as cp cj Cp Cj c))))
