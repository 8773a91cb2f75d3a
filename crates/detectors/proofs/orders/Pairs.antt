-- The quadratic of three differences of one sign has no root inside. Assumes nothing.
use Rattle.std.proofs.Common.{◌≡◌, ℕ, ◌+◌, ◌-◌, ◌*◌, ◌^◌, ◌<◌, ◌≤◌, Bool, true, false, not, T, ◌⊎◌, ℤ, pos, negsuc, sym, refl, ap, ◌∙◌, subst, inl, inr, zero-le, le_trans, le_of_eq, lt_of_lt_of_le, lt_of_le_of_lt, mul-le-mul_right, mul_assoc, mul_comm, lt_of_mul-lt-mul_right, zero-mul, mul_right_comm, not-le_of_lt, le_of_mul-le-mul_right, arith, lit<, lit≤, pow_pos, pow_mono, pow-add, shl_lt}
use native.Mathlib.Nat.{eq_of_mul-eq-mul_right}
use lib.Ieee.{Float, nan, inf, fin, Format, binary32, up, down, round, sum, add, sub, neg, le, eq, fits, of_bits}
use lib.Ieee.Digits.{back}
use lib.Ieee.Fits.{down_pos, neg-fits, sub-fits, add-fits}
use lib.Ieee.Exact.{HasValue, round_exact}
use Rattle.numbers.proofs.Laws.Order as Order
use Rattle.numbers.proofs.Laws.Order.{plus, minus, AtMost, nought, IsFinite}
use Rattle.numbers.proofs.Laws.Monotone.{add_number, sub_number, add_comm, add_mono_left, add_mono_right, sub_mono_left, sub_anti_right, sub_not_negative}
use Rattle.numbers.proofs.Laws.Exact.{add_zero_eq}
use Rattle.numbers.proofs.Laws.Bounds.{Within, within_finite, between_within, add_within, sub_within}
use Rattle.numbers.proofs.floats.Held.{held, counted}
use Rattle.numbers.proofs.floats.Compared.{le_or_lt}
use Rattle.ground.specs.Lists.{some}
use Rattle.detectors.specs.Pairs.{inside}
use Rattle.detectors.specs.Diagonal.{quadratic_roots}
use Rattle.detectors.proofs.orders.Outside.{sub_not_positive}
use Rattle.detectors.proofs.orders.Sums.{add_near, add_at, neg_value}
use Rattle.detectors.proofs.orders.Values.{values_le, values_order, zero_value}
use Rattle.detectors.proofs.orders.Core.{Coefficients, roots_outside}

-- 2 ^ -7, 2 ^ 12 and 2 ^ 14
abbrev pub least : Float
least = fin false 1 (negsuc 6)

abbrev pub most : Float
most = fin false 1 (pos 12)

abbrev pub most_middle : Float
most_middle = fin false 1 (pos 14)

-- ---- a value of binary32 of at least 2 ^ -7 is a whole number of units
grid_digits : (q z : ℕ) → q < 2 ^ 24 → 2 ^ 142 ≤ q * 2 ^ z → 119 ≤ z
grid_digits q z few big = elim (le_or_lt 119 z) [
  | inl h ↦ h
  | inr h ↦ absurd (not-le_of_lt (lt_of_lt_of_le (shl_lt 24 z few) (pow_mono (more z h))) big)
]
  where
    more : (z : ℕ) → z < 119 → 24 + z ≤ 142
    more z h = omega arith

grid : (s : Bool) (m : ℕ) (e : ℤ) → T (fits binary32 (fin s m e)) → down e ≤ m * up e * 2 ^ 7 → (X : ℕ) × (m * up e * 2 ^ 30 ≡ X * down e)
grid s m e f h =
    let k = held binary32 s m e f in
    let q = k.digits in
    let z = k.zeros in
    let big : 2 ^ 142 ≤ q * 2 ^ z = le_of_mul-le-mul_right (le_trans (le_of_eq (mul_comm (2 ^ 142) (down e))) (le_trans (mul-le-mul_right (2 ^ 142) h) (le_of_eq (mul_assoc (m * up e) (2 ^ 7) (2 ^ 142) ∙ k.value)))) (down_pos e) in
    let g = grid_digits q z k.few big in
    let X = q * 2 ^ (z - 119) in
    let split : X * 2 ^ 119 ≡ q * 2 ^ z = mul_assoc q (2 ^ (z - 119)) (2 ^ 119) ∙ ap (λ (x : ℕ). q * x) (sym (pow-add 2 (z - 119) 119) ∙ ap (λ (x : ℕ). 2 ^ x) (back z 119 g)) in (
      X,
      eq_of_mul-eq-mul_right (2 ^ 119) (pow_pos 119) (m * up e * 2 ^ 30) (X * down e)
          (mul_assoc (m * up e) (2 ^ 30) (2 ^ 119) ∙ k.value ∙ ap (λ (x : ℕ). x * down e) (sym split) ∙ mul_right_comm X (2 ^ 119) (down e)),
    )

grid_of : (x : Float) → T (fits binary32 x) → IsFinite x → T (le least x) → (X : ℕ) × HasValue x false X (2 ^ 30)
grid_of (fin s m e) f i h =
    let g = sign s (m * up e) (down e) (down_pos e) (Order.le→at_most false 1 (negsuc 6) s m e h) in
    let r = grid s m e f g.1 in
    (r.0, (g.0, r.1))
  where
    sign : (s : Bool) (a d : ℕ) → 0 < d → AtMost false (1 * 1 * d) s (a * 2 ^ 7) → (s ≡ false) × (d ≤ a * 2 ^ 7)
    sign true a d p h = absurd (no a d p h)
      where
        no : (a d : ℕ) → 0 < d → 1 * 1 * d + a * 2 ^ 7 ≤ 0 + 0 → ⊥
        no a d p h = omega arith
    sign false a d p h = (refl, omega arith)
grid_of nan f i h = elim i [ ]
grid_of (inf _) f i h = elim i [ ]

least_value : HasValue least false (2 ^ 23) (2 ^ 30)
least_value = (refl, refl)

most_value : HasValue most false (2 ^ 42) (2 ^ 30)
most_value = (refl, refl)

middle_value : HasValue most_middle false (2 ^ 44) (2 ^ 30)
middle_value = (refl, refl)

upper_finite : (x y : Float) → IsFinite y → T (le nought x) → T (le x y) → IsFinite x
upper_finite x y j h k = Order.between_finite nought x y tt j h k

-- ---- zero, or a size that is at least 2 ^ -7
abbrev pub Sized : Float → Type 0
Sized x = T (eq x nought) ⊎ T (le least x)

above_zero : (x : Float) → T (le least x) → T (le nought x)
above_zero x h = Order.le_trans nought least x (unfold le in tt) h

sized_positive : (x : Float) → Sized x → T (le nought x)
sized_positive x (inl h) = Order.ge_of_eq x nought h
sized_positive x (inr h) = above_zero x h

-- a whole number of units that is not negative, a zero of either sign
pub record Grid (x : Float) : Type 0 where
  s : Bool
  X : ℕ
  value : HasValue x s X (2 ^ 30)
  more : plus s X ≡ X
  less : minus s X ≡ 0

grid_sized : (x : Float) → T (fits binary32 x) → IsFinite x → Sized x → Grid x
grid_sized x f i (inr h) = let g = grid_of x f i h in record { s = false; X = g.0; value = g.1; more = refl; less = refl }
grid_sized (fin s m e) f i (inl h) =
    record { s = s; X = 0; value = (refl, ap (λ (z : ℕ). z * 2 ^ 30) (zero_value (fin s m e) s (m * up e) (down e) (refl, refl) (unfold of_bits in h)) ∙ zero-mul (2 ^ 30) ∙ sym (zero-mul (down e))); more = nil s; less = nil' s }
  where
    nil : (s : Bool) → plus s 0 ≡ 0
    nil true = refl
    nil false = refl

    nil' : (s : Bool) → minus s 0 ≡ 0
    nil' true = refl
    nil' false = refl
grid_sized nan f i (inl h) = elim i [ ]
grid_sized (inf _) f i (inl h) = elim i [ ]

turned : (s : Bool) (X : ℕ) → (plus (not s) X ≡ minus s X) × (minus (not s) X ≡ plus s X)
turned true X = (refl, refl)
turned false X = (refl, refl)

-- at most M units
bounded : (x y : Float) (g : Grid x) (M : ℕ) → HasValue y false M (2 ^ 30) → T (le x y) → g.X ≤ M
bounded x y g M h l = go (plus g.s g.X) (minus g.s g.X) g.X M g.more g.less (values_order x y g.s g.X false M (2 ^ 30) (pow_pos 30) g.value h l)
  where
    go : (p m X M : ℕ) → p ≡ X → m ≡ 0 → p + 0 ≤ M + m → X ≤ M
    go p m X M a b h = omega arith

-- ---- a sum in binary32, within E units of 2 ^ -j
pub record Step (j : ℕ) (z : Float) (s : Bool) (X : ℕ) (t : Bool) (Y : ℕ) : Type 0 where
  pub w : Bool
  pub R : ℕ
  pub E : ℕ
  pub value : HasValue z w R (2 ^ j)
  pub low : plus s X + plus t Y + minus w R ≤ plus w R + minus s X + minus t Y + E
  pub err : E * 16777216 ≤ X + Y
  pub size : R ≤ X + Y + E

pub step_at : (j : ℕ) (x y : Float) (s : Bool) (X : ℕ) (t : Bool) (Y : ℕ) → j ≤ 149 → X + Y < 2 ^ (127 + j) → HasValue x s X (2 ^ j) → HasValue y t Y (2 ^ j) → Step j (add binary32 x y) s X t Y
step_at j x y s X t Y J b h k =
    let r = add_near binary32 x y s X t Y j J b h k in
    let n = r.is in
    record {
      w = r.sign;
      R = n.R;
      E = n.R - r.size + (r.size - n.R);
      value = n.value;
      low = go r.sign n.R r.size (n.R - r.size + (r.size - n.R)) (plus s X) (minus s X) (plus t Y) (minus t Y) (one n.R r.size) (two n.R r.size) r.sums;
      err = le_trans (close n.R r.size n.above n.below) r.most;
      size = bound n.R r.size (X + Y) r.most;
    }
  where
    one : (R N : ℕ) → R ≤ N + (R - N + (N - R))
    one R N = omega arith

    two : (R N : ℕ) → N ≤ R + (R - N + (N - R))
    two R N = omega arith

    close : (R N : ℕ) → R * 16777216 ≤ N * 16777216 + N → N * 16777216 ≤ R * 16777216 + N → (R - N + (N - R)) * 16777216 ≤ N
    close R N a b = omega arith

    bound : (R N S : ℕ) → N ≤ S → R ≤ S + (R - N + (N - R))
    bound R N S h = omega arith

    go : (w : Bool) (R N K ps ms pt mt : ℕ) → R ≤ N + K → N ≤ R + K → plus w N + ms + mt ≡ minus w N + ps + pt → ps + pt + minus w R ≤ plus w R + ms + mt + K
    go true R N K ps ms pt mt a b e = omega arith
    go false R N K ps ms pt mt a b e = omega arith

step : (x y : Float) (s : Bool) (X : ℕ) (t : Bool) (Y : ℕ) → HasValue x s X (2 ^ 30) → HasValue y t Y (2 ^ 30) → X + Y ≤ 2 ^ 60 → Step 30 (add binary32 x y) s X t Y
step x y s X t Y h k b = step_at 30 x y s X t Y (lit≤ tt) (lt_of_le_of_lt b (lit< tt)) h k

-- ---- with a zero
pub grown : (f : Format) (x s : Float) → IsFinite x → T (fits f x) → IsFinite s → T (le nought s) → T (le x (add f x s))
grown f x s i p j h =
    Order.le_trans x (add f x nought) (add f x s)
    (Order.ge_of_eq (add f x nought) x (add_zero_eq f x false p (Order.finite_number x i)))
    (add_mono_right f x nought s h (add_number f x nought i tt) (add_number f x s i j))

shrunk : (f : Format) (x s : Float) → IsFinite x → T (fits f x) → IsFinite s → T (le nought s) → T (le (sub f x s) x)
shrunk f x s i p j h =
    Order.le_trans (sub f x s) (sub f x nought) x
    (sub_anti_right f x nought s h (sub_number f x nought i tt) (sub_number f x s i j))
    (unfold sub neg in Order.le_of_eq (add f x (fin true 0 (pos 0))) x (add_zero_eq f x true p (Order.finite_number x i)))

pub neg_finite : (x : Float) → IsFinite x → IsFinite (neg x)
unfolding neg
neg_finite (fin s m e) i = tt
neg_finite nan i = elim i [ ]
neg_finite (inf _) i = elim i [ ]

from_nothing : (f : Format) (x : Float) → IsFinite x → T (fits f x) → T (le (sub f nought x) (neg x)) × T (le (neg x) (sub f nought x))
unfolding sub
from_nothing f x i p =
    let e = add_zero_eq f (neg x) false (neg-fits f x p) (Order.finite_number (neg x) (neg_finite x i)) in
    subst (λ (z : Float). T (le z (neg x)) × T (le (neg x) z)) (add_comm f (neg x) nought) (Order.le_of_eq (add f (neg x) nought) (neg x) e, Order.ge_of_eq (add f (neg x) nought) (neg x) e)

-- ---- twice a value of binary32
double : (x : Float) (s : Bool) (X : ℕ) → T (fits binary32 x) → HasValue x s X (2 ^ 30) → X ≤ 2 ^ 42 → HasValue (sub binary32 (neg x) x) (not s) (2 * X) (2 ^ 30)
unfolding sub
double x s X f h b =
    let n = neg_value x s X (2 ^ 30) h in
    subst (λ (z : Float). HasValue z (not s) (2 * X) (2 ^ 30)) (sym (add_at binary32 (neg x) (neg x) (not s) X (not s) X (2 ^ 30) (pow_pos 30) n n ∙ both (not s))) (go x f h)
  where
    twice : (X : ℕ) → X + X ≡ 2 * X
    twice X = omega arith

    both : (t : Bool) → sum binary32 t X t X (2 ^ 30) ≡ round binary32 t (2 * X) (2 ^ 30)
    both true = unfold sum in ap (λ (k : ℕ). round binary32 true k (2 ^ 30)) (twice X)
    both false = unfold sum in ap (λ (k : ℕ). round binary32 false k (2 ^ 30)) (twice X)

    big : (a P k d : ℕ) → a * P ≡ k * d → 2 * a * P ≡ k * 2 * d
    big a P k d h = omega arith

    go : (x : Float) → T (fits binary32 x) → HasValue x s X (2 ^ 30) → HasValue (round binary32 (not s) (2 * X) (2 ^ 30)) (not s) (2 * X) (2 ^ 30)
    go nan f h = absurd h
    go (inf t) f h = absurd h
    go (fin t m e) f h =
        let k = held binary32 t m e f in
        let q = k.digits in
        let z = k.zeros in
        let c = counted binary32 m e k X (2 ^ 30) h.1 in
        let p : 2 ^ (z + 1) ≡ 2 ^ z * 2 = pow-add 2 z 1 in
        let small : q * 2 ^ z * 2 < 2 ^ 277 = lt_of_mul-lt-mul_right (2 ^ 30) (lt_of_le_of_lt (le_of_eq (mul_right_comm (q * 2 ^ z) 2 (2 ^ 30) ∙ ap (λ (v : ℕ). v * 2) (sym c))) (lt_of_le_of_lt (mul-le-mul_right 2 (mul-le-mul_right (2 ^ 149) b)) (lit< tt))) in
        round_exact binary32 (not s) (2 * X) (2 ^ 30) q (z + 1) (pow_pos 30) k.few
        (lt_of_le_of_lt (le_of_eq (ap (λ (v : ℕ). q * v) p ∙ sym (mul_assoc q (2 ^ z) 2))) small)
        (big X (2 ^ 149) (q * 2 ^ z) (2 ^ 30) c ∙ ap (λ (v : ℕ). v * 2 ^ 30) (mul_assoc q (2 ^ z) 2 ∙ ap (λ (v : ℕ). q * v) (sym p)))

-- ---- the differences of a, of b and c together, and of d, none of them negative
-- The outer ones are 0, or from 2 ^ -7 to 2 ^ 12. The middle one is from 0 to 2 ^ 14, and where an outer one is 0, it is 0 or at least 2 ^ -7.
pub record Sorted (A B D : Float) : Type 0 where
  pub A_fits : T (fits binary32 A)
  pub B_fits : T (fits binary32 B)
  pub D_fits : T (fits binary32 D)
  pub A_sized : Sized A
  pub A_most : T (le A most)
  pub B_least : T (le nought B)
  pub B_most : T (le B most_middle)
  pub D_sized : Sized D
  pub D_most : T (le D most)
  pub middle : Sized B ⊎ (T (le least A) × T (le least D))

module _ (A B D : Float) (h : Sorted A B D) where
  A_least' : T (le nought A)
  A_least' = sized_positive A h.A_sized

  D_least' : T (le nought D)
  D_least' = sized_positive D h.D_sized

  pub A_finite : IsFinite A
  A_finite = upper_finite A most tt A_least' h.A_most

  pub B_finite : IsFinite B
  B_finite = upper_finite B most_middle tt h.B_least h.B_most

  pub D_finite : IsFinite D
  D_finite = upper_finite D most tt D_least' h.D_most

  A_within : Within 12 A
  A_within = between_within 12 nought A most zero-le (le_of_eq refl) A_least' h.A_most

  B_within : Within 14 B
  B_within = between_within 14 nought B most_middle zero-le (le_of_eq refl) h.B_least h.B_most

  D_within : Within 12 D
  D_within = between_within 12 nought D most zero-le (le_of_eq refl) D_least' h.D_most

  abbrev u : Float
  u = sub binary32 D B

  abbrev v : Float
  v = sub binary32 B A

  abbrev a : Float
  a = add binary32 u A

  abbrev b : Float
  b = sub binary32 v A

  u_within : Within 15 u
  u_within = sub_within binary32 12 14 14 D B (lit≤ tt) (lit≤ tt) (lit≤ tt) D_within B_within

  pub u_finite : IsFinite u
  u_finite = within_finite 15 u u_within

  v_within : Within 15 v
  v_within = sub_within binary32 14 12 14 B A (lit≤ tt) (lit≤ tt) (lit≤ tt) B_within A_within

  pub v_finite : IsFinite v
  v_finite = within_finite 15 v v_within

  a_finite : IsFinite a
  a_finite = within_finite 16 a (add_within binary32 15 12 15 u A (lit≤ tt) (lit≤ tt) (lit≤ tt) u_within A_within)

  b_finite : IsFinite b
  b_finite = within_finite 16 b (sub_within binary32 15 12 15 v A (lit≤ tt) (lit≤ tt) (lit≤ tt) v_within A_within)

  A_grid : Grid A
  A_grid = grid_sized A h.A_fits A_finite h.A_sized

  γ_most : A_grid.X ≤ 2 ^ 42
  γ_most = bounded A most A_grid (2 ^ 42) most_value h.A_most

  -- −b is at most twice A
  b_falls : (g : Grid A) → g.X ≤ 2 ^ 42 → (sb : Bool) (β : ℕ) → HasValue b sb β (2 ^ 30) → minus sb β ≤ 2 * g.X
  b_falls g m sb β k =
      let n = neg A in
      let i = neg_finite A A_finite in
      let z = sub binary32 n A in
      let n-v : T (le n v) = Order.le_trans n (sub binary32 nought A) v (from_nothing binary32 A A_finite h.A_fits).1 (sub_mono_left binary32 nought B A h.B_least (sub_number binary32 nought A tt A_finite) (sub_number binary32 B A B_finite A_finite)) in
      let z-b : T (le z b) = sub_mono_left binary32 n v A n-v (sub_number binary32 n A i A_finite) (sub_number binary32 v A v_finite A_finite) in
      go g.s g.X sb β g.less (values_order z b (not g.s) (2 * g.X) sb β (2 ^ 30) (pow_pos 30) (double A g.s g.X h.A_fits g.value m) k z-b)
    where
      go : (s : Bool) (γ : ℕ) (sb : Bool) (β : ℕ) → minus s γ ≡ 0 → AtMost (not s) (2 * γ) sb β → minus sb β ≤ 2 * γ
      go false γ true β z h = omega arith
      go false γ false β z h = omega arith
      go true γ true β z h = omega arith
      go true γ false β z h = omega arith

  -- ---- B is small
  small_case : T (le least A) → T (le least D) → T (le B least) → Coefficients a b A
  small_case lA lD l =
      let gA = grid_of A h.A_fits A_finite lA in
      let γ = gA.0 in
      let γ-most' = values_le A most γ (2 ^ 42) (2 ^ 30) (pow_pos 30) gA.1 most_value h.A_most in
      let B-D = Order.le_trans B least D l lD in
      let B-A = Order.le_trans B least A l lA in
      let u-least = sub_not_negative binary32 D B B-D (sub_number binary32 D B D_finite B_finite) in
      let A-a : T (le A a) = subst (λ (z : Float). T (le A z)) (add_comm binary32 A u) (grown binary32 A u A_finite h.A_fits u_finite u-least) in
      let ga = grid_of a (add-fits binary32 u A) a_finite (Order.le_trans least A a lA A-a) in
      let v-most = sub_not_positive binary32 B A B_finite A_finite B-A in
      let b-A : T (le b (neg A)) = Order.le_trans b (sub binary32 nought A) (neg A) (sub_mono_left binary32 v nought A v-most (sub_number binary32 v A v_finite A_finite) (sub_number binary32 nought A tt A_finite)) (from_nothing binary32 A A_finite h.A_fits).0 in
      let A-b : T (le A (neg b)) = subst (λ (z : Float). T (le z (neg b))) (Order.neg_neg A) (Order.le_neg b (neg A) b-A) in
      let gb = grid_of (neg b) (neg-fits binary32 b (sub-fits binary32 v A)) (neg_finite b b_finite) (Order.le_trans least A (neg b) lA A-b) in
      let b_is : HasValue b true gb.0 (2 ^ 30) = subst (λ (z : Float). HasValue z true gb.0 (2 ^ 30)) (Order.neg_neg b) (neg_value (neg b) false gb.0 (2 ^ 30) gb.1) in
      let falls = b_falls (record { s = false; X = γ; value = gA.1; more = refl; less = refl }) γ-most' true gb.0 b_is in
      let gd = grid_of D h.D_fits D_finite lD in
      let δ-most = values_le D most gd.0 (2 ^ 42) (2 ^ 30) (pow_pos 30) gd.1 most_value h.D_most in
      let s = step D A false gd.0 false γ gd.1 gA.1 (both gd.0 γ δ-most γ-most') in
      let a-DA = add_mono_left binary32 u D A (shrunk binary32 D B D_finite h.D_fits B_finite h.B_least) (add_number binary32 u A u_finite A_finite) (add_number binary32 D A D_finite A_finite) in
      record {
        sa = false;
        α = ga.0;
        sb = true;
        β = gb.0;
        sc = false;
        γ = γ;
        a_fits = add-fits binary32 u A;
        b_fits = sub-fits binary32 v A;
        c_fits = h.A_fits;
        a_is = ga.1;
        b_is = b_is;
        c_is = gA.1;
        at_zero = refl;
        at_end = ends ga.0 gb.0 γ falls (values_le A a γ ga.0 (2 ^ 30) (pow_pos 30) gA.1 ga.1 A-a);
        falls = falls;
        most_a = sized ga.0 s.w s.R s.E gd.0 γ (values_order a (add binary32 D A) false ga.0 s.w s.R (2 ^ 30) (pow_pos 30) ga.1 s.value a-DA) s.size s.err δ-most γ-most';
        most_b = halved gb.0 γ falls γ-most';
        most_c = γ-most';
      }
    where
      both : (δ γ : ℕ) → δ ≤ 2 ^ 42 → γ ≤ 2 ^ 42 → δ + γ ≤ 2 ^ 60
      both δ γ d c = omega arith

      ends : (α β γ : ℕ) → β ≤ 2 * γ → γ ≤ α → 65025 * 0 + 65280 * β ≤ 65025 * α + 65280 * 0 + 65536 * γ
      ends α β γ h k = omega arith

      halved : (β γ : ℕ) → β ≤ 2 * γ → γ ≤ 2 ^ 42 → β ≤ 26500000000000
      halved β γ h k = omega arith

      sized : (α : ℕ) (w : Bool) (R E δ γ : ℕ) → AtMost false α w R → R ≤ δ + γ + E → E * 16777216 ≤ δ + γ → δ ≤ 2 ^ 42 → γ ≤ 2 ^ 42 → α ≤ 26500000000000
      sized α true R E δ γ a r e d c = omega arith
      sized α false R E δ γ a r e d c = omega arith

  -- ---- all are whole numbers of units
  large_case : Sized B → Coefficients a b A
  large_case l =
      let gb = grid_sized B h.B_fits B_finite l in
      let gd = grid_sized D h.D_fits D_finite h.D_sized in
      let ga = A_grid in
      let γ = ga.X in
      let β₀ = gb.X in
      let δ = gd.X in
      let β-most = bounded B most_middle gb (2 ^ 44) middle_value h.B_most in
      let δ-most = bounded D most gd (2 ^ 42) most_value h.D_most in
      let nB = neg_value B gb.s β₀ (2 ^ 30) gb.value in
      let nA = neg_value A ga.s γ (2 ^ 30) ga.value in
      let Us = step D (neg B) gd.s δ (not gb.s) β₀ gd.value nB (sum1 δ β₀ δ-most β-most) in
      let Vs = step B (neg A) gb.s β₀ (not ga.s) γ gb.value nA (sum2 γ β₀ γ_most β-most) in
      let Ss = step (add binary32 D (neg B)) A Us.w Us.R ga.s γ Us.value ga.value (sum3 Us.R Us.E δ β₀ γ Us.size Us.err δ-most β-most γ_most) in
      let Qs = step (add binary32 B (neg A)) (neg A) Vs.w Vs.R (not ga.s) γ Vs.value nA (sum4 Vs.R Vs.E β₀ γ Vs.size Vs.err β-most γ_most) in
      let a_is : HasValue a Ss.w Ss.R (2 ^ 30) = unfold sub in Ss.value in
      let b_is : HasValue b Qs.w Qs.R (2 ^ 30) = unfold sub in Qs.value in
      let tA = turned ga.s γ in
      let tB = turned gb.s β₀ in
      record {
        sa = Ss.w;
        α = Ss.R;
        sb = Qs.w;
        β = Qs.R;
        sc = ga.s;
        γ = γ;
        a_fits = add-fits binary32 u A;
        b_fits = sub-fits binary32 v A;
        c_fits = h.A_fits;
        a_is = a_is;
        b_is = b_is;
        c_is = ga.value;
        at_zero = ga.less;
        at_end = ends (plus Ss.w Ss.R) (minus Ss.w Ss.R) (plus Qs.w Qs.R) (minus Qs.w Qs.R) (plus Us.w Us.R) (minus Us.w Us.R) (plus Vs.w Vs.R) (minus Vs.w Vs.R) β₀ γ δ Us.E Vs.E Ss.E Qs.E
            (low1 (plus gd.s δ) (minus gd.s δ) (plus (not gb.s) β₀) (minus (not gb.s) β₀) (plus Us.w Us.R) (minus Us.w Us.R) δ β₀ Us.E gd.more gd.less (tB.0 ∙ gb.less) (tB.1 ∙ gb.more) Us.low)
            (low1 (plus gb.s β₀) (minus gb.s β₀) (plus (not ga.s) γ) (minus (not ga.s) γ) (plus Vs.w Vs.R) (minus Vs.w Vs.R) β₀ γ Vs.E gb.more gb.less (tA.0 ∙ ga.less) (tA.1 ∙ ga.more) Vs.low)
            (low2 (plus Us.w Us.R) (minus Us.w Us.R) (plus ga.s γ) (minus ga.s γ) (plus Ss.w Ss.R) (minus Ss.w Ss.R) γ Ss.E ga.more ga.less Ss.low)
            (low3 (plus Vs.w Vs.R) (minus Vs.w Vs.R) (plus (not ga.s) γ) (minus (not ga.s) γ) (plus Qs.w Qs.R) (minus Qs.w Qs.R) γ Qs.E (tA.0 ∙ ga.less) (tA.1 ∙ ga.more) Qs.low)
            (errors δ β₀ γ Us.R Vs.R Us.E Vs.E Ss.E Qs.E Us.size Vs.size Us.err Vs.err Ss.err Qs.err);
        falls = b_falls ga γ_most Qs.w Qs.R b_is;
        most_a = sum5 Ss.R Us.R Us.E Ss.E δ β₀ γ Ss.size Us.size Us.err Ss.err δ-most β-most γ_most;
        most_b = sum6 Qs.R Vs.R Vs.E Qs.E β₀ γ Qs.size Vs.size Vs.err Qs.err β-most γ_most;
        most_c = γ_most;
      }
    where
      low1 : (px mx py my pw mw X Y E : ℕ) → px ≡ X → mx ≡ 0 → py ≡ 0 → my ≡ Y → px + py + mw ≤ pw + mx + my + E → X + mw ≤ pw + Y + E
      low1 px mx py my pw mw X Y E a b c d e = omega arith

      low2 : (px mx py my pw mw Y E : ℕ) → py ≡ Y → my ≡ 0 → px + py + mw ≤ pw + mx + my + E → px + Y + mw ≤ pw + mx + E
      low2 px mx py my pw mw Y E a b e = omega arith

      low3 : (px mx py my pw mw Y E : ℕ) → py ≡ 0 → my ≡ Y → px + py + mw ≤ pw + mx + my + E → px + mw ≤ pw + mx + Y + E
      low3 px mx py my pw mw Y E a b e = omega arith

      ends : (pa ma pb mb pu mu pv mv β γ δ Eu Ev Ea Eb : ℕ) → δ + mu ≤ pu + β + Eu → β + mv ≤ pv + γ + Ev → pu + γ + ma ≤ pa + mu + Ea → pv + mb ≤ pb + mv + γ + Eb
          → 65280 * (Eu + Ev + Ea + Eb) ≤ 65025 * δ + 255 * β + γ → 65025 * ma + 65280 * mb ≤ 65025 * pa + 65280 * pb + 65536 * γ
      ends pa ma pb mb pu mu pv mv β γ δ Eu Ev Ea Eb a b c d e = omega arith

      chained : (X Y R E F : ℕ) → R ≤ X + E → E * 16777216 ≤ X → F * 16777216 ≤ R + Y → F * 16777216 ≤ 2 * X + Y
      chained X Y R E F a b c = omega arith

      total : (X Y Z v Eu Ev Ea Eb : ℕ) → Eu * 16777216 ≤ X → Ev * 16777216 ≤ Y → Ea * 16777216 ≤ Z → Eb * 16777216 ≤ v → (Eu + Ev + Ea + Eb) * 16777216 ≤ X + Y + Z + v
      total X Y Z v Eu Ev Ea Eb a b c d = omega arith

      spread : (S δ β γ : ℕ) → S * 16777216 ≤ δ + β + (β + γ) + (2 * (δ + β) + γ) + (2 * (β + γ) + γ) → 65280 * S ≤ 65025 * δ + 255 * β + γ
      spread S δ β γ h = omega arith

      errors : (δ β γ Ru Rv Eu Ev Ea Eb : ℕ) → Ru ≤ δ + β + Eu → Rv ≤ β + γ + Ev → Eu * 16777216 ≤ δ + β → Ev * 16777216 ≤ β + γ → Ea * 16777216 ≤ Ru + γ → Eb * 16777216 ≤ Rv + γ → 65280 * (Eu + Ev + Ea + Eb) ≤ 65025 * δ + 255 * β + γ
      errors δ β γ Ru Rv Eu Ev Ea Eb a b c d e f =
          spread (Eu + Ev + Ea + Eb) δ β γ (total (δ + β) (β + γ) (2 * (δ + β) + γ) (2 * (β + γ) + γ) Eu Ev Ea Eb c d (chained (δ + β) γ Ru Eu Ea a c e) (chained (β + γ) γ Rv Ev Eb b d f))

      sum1 : (δ β : ℕ) → δ ≤ 2 ^ 42 → β ≤ 2 ^ 44 → δ + β ≤ 2 ^ 60
      sum1 δ β d b = omega arith

      sum2 : (γ β : ℕ) → γ ≤ 2 ^ 42 → β ≤ 2 ^ 44 → β + γ ≤ 2 ^ 60
      sum2 γ β d b = omega arith

      sum3 : (R E δ β γ : ℕ) → R ≤ δ + β + E → E * 16777216 ≤ δ + β → δ ≤ 2 ^ 42 → β ≤ 2 ^ 44 → γ ≤ 2 ^ 42 → R + γ ≤ 2 ^ 60
      sum3 R E δ β γ r e d b c = omega arith

      sum4 : (R E β γ : ℕ) → R ≤ β + γ + E → E * 16777216 ≤ β + γ → β ≤ 2 ^ 44 → γ ≤ 2 ^ 42 → R + γ ≤ 2 ^ 60
      sum4 R E β γ r e b c = omega arith

      sum5 : (S R E F δ β γ : ℕ) → S ≤ R + γ + F → R ≤ δ + β + E → E * 16777216 ≤ δ + β → F * 16777216 ≤ R + γ → δ ≤ 2 ^ 42 → β ≤ 2 ^ 44 → γ ≤ 2 ^ 42 → S ≤ 26500000000000
      sum5 S R E F δ β γ s r e f d b c = omega arith

      sum6 : (Q R E F β γ : ℕ) → Q ≤ R + γ + F → R ≤ β + γ + E → E * 16777216 ≤ β + γ → F * 16777216 ≤ R + γ → β ≤ 2 ^ 44 → γ ≤ 2 ^ 42 → Q ≤ 26500000000000
      sum6 Q R E F β γ s r e f b c = omega arith

  pub coefficients : Coefficients a b A
  coefficients = elim h.middle [
    | inl l ↦ large_case l
    | inr k ↦ elim (Order.le_total least B (Order.finite_number least tt) (Order.finite_number B B_finite)) [ inl l ↦ large_case (inr l) | inr l ↦ small_case k.0 k.1 l ]
  ]

-- (Q) Of three such differences no root is inside.
pub quadratic_outside : (A B D : Float) → Sorted A B D → some inside (quadratic_roots A B D) ≡ false
unfolding quadratic_roots
quadratic_outside A B D h = roots_outside (add binary32 (sub binary32 D B) A) (sub binary32 (sub binary32 B A) A) A (coefficients A B D h)
