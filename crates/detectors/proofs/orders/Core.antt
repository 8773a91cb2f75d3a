-- A quadratic that is not negative at 0 nor at 255 / 256 and falls at 0 by no more than twice what it is there: no root that is computed of it is inside. Assumes nothing.
-- Its coefficients are whole numbers of units, 2 ^ -30, and at most 26.5 · 10 ^ 12 units: so sums of them are exact in binary64, and only the discriminant, its root and the quotients are rounded.
use Rattle.std.proofs.Common.{◌≡◌, ℕ, zero, suc, ◌+◌, ◌-◌, ◌*◌, ◌^◌, ◌<◌, ◌≤◌, Bool, true, false, cond, not, ◌||◌, T, ◌⊎◌, [], ◌∷◌, pos, sym, refl, ap, ◌∙◌, subst, inl, inr, le_trans, le_of_eq, le_refl, lt_of_lt_of_le, lt_of_le_of_lt, le_of_lt, add-le-add, lt_irrefl, mul-le-mul_right, zero-lt-suc, mul_assoc, eq-zero-or-pos, mul-le-mul, mul-pos, mul-zero, le_of_mul-le-mul_right, arith, lit<, lit≤, pow_pos}
use lib.Ieee.{Float, nan, inf, fin, Format, binary32, binary64, unlike, round, add, sub, mul, div, neg, le, lt, eq, fits, of_bits}
use lib.Ieee.Fits.{round-fits, neg-fits, sub-fits, fits_widens}
use lib.Ieee.Exact.{HasValue}
use Rattle.numbers.specs.Constants.{zero_of, two, four, dominance}
use Rattle.numbers.specs.Scalar.{abs_of}
use Rattle.numbers.specs.SquareRoot.{sqrt_of}
use Rattle.numbers.specs.EquationSolver.{is_linear, linear_roots, discriminant, upper_root, lower_root, square_roots_by, square_roots, roots_of}
use Rattle.numbers.proofs.Laws.Order as Order
use Rattle.numbers.proofs.Laws.Order.{plus, minus, AtMost, nought, IsFinite}
use Rattle.numbers.proofs.Laws.Monotone.{add_number, sub_number, mul_number, add_mono_right, sub_anti_right, mul_mono_left}
use Rattle.numbers.proofs.floats.Compared.{le_or_lt}
use Rattle.numbers.proofs.floats.Differences.{or_split}
use Rattle.ground.specs.Lists.{some}
use Rattle.detectors.specs.Pairs.{inside}
use Rattle.detectors.proofs.orders.Outside.{quotient_low, quotient_low_neg, quotient_high}
use Rattle.detectors.proofs.orders.Near.{few}
use Rattle.detectors.proofs.orders.Sums.{Added, add_near, add_known, neg_value, finer}
use Rattle.detectors.proofs.orders.Squares.{Rooted, rooted, mul_value, four_fits, four_is, two_is, four_held, two_held}
use Rattle.detectors.proofs.orders.Values.{value_finite, le_values, values_le, nought_value, positive_value, zero_value, value_zero, grown, shrunk, div_neg_neg, ratio_high, ratio_low}

-- W / 2 ^ 37
abbrev unit : ℕ → Float
unit W = round binary64 false W (2 ^ 37)

unit_value : (W : ℕ) → W < 2 ^ 53 → HasValue (unit W) false W (2 ^ 37)
unit_value W h = few binary64 false 37 W (lit≤ tt) h

unit_fits : (W : ℕ) → T (fits binary64 (unit W))
unit_fits W = round-fits binary64 false W (2 ^ 37)

-- ---- a discriminant above 0: N = X ± Y, rounded to R
pub record Disc (d : Float) (X : ℕ) (t : Bool) (Y : ℕ) : Type 0 where
  N : ℕ
  R : ℕ
  some_R : 0 < R
  root : Rooted d R (2 ^ 60)
  above : R * 2 ^ 53 ≤ N * 2 ^ 53 + N
  below : N * 2 ^ 53 ≤ R * 2 ^ 53 + N
  sums : N + minus t Y ≡ X + plus t Y

pub disc_of : (d : Float) (X : ℕ) (t : Bool) (Y : ℕ) → Added binary64 d false X t Y 60 → T (fits binary64 d) → T (lt (zero_of binary64) d) → Disc d X t Y
disc_of d X t Y r f l =
    let n = r.is in
    let p = positive_value d r.sign n.R (2 ^ 60) (pow_pos 60) n.value l in
    record {
      N = r.size;
      R = n.R;
      some_R = p.1;
      root = rooted d n.R (2 ^ 60) (pow_pos 60) f (subst (λ (b : Bool). HasValue d b n.R (2 ^ 60)) p.0 n.value) p.1;
      above = n.above;
      below = n.below;
      sums = go r.sign r.size (minus t Y) (plus t Y) p.0 r.sums;
    }
  where
    go : (w : Bool) (N m p : ℕ) → w ≡ false → plus w N + 0 + m ≡ minus w N + X + p → N + m ≡ X + p
    go true N m p q h = absurd (Bool_no q)
      where
        Bool_no : true ≡ false → ⊥
        Bool_no q = subst (λ (b : Bool). T b) q tt
    go false N m p q h = omega arith

pub root_finite : (d : Float) (X : ℕ) (t : Bool) (Y : ℕ) → Disc d X t Y → IsFinite (sqrt_of d)
root_finite d X t Y r = subst IsFinite (sym r.root.is) tt

root_positive : (d : Float) (X : ℕ) (t : Bool) (Y : ℕ) → Disc d X t Y → T (le nought (sqrt_of d))
root_positive d X t Y r = r.root.from nought 0 1 (zero-lt-suc 0) (unfold fits in tt) (nought_value 1) (omega arith)

-- ---- the root is within 2 ^ -37 of K / 2 ^ 37, where the discriminant is the square of that
most_arith : (N R K q P : ℕ) → 0 < P → R * P ≤ N * P + N → 16384 * N ≤ q → q ≤ P * K → q ≡ K * K → R * 16384 ≤ (K + 1) * (K + 1)
most_arith N R K q P Q a h b e =
    let g : R * 16384 * P ≤ (q + K) * P = omega (arith, mul-le-mul_right P h) in
    let g' : R * 16384 ≤ q + K = le_of_mul-le-mul_right g Q in
    last R K q g' e
  where
    last : (R K q : ℕ) → R * 16384 ≤ q + K → q ≡ K * K → R * 16384 ≤ (K + 1) * (K + 1)
    last R K q g e = omega arith

least_arith : (N R K q W P : ℕ) → 0 < P → N * P ≤ R * P + N → q ≤ 16384 * N → q ≤ P * K → q ≡ K * K → W + 1 ≡ K → W * W ≤ R * 16384
least_arith N R K q W P Q a h b e w =
    let g : q * P ≤ (R * 16384 + K) * P = first (16384 * N - q) (split (16384 * N) q h) in
    let g' : q ≤ R * 16384 + K = le_of_mul-le-mul_right g Q in
    last R K q W g' e w
  where
    split : (N q : ℕ) → q ≤ N → N ≡ q + (N - q)
    split N q h = omega arith

    first : (x : ℕ) → 16384 * N ≡ q + x → q * P ≤ (R * 16384 + K) * P
    first x e = omega (arith, ap (λ (n : ℕ). n * P) e, mul-le-mul_right x Q)

    last : (R K q W : ℕ) → q ≤ R * 16384 + K → q ≡ K * K → W + 1 ≡ K → W * W ≤ R * 16384
    last R K q W g e w = omega (arith, ap (λ (x : ℕ). x * x) w)

at_most_times : (K : ℕ) → K < 2 ^ 53 → K * K ≤ 2 ^ 53 * K
at_most_times K h = mul-le-mul_right K (le_of_lt h)

sqrt_most : (d : Float) (X : ℕ) (t : Bool) (Y : ℕ) (r : Disc d X t Y) (K : ℕ) → 16384 * r.N ≤ K * K → K + 1 < 2 ^ 53 → T (le (sqrt_of d) (unit (K + 1)))
sqrt_most d X t Y r K h b =
    r.root.up_to (unit (K + 1)) (K + 1) (2 ^ 37) (pow_pos 37) (unit_fits (K + 1)) (unit_value (K + 1) b)
    (le_trans (le_of_eq (sym (mul_assoc r.R 16384 (2 ^ 60)))) (mul-le-mul_right (2 ^ 60) (most_arith r.N r.R K (K * K) (2 ^ 53) (pow_pos 53) r.above h (at_most_times K (less K b)) refl)))
  where
    less : (K : ℕ) → K + 1 < 2 ^ 53 → K < 2 ^ 53
    less K h = omega arith

sqrt_least : (d : Float) (X : ℕ) (t : Bool) (Y : ℕ) (r : Disc d X t Y) (K W : ℕ) → K * K ≤ 16384 * r.N → K < 2 ^ 53 → W + 1 ≡ K → T (le (unit W) (sqrt_of d))
sqrt_least d X t Y r K W h b e =
    r.root.from (unit W) W (2 ^ 37) (pow_pos 37) (unit_fits W) (unit_value W (room K W b e))
    (le_trans (mul-le-mul_right (2 ^ 60) (least_arith r.N r.R K (K * K) W (2 ^ 53) (pow_pos 53) r.below h (at_most_times K b) refl e)) (le_of_eq (mul_assoc r.R 16384 (2 ^ 60))))
  where
    room : (K W : ℕ) → K < 2 ^ 53 → W + 1 ≡ K → W < 2 ^ 53
    room K W h e = omega arith

-- ---- the pieces of the formula
pub record Pieces (a b d : Float) (sa : Bool) (α : ℕ) (sb : Bool) (β γ : ℕ) : Type 0 where
  a_some : 0 < α
  y_is : HasValue (mul binary64 two a) sa (2 * α) (2 ^ 30)
  n_is : HasValue (neg b) (not sb) β (2 ^ 30)
  n_fits : T (fits binary64 (neg b))
  pub d_fits : T (fits binary64 d)
  pub d_is : Added binary64 d false (β * β) (not sa) (4 * α * γ) 60
  end : 65025 * minus sa α + 65280 * minus sb β ≤ 65025 * plus sa α + 65280 * plus sb β + 65536 * γ
  half : minus sb β ≤ 2 * γ
  c_most : γ ≤ 4398046511104
  a_most : α ≤ 26500000000000
  b_most : β ≤ 26500000000000

-- −b ± W, in units of 2 ^ -37
small : (x y : ℕ) → x + y ≤ 2 ^ 60 → x + y < 2 ^ 1060
small x y h = lt_of_le_of_lt h (lit< tt)

plus_known : (n : Float) (s : Bool) (β W : ℕ) (u : Bool) (Z : ℕ) → HasValue n s β (2 ^ 30) → β ≤ 26500000000000 → W < 2 ^ 53 → 0 < Z → Z < 2 ^ 53 → plus u Z + minus s (β * 128) + 0 ≡ minus u Z + plus s (β * 128) + W → HasValue (add binary64 n (unit W)) u Z (2 ^ 37)
plus_known n s β W u Z h b w p q e =
    add_known binary64 n (unit W) s (β * 128) false W 37 u Z (lit≤ tt) (small (β * 128) W (omega arith)) (finer n s β 30 7 h) (unit_value W w) p q e

minus_known : (n : Float) (s : Bool) (β W : ℕ) (u : Bool) (Z : ℕ) → HasValue n s β (2 ^ 30) → β ≤ 26500000000000 → W < 2 ^ 53 → 0 < Z → Z < 2 ^ 53 → plus u Z + minus s (β * 128) + W ≡ minus u Z + plus s (β * 128) + 0 → HasValue (sub binary64 n (unit W)) u Z (2 ^ 37)
unfolding sub
minus_known n s β W u Z h b w p q e =
    add_known binary64 n (neg (unit W)) s (β * 128) true W 37 u Z (lit≤ tt) (small (β * 128) W (omega arith)) (finer n s β 30 7 h) (neg_value (unit W) false W (2 ^ 37) (unit_value W w)) p q e

module _ (n s w : Float) (i : IsFinite n) (j : IsFinite s) (k : IsFinite w) where
  plus_le : T (le s w) → T (le (add binary64 n s) (add binary64 n w))
  plus_le h = add_mono_right binary64 n s w h (add_number binary64 n s i j) (add_number binary64 n w i k)

  plus_ge : T (le w s) → T (le (add binary64 n w) (add binary64 n s))
  plus_ge h = add_mono_right binary64 n w s h (add_number binary64 n w i k) (add_number binary64 n s i j)

  minus_ge : T (le s w) → T (le (sub binary64 n w) (sub binary64 n s))
  minus_ge h = sub_anti_right binary64 n s w h (sub_number binary64 n s i j) (sub_number binary64 n w i k)

  minus_le : T (le w s) → T (le (sub binary64 n s) (sub binary64 n w))
  minus_le h = sub_anti_right binary64 n w s h (sub_number binary64 n w i k) (sub_number binary64 n s i j)

-- a quotient with a divisor below 0
pub turn : (x y : Float) → inside (div binary64 (neg x) (neg y)) ≡ false → inside (div binary64 x y) ≡ false
turn x y h = subst (λ (t : Float). inside t ≡ false) (div_neg_neg x y) h

from_zero : (x : Float) (X : ℕ) → HasValue x false X (2 ^ 30) → T (le nought x)
from_zero x X h = le_values nought x false 0 false X (2 ^ 30) (pow_pos 30) (nought_value (2 ^ 30)) h (omega arith)

to_zero : (x : Float) (X : ℕ) → HasValue x true X (2 ^ 30) → T (le x nought)
to_zero x X h = le_values x nought true X false 0 (2 ^ 30) (pow_pos 30) h (nought_value (2 ^ 30)) (omega arith)

-- zeros of either sign
zero_from : (x : Float) (s : Bool) (X : ℕ) → HasValue x s X (2 ^ 30) → X ≡ 0 → T (le nought x)
zero_from x s X h e = le_values nought x false 0 s X (2 ^ 30) (pow_pos 30) (nought_value (2 ^ 30)) h (go s X e)
  where
    go : (s : Bool) (X : ℕ) → X ≡ 0 → AtMost false 0 s X
    go true X e = omega arith
    go false X e = omega arith

zero_to : (x : Float) (s : Bool) (X : ℕ) → HasValue x s X (2 ^ 30) → X ≡ 0 → T (le x nought)
zero_to x s X h e = le_values x nought s X false 0 (2 ^ 30) (pow_pos 30) h (nought_value (2 ^ 30)) (go s X e)
  where
    go : (s : Bool) (X : ℕ) → X ≡ 0 → AtMost s X false 0
    go true X e = omega arith
    go false X e = omega arith

-- ---- the vertex is inside: no root, but for b = c = 0
vertex : (α β γ : ℕ) → β < 2 * α → β ≤ 2 * γ → (β ≡ 0) ⊎ (β * β < 4 * α * γ)
vertex α zero γ h k = inl refl
vertex α (suc β) γ h k = inr (go α (suc β) γ h k (zero-lt-suc β))
  where
    go : (α β γ : ℕ) → β < 2 * α → β ≤ 2 * γ → 0 < β → β * β < 4 * α * γ
    go α β γ h k p = let q : 0 < γ = omega arith in omega (arith, mul-le-mul_right β k, mul-le-mul_right γ h)

no_disc : (X Y N : ℕ) → X < Y → N + Y ≡ X + 0 → ⊥
no_disc X Y N h e = omega arith

zero_no_disc : (β Y N R : ℕ) → β ≡ 0 → 0 < R → N + Y ≡ β * β + 0 → R * 2 ^ 53 ≤ N * 2 ^ 53 + N → ⊥
zero_no_disc β Y N R z p e h = none N R (small_N N Y (β * β) (ap (λ (x : ℕ). x * x) z) e) p h
  where
    small_N : (N Y X : ℕ) → X ≡ 0 → N + Y ≡ X + 0 → N ≡ 0
    small_N N Y X z e = omega arith

    none : (N R : ℕ) → N ≡ 0 → 0 < R → R * 2 ^ 53 ≤ N * 2 ^ 53 + N → ⊥
    none N R z p h = omega arith

no_vertex : (d : Float) (α β γ : ℕ) → Disc d (β * β) true (4 * α * γ) → β < 2 * α → β ≤ 2 * γ → ⊥
no_vertex d α β γ r h k = elim (vertex α β γ h k) [
  | inl z ↦ zero_no_disc β (4 * α * γ) r.N r.R z r.some_R r.sums r.above
  | inr g ↦ no_disc (β * β) (4 * α * γ) r.N g r.sums
]

add_none : (x y : ℕ) → x ≤ y → x + 0 ≤ y + 0
add_none x y h = omega arith

-- what is left of 255 / 128 * a, less one unit of 2 ^ -37
nearly : (α Z : ℕ) → Z + 1 ≡ 255 * α → 0 < α → 1981 * (2 * α * 128) ≤ 2000 * Z
nearly α Z e h = omega arith

some_Z : (α Z : ℕ) → Z + 1 ≡ 255 * α → 0 < α → 0 < Z
some_Z α Z e h = omega arith

few_Z : (α Z : ℕ) → Z + 1 ≡ 255 * α → α ≤ 26500000000000 → Z < 2 ^ 53
few_Z α Z e h = omega arith

less_one : (c k : ℕ) → 0 < k → 0 < c → c * k - 1 + 1 ≡ c * k
less_one c k p q = back (c * k) (mul-pos q p)
  where
    back : (x : ℕ) → 0 < x → x - 1 + 1 ≡ x
    back x h = omega arith

-- ---- a is below 0: the root is at least K = 255 * α - 128 * b, less one unit of 2 ^ -37
high_at : (a b d : Float) (α : ℕ) (sb : Bool) (β γ : ℕ) (p : Pieces a b d true α sb β γ) (r : Disc d (β * β) false (4 * α * γ)) (K W Z : ℕ) → W + 1 ≡ K → Z + 1 ≡ 255 * α → K < 2 ^ 53
    → 128 * plus sb β + K ≡ 128 * minus sb β + 255 * α → K * K ≤ 16384 * (β * β + 4 * α * γ) → inside (div binary64 (sub binary64 (neg b) (sqrt_of d)) (mul binary64 two a)) ≡ false
high_at a b d α sb β γ p r K W Z ew ez m e h =
    let n = neg b in
    let y = mul binary64 two a in
    let w = unit W in
    let x = sub binary64 n (sqrt_of d) in
    let v = sub binary64 n w in
    let Wl : W < 2 ^ 53 = few' K W ew m in
    let P = some_Z α Z ez p.a_some in
    let z = minus_known n (not sb) β W true Z p.n_is p.b_most Wl P (few_Z α Z ez p.a_most) (eqn sb α β K W Z ew ez e) in
    let l = sqrt_least d (β * β) false (4 * α * γ) r K W (le_trans h (le_of_eq (ap (λ (x : ℕ). 16384 * x) (flat r.N (β * β) (4 * α * γ) r.sums)))) m ew in
    turn x y
    (ratio_high (neg x) (neg y) (neg v) (2 * α) Z (neg_value y true (2 * α) (2 ^ 30) p.y_is) (neg_value v true Z (2 ^ 37) z) P
    (Order.le_neg x v (minus_le n (sqrt_of d) w (value_finite n (not sb) β (2 ^ 30) p.n_is) (root_finite d (β * β) false (4 * α * γ) r) (value_finite w false W (2 ^ 37) (unit_value W Wl)) l)) (nearly α Z ez p.a_some))
  where
    few' : (k W : ℕ) → W + 1 ≡ k → k < 2 ^ 53 → W < 2 ^ 53
    few' k W e h = omega arith

    flat : (N X Y : ℕ) → N + 0 ≡ X + Y → X + Y ≡ N
    flat N X Y h = omega arith

    eqn : (sb : Bool) (α β k W Z : ℕ) → W + 1 ≡ k → Z + 1 ≡ 255 * α → 128 * plus sb β + k ≡ 128 * minus sb β + 255 * α → plus true Z + minus (not sb) (β * 128) + W ≡ minus true Z + plus (not sb) (β * 128) + 0
    eqn true α β k W Z f g e = omega arith
    eqn false α β k W Z f g e = omega arith

high : (a b d : Float) (α : ℕ) (sb : Bool) (β γ : ℕ) (p : Pieces a b d true α sb β γ) (r : Disc d (β * β) false (4 * α * γ)) (K : ℕ) → 0 < K → K < 2 ^ 53
    → 128 * plus sb β + K ≡ 128 * minus sb β + 255 * α → K * K ≤ 16384 * (β * β + 4 * α * γ) → inside (div binary64 (sub binary64 (neg b) (sqrt_of d)) (mul binary64 two a)) ≡ false
high a b d α sb β γ p r K P m e h = high_at a b d α sb β γ p r K (K - 1) (255 * α - 1) (back K P) (less_one 255 α p.a_some (zero-lt-suc 254)) m e h
  where
    back : (x : ℕ) → 0 < x → x - 1 + 1 ≡ x
    back x h = omega arith

pub upper : (a b d : Float) (sa : Bool) (α : ℕ) (sb : Bool) (β γ : ℕ) → Pieces a b d sa α sb β γ → T (lt (zero_of binary64) d) → inside (upper_root a b (sqrt_of d)) ≡ false
unfolding upper_root
upper a b d false α false β γ p l =
    let r = disc_of d (β * β) true (4 * α * γ) p.d_is p.d_fits l in
    let n = neg b in
    let y = mul binary64 two a in
    let W = 128 * β + 1 in
    let w = unit W in
    let Wl : W < 2 ^ 53 = room β p.b_most in
    let z = plus_known n true β W false 1 p.n_is p.b_most Wl (zero-lt-suc 0) (lit< tt) (eqn β) in
    let k = sqrt_most d (β * β) true (4 * α * γ) r (128 * β) (square β (4 * α * γ) r.N r.sums) Wl in
    ratio_low (add binary64 n (sqrt_of d)) y (add binary64 n w) (2 * α) 1 p.y_is z
    (plus_le n (sqrt_of d) w (value_finite n true β (2 ^ 30) p.n_is) (root_finite d (β * β) true (4 * α * γ) r) (value_finite w false W (2 ^ 37) (unit_value W Wl)) k) (one α p.a_some)
  where
    room : (β : ℕ) → β ≤ 26500000000000 → 128 * β + 1 < 2 ^ 53
    room β h = omega arith

    eqn : (β : ℕ) → 1 + β * 128 + 0 ≡ 0 + 0 + (128 * β + 1)
    eqn β = omega arith

    square : (β Y N : ℕ) → N + Y ≡ β * β + 0 → 16384 * N ≤ 128 * β * (128 * β)
    square β Y N e = omega arith

    one : (α : ℕ) → 0 < α → 128 * 1 ≤ 2 * α * 128
    one α h = omega arith
upper a b d false α true β γ p l =
    let r = disc_of d (β * β) true (4 * α * γ) p.d_is p.d_fits l in
    let n = neg b in
    let y = mul binary64 two a in
    elim (le_or_lt (2 * α) β) [
      | inl h ↦
          quotient_high (add binary64 n (sqrt_of d)) y (from_zero y (2 * α) p.y_is)
          (Order.le_trans y n (add binary64 n (sqrt_of d)) (le_values y n false (2 * α) false β (2 ^ 30) (pow_pos 30) p.y_is p.n_is (add_none (2 * α) β h))
          (grown n (sqrt_of d) (value_finite n false β (2 ^ 30) p.n_is) p.n_fits (root_finite d (β * β) true (4 * α * γ) r) (root_positive d (β * β) true (4 * α * γ) r)))
      | inr h ↦ absurd (no_vertex d α β γ r h p.half)
    ]
upper a b d true α true β γ p l =
    let r = disc_of d (β * β) false (4 * α * γ) p.d_is p.d_fits l in
    let n = neg b in
    let y = mul binary64 two a in
    quotient_low_neg (add binary64 n (sqrt_of d)) y
    (Order.le_trans nought n (add binary64 n (sqrt_of d)) (from_zero n β p.n_is) (grown n (sqrt_of d) (value_finite n false β (2 ^ 30) p.n_is) p.n_fits (root_finite d (β * β) false (4 * α * γ) r) (root_positive d (β * β) false (4 * α * γ) r)))
    (to_zero y (2 * α) p.y_is)
upper a b d true α false zero γ p l =
    let r = disc_of d (0 * 0) false (4 * α * γ) p.d_is p.d_fits l in
    let n = neg b in
    let y = mul binary64 two a in
    quotient_low_neg (add binary64 n (sqrt_of d)) y
    (Order.le_trans nought n (add binary64 n (sqrt_of d)) (zero_from n true 0 p.n_is refl) (grown n (sqrt_of d) (value_finite n true 0 (2 ^ 30) p.n_is) p.n_fits (root_finite d (0 * 0) false (4 * α * γ) r) (root_positive d (0 * 0) false (4 * α * γ) r)))
    (to_zero y (2 * α) p.y_is)
upper a b d true α false (suc β) γ p l =
    let k = suc β in
    let r = disc_of d (k * k) false (4 * α * γ) p.d_is p.d_fits l in
    let n = neg b in
    let y = mul binary64 two a in
    let W = 128 * β + 127 in
    let w = unit W in
    let K = W + 1 in
    let Kl : K < 2 ^ 53 = room β p.b_most in
    let Wl : W < 2 ^ 53 = room' β p.b_most in
    let z = plus_known n true k W true 1 p.n_is p.b_most Wl (zero-lt-suc 0) (lit< tt) (eqn β) in
    let h = sqrt_least d (k * k) false (4 * α * γ) r K W (square β (4 * α * γ) r.N r.sums) Kl refl in
    let x = add binary64 n (sqrt_of d) in
    let v = add binary64 n w in
    turn x y
    (ratio_low (neg x) (neg y) (neg v) (2 * α) 1 (neg_value y true (2 * α) (2 ^ 30) p.y_is) (neg_value v true 1 (2 ^ 37) z)
    (Order.le_neg v x (plus_ge n (sqrt_of d) w (value_finite n true k (2 ^ 30) p.n_is) (root_finite d (k * k) false (4 * α * γ) r) (value_finite w false W (2 ^ 37) (unit_value W Wl)) h)) (one α p.a_some))
  where
    room : (β : ℕ) → suc β ≤ 26500000000000 → 128 * β + 127 + 1 < 2 ^ 53
    room β h = omega arith

    room' : (β : ℕ) → suc β ≤ 26500000000000 → 128 * β + 127 < 2 ^ 53
    room' β h = omega arith

    eqn : (β : ℕ) → 0 + suc β * 128 + 0 ≡ 1 + 0 + (128 * β + 127)
    eqn β = omega arith

    square : (β Y N : ℕ) → N + 0 ≡ suc β * suc β + Y → (128 * β + 127 + 1) * (128 * β + 127 + 1) ≤ 16384 * N
    square β Y N e = omega arith

    one : (α : ℕ) → 0 < α → 128 * 1 ≤ 2 * α * 128
    one α h = omega arith

pub lower : (a b d : Float) (sa : Bool) (α : ℕ) (sb : Bool) (β γ : ℕ) → Pieces a b d sa α sb β γ → T (lt (zero_of binary64) d) → inside (lower_root a b (sqrt_of d)) ≡ false
unfolding lower_root
lower a b d false α false β γ p l =
    let r = disc_of d (β * β) true (4 * α * γ) p.d_is p.d_fits l in
    let n = neg b in
    let y = mul binary64 two a in
    quotient_low (sub binary64 n (sqrt_of d)) y
    (Order.le_trans (sub binary64 n (sqrt_of d)) n nought (shrunk n (sqrt_of d) (value_finite n true β (2 ^ 30) p.n_is) p.n_fits (root_finite d (β * β) true (4 * α * γ) r) (root_positive d (β * β) true (4 * α * γ) r)) (to_zero n β p.n_is))
    (from_zero y (2 * α) p.y_is)
lower a b d false α true β γ p l =
    let r = disc_of d (β * β) true (4 * α * γ) p.d_is p.d_fits l in
    elim (le_or_lt (2 * α) β) [
      | inl h ↦ go r (128 * β - 255 * α) (255 * α - 1) (rest β α h) (less_one 255 α p.a_some (zero-lt-suc 254))
      | inr h ↦ absurd (no_vertex d α β γ r h p.half)
    ]
  where
    rest : (β α : ℕ) → 2 * α ≤ β → 128 * β - 255 * α + 255 * α ≡ 128 * β
    rest β α h = omega arith

    -- 16384 * N ≤ K * K
    below_square : (α β γ N K : ℕ) → K + 255 * α ≡ 128 * β → 65280 * β ≤ 65025 * α + 65536 * γ → N + 4 * α * γ ≡ β * β → 16384 * N ≤ K * K
    below_square α β γ N K e h s = omega (arith, ap (λ (x : ℕ). x * x) e, mul-le-mul_right α h, ap (λ (x : ℕ). x * α) e)

    go : (r : Disc d (β * β) true (4 * α * γ)) (K Z : ℕ) → K + 255 * α ≡ 128 * β → Z + 1 ≡ 255 * α → inside (div binary64 (sub binary64 (neg b) (sqrt_of d)) (mul binary64 two a)) ≡ false
    go r K Z e f =
        let n = neg b in
        let y = mul binary64 two a in
        let W = K + 1 in
        let w = unit W in
        let Wl : W < 2 ^ 53 = room K β α e p.b_most in
        let h = sqrt_most d (β * β) true (4 * α * γ) r K (below_square α β γ r.N K e (flat α β γ p.end) (flat' r.N (4 * α * γ) (β * β) r.sums)) Wl in
        let P = some_Z α Z f p.a_some in
        let z = minus_known n false β W false Z p.n_is p.b_most Wl P (few_Z α Z f p.a_most) (eqn α β K Z e f) in
        ratio_high (sub binary64 n (sqrt_of d)) y (sub binary64 n w) (2 * α) Z p.y_is z P
        (minus_ge n (sqrt_of d) w (value_finite n false β (2 ^ 30) p.n_is) (root_finite d (β * β) true (4 * α * γ) r) (value_finite w false W (2 ^ 37) (unit_value W Wl)) h) (nearly α Z f p.a_some)
      where
        room : (K β α : ℕ) → K + 255 * α ≡ 128 * β → β ≤ 26500000000000 → K + 1 < 2 ^ 53
        room K β α e h = omega arith

        flat : (α β γ : ℕ) → 65025 * 0 + 65280 * β ≤ 65025 * α + 65280 * 0 + 65536 * γ → 65280 * β ≤ 65025 * α + 65536 * γ
        flat α β γ h = omega arith

        flat' : (N x y : ℕ) → N + x ≡ y + 0 → N + x ≡ y
        flat' N x y h = omega arith

        eqn : (α β K Z : ℕ) → K + 255 * α ≡ 128 * β → Z + 1 ≡ 255 * α → Z + 0 + (K + 1) ≡ 0 + β * 128 + 0
        eqn α β K Z e f = omega arith
lower a b d true α false β γ p l =
    let r = disc_of d (β * β) false (4 * α * γ) p.d_is p.d_fits l in
    let n = neg b in
    let y = mul binary64 two a in
    let x = sub binary64 n (sqrt_of d) in
    elim (le_or_lt (255 * α) (128 * β)) [
      | inl h ↦
          turn x y
          (ratio_high (neg x) (neg y) (neg n) (2 * α) (β * 128) (neg_value y true (2 * α) (2 ^ 30) p.y_is) (neg_value n true (β * 128) (2 ^ 37) (finer n true β 30 7 p.n_is)) (some' α β p.a_some h)
          (Order.le_neg x n (shrunk n (sqrt_of d) (value_finite n true β (2 ^ 30) p.n_is) p.n_fits (root_finite d (β * β) false (4 * α * γ) r) (root_positive d (β * β) false (4 * α * γ) r))) (enough α β h))
      | inr h ↦ high a b d α false β γ p r (255 * α - 128 * β) (pos_of (128 * β) (255 * α) h) (room α β p.a_most) (rest β (255 * α) h) (square α β γ (255 * α - 128 * β) (rest' (128 * β) (255 * α) h) (flat α β γ p.end))
    ]
  where
    some' : (α β : ℕ) → 0 < α → 255 * α ≤ 128 * β → 0 < β * 128
    some' α β p h = omega arith

    enough : (α β : ℕ) → 255 * α ≤ 128 * β → 1981 * (2 * α * 128) ≤ 2000 * (β * 128)
    enough α β h = omega arith

    pos_of : (β x : ℕ) → β < x → 0 < x - β
    pos_of β x h = omega arith

    room : (α β : ℕ) → α ≤ 26500000000000 → 255 * α - 128 * β < 2 ^ 53
    room α β h = omega arith

    rest : (β x : ℕ) → 128 * β < x → 128 * plus false β + (x - 128 * β) ≡ 128 * minus false β + x
    rest β x h = omega arith

    rest' : (β x : ℕ) → β < x → x - β + β ≡ x
    rest' β x h = omega arith

    flat : (α β γ : ℕ) → 65025 * α + 65280 * 0 ≤ 65025 * 0 + 65280 * β + 65536 * γ → 65025 * α ≤ 65280 * β + 65536 * γ
    flat α β γ h = omega arith

    square : (α β γ K : ℕ) → K + 128 * β ≡ 255 * α → 65025 * α ≤ 65280 * β + 65536 * γ → K * K ≤ 16384 * (β * β + 4 * α * γ)
    square α β γ K e h = omega (arith, ap (λ (x : ℕ). x * x) e, ap (λ (x : ℕ). x * β) e, mul-le-mul_right α h)
lower a b d true α true β γ p l =
    let r = disc_of d (β * β) false (4 * α * γ) p.d_is p.d_fits l in
    high a b d α true β γ p r (255 * α + 128 * β) (pos_of α β p.a_some) (room α β γ p.a_most p.half p.c_most) (rest β (255 * α)) (square α β γ p.end)
  where
    rest : (β x : ℕ) → 128 * plus true β + (x + 128 * β) ≡ 128 * minus true β + x
    rest β x = omega arith

    pos_of : (α β : ℕ) → 0 < α → 0 < 255 * α + 128 * β
    pos_of α β h = omega arith

    room : (α β γ : ℕ) → α ≤ 26500000000000 → β ≤ 2 * γ → γ ≤ 4398046511104 → 255 * α + 128 * β < 2 ^ 53
    room α β γ h g k = omega arith

    square : (α β γ : ℕ) → 65025 * α + 65280 * β ≤ 65025 * 0 + 65280 * 0 + 65536 * γ → (255 * α + 128 * β) * (255 * α + 128 * β) ≤ 16384 * (β * β + 4 * α * γ)
    square α β γ h = omega (arith, mul-le-mul_right α h)

-- ---- a discriminant of 0
zero_disc : (d : Float) (X : ℕ) (t : Bool) (Y : ℕ) → Added binary64 d false X t Y 60 → T (eq d (zero_of binary64)) → minus t Y ≡ X + plus t Y
zero_disc d X t Y r l =
    go r.sign r.size (minus t Y) (plus t Y) (none r.size r.is.R (zero_value d r.sign r.is.R (2 ^ 60) r.is.value l) r.is.below) r.sums
  where
    none : (N R : ℕ) → R ≡ 0 → N * 2 ^ 53 ≤ R * 2 ^ 53 + N → N ≡ 0
    none N R e h = omega arith

    go : (w : Bool) (N m p : ℕ) → N ≡ 0 → plus w N + 0 + m ≡ minus w N + X + p → m ≡ X + p
    go true N m p e h = omega arith
    go false N m p e h = omega arith

pub only : (a b d : Float) (sa : Bool) (α : ℕ) (sb : Bool) (β γ : ℕ) → Pieces a b d sa α sb β γ → T (eq d (zero_of binary64)) → inside (div binary64 (neg b) (mul binary64 two a)) ≡ false
only a b d false α false β γ p l = quotient_low (neg b) (mul binary64 two a) (to_zero (neg b) β p.n_is) (from_zero (mul binary64 two a) (2 * α) p.y_is)
only a b d false α true β γ p l =
    let y = mul binary64 two a in
    elim (le_or_lt (2 * α) β) [
      | inl h ↦ quotient_high (neg b) y (from_zero y (2 * α) p.y_is) (le_values y (neg b) false (2 * α) false β (2 ^ 30) (pow_pos 30) p.y_is p.n_is (add_none (2 * α) β h))
      | inr h ↦ elim (vertex α β γ h p.half) [
        | inl z ↦ quotient_low (neg b) y (zero_to (neg b) false β p.n_is z) (from_zero y (2 * α) p.y_is)
        | inr g ↦ absurd (no (β * β) (4 * α * γ) g (zero_disc d (β * β) true (4 * α * γ) p.d_is l))
      ]
    ]
  where
    no : (X Y : ℕ) → X < Y → Y ≡ X + 0 → ⊥
    no X Y h e = omega arith
only a b d true α sb β γ p l =
    let y = mul binary64 two a in
    let e = zero_disc d (β * β) false (4 * α * γ) p.d_is l in
    elim (eq-zero-or-pos β) [
      | inl z ↦ quotient_low_neg (neg b) y (zero_from (neg b) (not sb) β p.n_is z) (to_zero y (2 * α) p.y_is)
      | inr q ↦ absurd (no (β * β) (4 * α * γ) (mul-pos q q) e)
    ]
  where
    no : (X Y : ℕ) → 0 < X → 0 ≡ X + Y → ⊥
    no X Y h e = omega arith

-- ---- the coefficients, in units of 2 ^ -30
pub record Coefficients (a b c : Float) : Type 0 where
  pub sa : Bool
  pub α : ℕ
  pub sb : Bool
  pub β : ℕ
  pub sc : Bool
  pub γ : ℕ
  pub a_fits : T (fits binary32 a)
  pub b_fits : T (fits binary32 b)
  pub c_fits : T (fits binary32 c)
  pub a_is : HasValue a sa α (2 ^ 30)
  pub b_is : HasValue b sb β (2 ^ 30)
  pub c_is : HasValue c sc γ (2 ^ 30)
  -- c is not negative, the quadratic is not negative at 255 / 256, and −b is at most twice c
  pub at_zero : minus sc γ ≡ 0
  pub at_end : 65025 * minus sa α + 65280 * minus sb β ≤ 65025 * plus sa α + 65280 * plus sb β + 65536 * γ
  pub falls : minus sb β ≤ 2 * γ
  pub most_a : α ≤ 26500000000000
  pub most_b : β ≤ 26500000000000
  pub most_c : γ ≤ 4398046511104

like_itself : (s : Bool) → unlike s s ≡ false
like_itself true = refl
like_itself false = refl

plain : (s : Bool) → unlike false s ≡ s
plain true = refl
plain false = refl

-- the sign of a zero does not count
added_sign : (d : Float) (X : ℕ) (sa sc : Bool) (α γ : ℕ) → minus sc γ ≡ 0 → Added binary64 d false X (not (unlike sa sc)) (4 * α * γ) 60 → Added binary64 d false X (not sa) (4 * α * γ) 60
added_sign d X sa false α γ z r = subst (λ (b : Bool). Added binary64 d false X (not b) (4 * α * γ) 60) (plain' sa) r
  where
    plain' : (s : Bool) → unlike s false ≡ s
    plain' true = refl
    plain' false = refl
added_sign d X sa true α γ z r =
    let e : 4 * α * γ ≡ 0 = ap (λ (x : ℕ). 4 * α * x) z ∙ mul-zero (4 * α) in
    record { sign = r.sign; size = r.size; sums = go r.sign r.size (not (unlike sa true)) (not sa) (4 * α * γ) e r.sums; most = r.most; is = r.is }
  where
    go : (w : Bool) (N : ℕ) (t t' : Bool) (Y : ℕ) → Y ≡ 0 → plus w N + 0 + minus t Y ≡ minus w N + X + plus t Y → plus w N + 0 + minus t' Y ≡ minus w N + X + plus t' Y
    go w N true true Y e h = h
    go w N true false Y e h = omega arith
    go w N false true Y e h = omega arith
    go w N false false Y e h = h

pub pieces : (a b c : Float) (k : Coefficients a b c) → 0 < k.α → Pieces a b (discriminant a b c) k.sa k.α k.sb k.β k.γ
unfolding discriminant sub
pieces a b c k A =
    let fa = mul binary64 four a in
    let bb = mul binary64 b b in
    let fac = mul binary64 fa c in
    let fa-is : HasValue fa k.sa (4 * k.α) (2 ^ 30) =
    subst (λ (v : Float). HasValue (mul binary64 v a) k.sa (4 * k.α) (2 ^ 30)) (sym four_is)
    (subst (λ (s : Bool). HasValue (mul binary64 (fin false 1 (pos 2)) a) s (4 * k.α) (2 ^ 30)) (plain k.sa) (mul_value (fin false 1 (pos 2)) a false 4 1 k.sa k.α (2 ^ 30) (zero-lt-suc 0) (pow_pos 30) four_held k.a_fits (refl, refl) k.a_is)) in
    let bb-is = subst (λ (s : Bool). HasValue bb s (k.β * k.β) (2 ^ 60)) (like_itself k.sb) (mul_value b b k.sb k.β (2 ^ 30) k.sb k.β (2 ^ 30) (pow_pos 30) (pow_pos 30) k.b_fits k.b_fits k.b_is k.b_is) in
    let fac-is = mul_value fa c k.sa (4 * k.α) (2 ^ 30) k.sc k.γ (2 ^ 30) (pow_pos 30) (pow_pos 30) (four_fits a k.sa k.α k.a_fits k.a_is (le_trans k.most_a (lit≤ tt))) k.c_fits fa-is k.c_is in
    let y_is = subst (λ (v : Float). HasValue (mul binary64 v a) k.sa (2 * k.α) (2 ^ 30)) (sym two_is)
    (subst (λ (s : Bool). HasValue (mul binary64 (fin false 1 (pos 1)) a) s (2 * k.α) (2 ^ 30)) (plain k.sa) (mul_value (fin false 1 (pos 1)) a false 2 1 k.sa k.α (2 ^ 30) (zero-lt-suc 0) (pow_pos 30) two_held k.a_fits (refl, refl) k.a_is)) in
    record {
      a_some = A;
      y_is = y_is;
      n_is = neg_value b k.sb k.β (2 ^ 30) k.b_is;
      n_fits = neg-fits binary64 b (fits_widens b k.b_fits);
      d_fits = sub-fits binary64 bb fac;
      d_is = added_sign (add binary64 bb (neg fac)) (k.β * k.β) k.sa k.sc k.α k.γ k.at_zero
          (add_near binary64 bb (neg fac) false (k.β * k.β) (not (unlike k.sa k.sc)) (4 * k.α * k.γ) 60 (lit≤ tt)
          (lt_of_le_of_lt (add-le-add (mul-le-mul k.most_b k.most_b) (mul-le-mul (mul-le-mul (le_refl 4) k.most_a) k.most_c)) (lit< tt))
          bb-is (neg_value fac (unlike k.sa k.sc) (4 * k.α * k.γ) (2 ^ 60) fac-is));
      end = k.at_end;
      half = k.falls;
      c_most = k.most_c;
      a_most = k.most_a;
      b_most = k.most_b;
    }

-- ---- the linear rule
abs_value : (x : Float) (s : Bool) (X L : ℕ) → HasValue x s X L → HasValue (abs_of x) false X L
unfolding abs_of
abs_value nan s X L h = h
abs_value (inf t) s X L h = h
abs_value (fin t m e) s X L h = (refl, h.1)

abs_fits : (f : Format) (x : Float) → T (fits f x) → T (fits f (abs_of x))
unfolding abs_of fits
abs_fits f nan h = h
abs_fits f (inf t) h = tt
abs_fits f (fin t zero e) h = h
abs_fits f (fin t (suc m) e) h = h

factor_fits : T (fits binary32 (fin false 1 (pos 20)))
unfolding fits
factor_fits = tt

dominated : (a b c : Float) (k : Coefficients a b c) → T (lt (mul binary64 dominance (abs_of a)) (abs_of b)) → 1048576 * k.α ≤ k.β
dominated a b c k l =
    let x = abs_of a in
    let h = fin false 1 (pos 20) in
    let x-is = abs_value a k.sa k.α (2 ^ 30) k.a_is in
    let i = value_finite x false k.α (2 ^ 30) x-is in
    let j : IsFinite dominance = unfold of_bits in tt in
    values_le (mul binary64 h x) (abs_of b) (1048576 * k.α) k.β (2 ^ 30) (pow_pos 30)
    (mul_value h x false 1048576 1 false k.α (2 ^ 30) (zero-lt-suc 0) (pow_pos 30) factor_fits (abs_fits binary32 a k.a_fits) (refl, refl) x-is)
    (abs_value b k.sb k.β (2 ^ 30) k.b_is)
    (Order.le_trans (mul binary64 h x) (mul binary64 dominance x) (abs_of b)
    (mul_mono_left binary64 h dominance x (from_zero x k.α x-is) (unfold le of_bits in tt) (mul_number binary64 h x tt i) (mul_number binary64 dominance x j i))
    (Order.le_of_lt (mul binary64 dominance x) (abs_of b) l))

small_a : (a b c : Float) (k : Coefficients a b c) → T (is_linear a b) → 1048576 * k.α ≤ k.β
unfolding is_linear
small_a a b c k l = elim (or_split (eq a (zero_of binary64)) (lt (mul binary64 dominance (abs_of a)) (abs_of b)) l) [
  | inl e ↦ none k.α k.β (zero_value a k.sa k.α (2 ^ 30) k.a_is e)
  | inr h ↦ dominated a b c k h
]
  where
    none : (α β : ℕ) → α ≡ 0 → 1048576 * α ≤ β
    none α β e = omega arith

-- −c is not positive
c_not_positive : (a b c : Float) (k : Coefficients a b c) → T (le (neg c) nought)
c_not_positive a b c k = le_values (neg c) nought (not k.sc) k.γ false 0 (2 ^ 30) (pow_pos 30) (neg_value c k.sc k.γ (2 ^ 30) k.c_is) (nought_value (2 ^ 30)) (go k.sc k.γ k.at_zero)
  where
    go : (s : Bool) (X : ℕ) → minus s X ≡ 0 → AtMost (not s) X false 0
    go true X e = omega arith
    go false X e = omega arith

pub linear : (a b c : Float) (k : Coefficients a b c) → T (is_linear a b) → inside (div binary64 (neg c) b) ≡ false
linear a b c k l = go k.sb k.b_is k.at_end k.falls
  where
    positive : (sc : Bool) (γ : ℕ) → 0 < γ → minus sc γ ≡ 0 → sc ≡ false
    positive true γ p z = absurd (lt_irrefl 0 (lt_of_lt_of_le p (le_of_eq z)))
    positive false γ p z = refl

    enough : (sa : Bool) (α β γ : ℕ) → 1048576 * α ≤ β → 65025 * minus sa α + 65280 * β ≤ 65025 * plus sa α + 65280 * 0 + 65536 * γ → 1981 * (β * 128) ≤ 2000 * (γ * 128)
    enough true α β γ h e = omega arith
    enough false α β γ h e = omega arith

    none : (β γ : ℕ) → γ ≡ 0 → β ≤ 2 * γ → β ≡ 0
    none β γ e h = omega arith

    go : (sb : Bool) → HasValue b sb k.β (2 ^ 30) → 65025 * minus k.sa k.α + 65280 * minus sb k.β ≤ 65025 * plus k.sa k.α + 65280 * plus sb k.β + 65536 * k.γ → minus sb k.β ≤ 2 * k.γ
        → inside (div binary64 (neg c) b) ≡ false
    go false h e f = quotient_low (neg c) b (c_not_positive a b c k) (from_zero b k.β h)
    go true h e f = elim (eq-zero-or-pos k.γ) [
      | inl z ↦ quotient_low (neg c) b (c_not_positive a b c k) (zero_from b true k.β h (none k.β k.γ z f))
      | inr q ↦
          let c' = neg (neg c) in
          let c_is = neg_value (neg c) true k.γ (2 ^ 30) (neg_value c false k.γ (2 ^ 30) (subst (λ (s : Bool). HasValue c s k.γ (2 ^ 30)) (positive k.sc k.γ q k.at_zero) k.c_is)) in
          turn (neg c) b
          (ratio_high c' (neg b) c' k.β (k.γ * 128) (neg_value b true k.β (2 ^ 30) h) (finer c' false k.γ 30 7 c_is) (mul-pos q (zero-lt-suc 127))
          (Order.le_refl c' (Order.finite_number c' (value_finite c' false k.γ (2 ^ 30) c_is))) (enough k.sa k.α k.β k.γ (small_a a b c k l) e))
    ]

-- ---- all of them
pub none_of : (p q r s : Bool) (x y z w : Float) → (T p → inside x ≡ false) → (T (not p) → T r → inside y ≡ false) → (T (not p) → T r → inside z ≡ false) → (T (not p) → T s → inside w ≡ false)
    → some inside (cond p (cond q [] (x ∷ [])) (cond r (y ∷ z ∷ []) (cond s (w ∷ []) []))) ≡ false
unfolding some
none_of true true r s x y z w f g h k = refl
none_of true false r s x y z w f g h k = ap (λ (t : Bool). t || false) (f tt)
none_of false q true s x y z w f g h k = λ i. g tt tt i || (h tt tt i || false)
none_of false q false true x y z w f g h k = ap (λ (t : Bool). t || false) (k tt tt)
none_of false q false false x y z w f g h k = refl

pub positive_a : (a b c : Float) (k : Coefficients a b c) → T (not (is_linear a b)) → 0 < k.α
unfolding is_linear
positive_a a b c k l = elim (eq-zero-or-pos k.α) [
  | inl e ↦ absurd (left (eq a (zero_of binary64)) (lt (mul binary64 dominance (abs_of a)) (abs_of b)) l (value_zero a k.sa k.α (2 ^ 30) (pow_pos 30) k.a_is e))
  | inr p ↦ p
]
  where
    left : (p q : Bool) → T (not (p || q)) → T p → ⊥
    left true q h k = h
    left false q h k = k

-- No root is inside.
pub roots_outside : (a b c : Float) → Coefficients a b c → some inside (roots_of a b c) ≡ false
unfolding roots_of linear_roots square_roots square_roots_by
roots_outside a b c k =
    let d = discriminant a b c in
    none_of (is_linear a b) (eq b (zero_of binary64)) (lt (zero_of binary64) d) (eq d (zero_of binary64)) (div binary64 (neg c) b) (upper_root a b (sqrt_of d)) (lower_root a b (sqrt_of d)) (div binary64 (neg b) (mul binary64 two a))
    (linear a b c k)
    (λ n l. upper a b d k.sa k.α k.sb k.β k.γ (pieces a b c k (positive_a a b c k n)) l)
    (λ n l. lower a b d k.sa k.α k.sb k.β k.γ (pieces a b c k (positive_a a b c k n)) l)
    (λ n l. only a b d k.sa k.α k.sb k.β k.γ (pieces a b c k (positive_a a b c k n)) l)
