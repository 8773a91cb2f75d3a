-- The same with every sign turned, but for the sign of a zero: sums, the coefficients, and the roots. Assumes nothing.
use Rattle.std.proofs.Common.{◌≡◌, ℕ, ◌+◌, ◌*◌, ◌^◌, ◌<◌, Bool, true, false, not, ◌||◌, T, ◌⊎◌, ℤ, pos, sym, refl, ap, ◌∙◌, subst, inl, inr, mul-pos, zero-mul, mul_right_comm, arith}
use native.Mathlib.Nat.{eq_of_mul-eq-mul_right}
use lib.Ieee.{Float, nan, inf, fin, Format, binary32, binary64, up, down, unlike, round, sum, add, sub, mul, div, neg, lt, eq, fits, of_bits}
use lib.Ieee.Fits.{down_pos, neg-fits, add-fits, sub-fits}
use lib.Ieee.Exact.{HasValue}
use Rattle.numbers.specs.Constants.{zero_of, two, four, dominance}
use Rattle.numbers.specs.Nearest.{sum_size, sum_sign}
use Rattle.numbers.specs.SquareRoot.{sqrt_of}
use Rattle.numbers.specs.EquationSolver.{is_linear, linear_roots, discriminant, upper_root, lower_root, square_roots_by, square_roots, roots_of}
use Rattle.numbers.proofs.Laws.Order as Order
use Rattle.numbers.proofs.Laws.Order.{plus, minus, AtMost, nought, IsFinite}
use Rattle.numbers.proofs.Laws.Monotone.{round_at_most, add_number, add_mono_left, mul_comm as times-comm, mul_neg}
use Rattle.numbers.proofs.floats.Differences.{summed, round_neg, of_level, zero_of_law}
use Rattle.numbers.proofs.floats.Held.{value_unique}
use Rattle.ground.specs.Lists.{some}
use Rattle.detectors.specs.Pairs.{inside}
use Rattle.detectors.specs.Diagonal.{quadratic_roots}
use Rattle.detectors.proofs.orders.Outside.{nan_outside, zero_outside, fin_low}
use Rattle.detectors.proofs.orders.Core.{Coefficients, disc_of, root_finite, turn, upper, lower, only, pieces, linear, none_of, positive_a}
use Rattle.detectors.proofs.orders.Pairs.{Sorted, coefficients, neg_finite, A_finite, B_finite, D_finite, u_finite, v_finite}

-- ---- sums
round_not : (f : Format) (w : Bool) (r c : ℕ) → round f (not w) r c ≡ neg (round f w r c)
round_not f true r c = sym (Order.neg_neg (round f false r c)) ∙ ap neg (sym (round_neg f r c))
round_not f false r c = round_neg f r c

-- The sum of the negatives equals the sum's negative.
pub add_neg : (f : Format) (x y : Float) → IsFinite x → IsFinite y → T (eq (add f (neg x) (neg y)) (neg (add f x y)))
unfolding neg add
add_neg f (fin s m e) (fin t n d) i j =
    let a = m * up e * down d in
    let b = n * up d * down e in
    let c = down e * down d in
    let C = mul-pos (down_pos e) (down_pos d) in
    let p = summed f s a t b c in
    let q = summed f (not s) a (not t) b c in
    let w = sum_sign s a t b in
    let r = sum_size s a t b in
    let w' = sum_sign (not s) a (not t) b in
    let r' = sum_size (not s) a (not t) b in
    let l = level w r w' r' s a t b c p.value q.value in
    subst (λ (z : Float). T (eq z (neg (sum f s a t b c)))) (sym q.is)
    (subst (λ (z : Float). T (eq (round f w' r' c) z)) (round_not f w r c ∙ ap neg (sym p.is))
    (Order.eq_of_le_le (round f w' r' c) (round f (not w) r c)
    (round_at_most f w' r' c (not w) r c C C l.0) (round_at_most f (not w) r c w' r' c C C l.1)))
  where
    flat : (s : Bool) (a : ℕ) → (plus (not s) a ≡ minus s a) × (minus (not s) a ≡ plus s a)
    flat true a = (refl, refl)
    flat false a = (refl, refl)

    level : (w : Bool) (r : ℕ) (w' : Bool) (r' : ℕ) (s : Bool) (a : ℕ) (t : Bool) (b c : ℕ) → plus w r + minus s a + minus t b ≡ minus w r + plus s a + plus t b → plus w' r' + minus (not s) a + minus (not t) b ≡ minus w' r' + plus (not s) a + plus (not t) b
        → AtMost w' (r' * c) (not w) (r * c) × AtMost (not w) (r * c) w' (r' * c)
    level w r w' r' s a t b c h k = go w w' (plus s a + plus t b) (minus s a + minus t b) (one (plus w r) (minus w r) (plus s a) (plus t b) (minus s a) (minus t b) h) (two (plus w' r') (minus w' r') (plus (not s) a) (plus (not t) b) (minus (not s) a) (minus (not t) b) (plus s a) (plus t b) (minus s a) (minus t b) (flat s a) (flat t b) k)
      where
        one : (p m x y z v : ℕ) → p + z + v ≡ m + x + y → p + (z + v) ≡ m + (x + y)
        one p m x y z v h = omega arith

        two : (p m x y z v x' y' z' v' : ℕ) → (x ≡ z') × (z ≡ x') → (y ≡ v') × (v ≡ y') → p + z + v ≡ m + x + y → p + (x' + y') ≡ m + (z' + v')
        two p m x y z v x' y' z' v' e g h = omega (arith, e.0, e.1, g.0, g.1)

        go : (w w' : Bool) (P M : ℕ) → plus w r + M ≡ minus w r + P → plus w' r' + P ≡ minus w' r' + M → AtMost w' (r' * c) (not w) (r * c) × AtMost (not w) (r * c) w' (r' * c)
        go true true P M h k = let e : r + r' ≡ 0 = omega arith in (omega (arith, ap (λ (x : ℕ). x * c) e), omega (arith, ap (λ (x : ℕ). x * c) e))
        go true false P M h k = let e : r ≡ r' = omega arith in (omega (arith, ap (λ (x : ℕ). x * c) e), omega (arith, ap (λ (x : ℕ). x * c) e))
        go false true P M h k = let e : r ≡ r' = omega arith in (omega (arith, ap (λ (x : ℕ). x * c) e), omega (arith, ap (λ (x : ℕ). x * c) e))
        go false false P M h k = let e : r + r' ≡ 0 = omega arith in (omega (arith, ap (λ (x : ℕ). x * c) e), omega (arith, ap (λ (x : ℕ). x * c) e))
add_neg f nan y i j = elim i [ ]
add_neg f (inf _) y i j = elim i [ ]
add_neg f (fin s m e) nan i j = elim j [ ]
add_neg f (fin s m e) (inf _) i j = elim j [ ]

eq_finite : (x y : Float) → IsFinite x → T (eq x y) → IsFinite y
unfolding eq
eq_finite (fin s m e) nan i h = h
eq_finite (fin s m e) (inf t) i h = h
eq_finite (fin s m e) (fin t n d) i h = tt
eq_finite nan y i h = elim i [ ]
eq_finite (inf _) y i h = elim i [ ]

neg_finite_back : (x : Float) → IsFinite (neg x) → IsFinite x
unfolding neg
neg_finite_back nan h = h
neg_finite_back (inf s) h = h
neg_finite_back (fin s m e) h = tt

-- Equal values give equal sums.
pub add_alike : (f : Format) (x x' y : Float) → IsFinite x → IsFinite x' → IsFinite y → T (eq x x') → T (eq (add f x y) (add f x' y))
add_alike f x x' y i i' j h =
    let m = add_number f x y i j in
    let n = add_number f x' y i' j in
    Order.eq_of_le_le (add f x y) (add f x' y) (add_mono_left f x x' y (Order.le_of_eq x x' h) m n) (add_mono_left f x' x y (Order.ge_of_eq x x' h) n m)

-- ---- equal values are the same, or zeros
sizes : (s : Bool) (a : ℕ) (t : Bool) (b : ℕ) → plus s a + minus t b ≡ plus t b + minus s a → (a ≡ b) × ((s ≡ t) ⊎ (a ≡ 0))
sizes true a true b h = (omega arith, inl refl)
sizes false a false b h = (omega arith, inl refl)
sizes true a false b h = (omega arith, inr (omega arith))
sizes false a true b h = (omega arith, inr (omega arith))

pub record Alike (y : Float) (s : Bool) (X L : ℕ) : Type 0 where
  pub t : Bool
  pub value : HasValue y t X L
  pub more : plus t X ≡ plus s X
  pub less : minus t X ≡ minus s X

alike_value : (x y : Float) (s : Bool) (X L : ℕ) → HasValue x s X L → T (eq x y) → Alike y s X L
unfolding eq
alike_value nan y s X L v h = absurd v
alike_value (inf u) y s X L v h = absurd v
alike_value (fin u m e) nan s X L v h = absurd h
alike_value (fin u m e) (inf t) s X L v h = absurd h
alike_value (fin u m e) (fin t n d) s X L v h =
    let q = sizes u (m * up e * down d) t (n * up d * down e) (of_level u (m * up e * down d) t (n * up d * down e) h) in
    let k : n * up d * L ≡ X * down d = eq_of_mul-eq-mul_right (down e) (down_pos e) (n * up d * L) (X * down d) (go (m * up e) (down e) (n * up d) (down d) v.1 q.0) in
    elim q.1 [
      | inl w ↦ record { t = t; value = (refl, k); more = ap (λ (b : Bool). plus b X) (sym w ∙ v.0); less = ap (λ (b : Bool). minus b X) (sym w ∙ v.0) }
      | inr z ↦
          let X0 : X ≡ 0 = none X (m * up e) (down e) (down d) (down_pos e) (down_pos d) v.1 z in
          record { t = t; value = (refl, k); more = ap (plus t) X0 ∙ flat t s ∙ ap (plus s) (sym X0); less = ap (minus t) X0 ∙ flat' t s ∙ ap (minus s) (sym X0) }
    ]
  where
    go : (a c b d : ℕ) → a * L ≡ X * c → a * d ≡ b * c → b * L * c ≡ X * d * c
    go a c b d e g = mul_right_comm b L c ∙ ap (λ (z : ℕ). z * L) (sym g) ∙ mul_right_comm a d L ∙ ap (λ (z : ℕ). z * d) e ∙ mul_right_comm X c d

    none : (X a c d : ℕ) → 0 < c → 0 < d → a * L ≡ X * c → a * d ≡ 0 → X ≡ 0
    none X a c d C D e z = zero_of_law X c C (sym e ∙ ap (λ (k : ℕ). k * L) (zero_of_law a d D z) ∙ zero-mul L)

    flat : (t s : Bool) → plus t 0 ≡ plus s 0
    flat true true = refl
    flat true false = refl
    flat false true = refl
    flat false false = refl

    flat' : (t s : Bool) → minus t 0 ≡ minus s 0
    flat' true true = refl
    flat' true false = refl
    flat' false true = refl
    flat' false false = refl

-- A quotient of an equal value is outside too.
quotient_alike : (x y w : Float) → T (fits binary64 x) → T (fits binary64 y) → T (eq x y) → inside (div binary64 x w) ≡ false → inside (div binary64 y w) ≡ false
unfolding eq
quotient_alike nan y w f g h o = absurd h
quotient_alike (inf s) nan w f g h o = absurd h
quotient_alike (inf s) (fin t n d) w f g h o = absurd h
quotient_alike (inf true) (inf true) w f g h o = o
quotient_alike (inf true) (inf false) w f g h o = absurd h
quotient_alike (inf false) (inf true) w f g h o = absurd h
quotient_alike (inf false) (inf false) w f g h o = o
quotient_alike (fin s m e) nan w f g h o = absurd h
quotient_alike (fin s m e) (inf t) w f g h o = absurd h
quotient_alike (fin s m e) (fin t n d) w f g h o =
    let q = sizes s (m * up e * down d) t (n * up d * down e) (of_level s (m * up e * down d) t (n * up d * down e) h) in
    elim q.1 [
      | inl k ↦ subst (λ (z : Float). inside (div binary64 z w) ≡ false) (value_unique binary64 (fin s m e) (fin t n d) s (m * up e) (down e) (down_pos e) f g (refl, refl) (sym k, sym q.0)) o
      | inr z ↦ none t n d w (zero_of_law (n * up d) (down e) (down_pos e) (sym q.0 ∙ z))
    ]
  where
    none : (t : Bool) (n : ℕ) (d : ℤ) (w : Float) → n * up d ≡ 0 → inside (div binary64 (fin t n d) w) ≡ false
    none t n d nan z = unfold div in nan_outside
    none t n d (inf v) z = unfold div in zero_outside (unlike t v)
    none t n d (fin v k g) z = fin_low t n d v k g (λ p. nothing (unlike t v) (n * up d * down g) (ap (λ (x : ℕ). x * down g) z ∙ zero-mul (down g)))
      where
        nothing : (b : Bool) (a : ℕ) → a ≡ 0 → AtMost b a false 0
        nothing true a e = omega arith
        nothing false a e = omega arith

-- ---- coefficients
pub coefficients_alike : (a b c a' b' : Float) → Coefficients a b c → T (eq a a') → T (eq b b') → T (fits binary32 a') → T (fits binary32 b') → Coefficients a' b' c
coefficients_alike a b c a' b' k ea eb fa fb =
    let p = alike_value a a' k.sa k.α (2 ^ 30) k.a_is ea in
    let q = alike_value b b' k.sb k.β (2 ^ 30) k.b_is eb in
    record {
      sa = p.t;
      α = k.α;
      sb = q.t;
      β = k.β;
      sc = k.sc;
      γ = k.γ;
      a_fits = fa;
      b_fits = fb;
      c_fits = k.c_fits;
      a_is = p.value;
      b_is = q.value;
      c_is = k.c_is;
      at_zero = k.at_zero;
      at_end = omega (arith, k.at_end, p.more, p.less, q.more, q.less);
      falls = omega (arith, k.falls, q.less);
      most_a = k.most_a;
      most_b = k.most_b;
      most_c = k.most_c;
    }

-- ---- the formula
mul_neg_neg : (f : Format) (x y : Float) → mul f (neg x) (neg y) ≡ mul f x y
mul_neg_neg f x y = mul_neg f (neg x) y ∙ ap neg (times-comm f (neg x) y ∙ mul_neg f y x) ∙ Order.neg_neg (mul f y x) ∙ times-comm f y x

disc_neg : (a b c : Float) → discriminant (neg a) (neg b) (neg c) ≡ discriminant a b c
unfolding discriminant
disc_neg a b c = λ i. sub binary64 (mul_neg_neg binary64 b b i) ((ap (λ (z : Float). mul binary64 z (neg c)) (mul_neg binary64 four a) ∙ mul_neg_neg binary64 (mul binary64 four a) c) i)

same_test : (x y : Bool) → (T x → T y) → (T y → T x) → x ≡ y
same_test true true h k = refl
same_test true false h k = absurd (h tt)
same_test false true h k = absurd (k tt)
same_test false false h k = refl

zero_neg : (x : Float) → T (eq x nought) → T (eq (neg x) nought)
zero_neg x h =
    let n = neg nought in
    let z : T (eq n nought) = unfold neg in Order.eq_zeros true (pos 0) false (pos 0) in
    Order.eq_of_le_le (neg x) nought (Order.le_trans (neg x) n nought (Order.le_neg nought x (Order.ge_of_eq x nought h)) (Order.le_of_eq n nought z)) (Order.le_trans nought n (neg x) (Order.ge_of_eq n nought z) (Order.le_neg x nought (Order.le_of_eq x nought h)))

linear_neg : (a b : Float) → is_linear (neg a) (neg b) ≡ is_linear a b
unfolding is_linear of_bits
linear_neg a b = λ i. same_test (eq (neg a) nought) (eq a nought) (λ h. subst (λ (z : Float). T (eq z nought)) (Order.neg_neg a) (zero_neg (neg a) h)) (zero_neg a) i || lt (mul binary64 dominance (Order.abs_neg a i)) (Order.abs_neg b i)

-- ---- the roots
module _ (a b c : Float) (k : Coefficients (neg a) (neg b) (neg c)) where
  abbrev d : Float
  d = discriminant a b c

  abbrev d' : Float
  d' = discriminant (neg a) (neg b) (neg c)

  n_finite : IsFinite (neg b)
  n_finite = finite_of (neg b) k.sb k.β k.b_is
    where
      finite_of : (x : Float) (s : Bool) (X : ℕ) → HasValue x s X (2 ^ 30) → IsFinite x
      finite_of nan s X h = h
      finite_of (inf t) s X h = h
      finite_of (fin t m e) s X h = tt

  linear_at_law : T (is_linear a b) → T (is_linear (neg a) (neg b))
  linear_at_law h = subst T (sym (linear_neg a b)) h

  not_linear_at : T (not (is_linear a b)) → T (not (is_linear (neg a) (neg b)))
  not_linear_at h = subst (λ (t : Bool). T (not t)) (sym (linear_neg a b)) h

  above_at : T (lt (zero_of binary64) d) → T (lt (zero_of binary64) d')
  above_at h = subst (λ (z : Float). T (lt (zero_of binary64) z)) (sym (disc_neg a b c)) h

  root_at_law : 0 < k.α → T (lt (zero_of binary64) d) → IsFinite (sqrt_of d)
  root_at_law p l =
      let q = pieces (neg a) (neg b) (neg c) k p in
      subst (λ (z : Float). IsFinite (sqrt_of z)) (disc_neg a b c)
      (root_finite d' (k.β * k.β) (not k.sa) (4 * k.α * k.γ) (disc_of d' (k.β * k.β) (not k.sa) (4 * k.α * k.γ) q.d_is q.d_fits (above_at l)))

  y_is : mul binary64 two (neg a) ≡ neg (mul binary64 two a)
  y_is = mul_neg binary64 two a

  upper_at : T (not (is_linear a b)) → T (lt (zero_of binary64) d) → inside (upper_root a b (sqrt_of d)) ≡ false
  unfolding upper_root lower_root sub
  upper_at n l =
      let p = positive_a (neg a) (neg b) (neg c) k (not_linear_at n) in
      let s = sqrt_of d in
      let i = root_at_law p l in
      let x = add binary64 (neg b) s in
      let y = mul binary64 two a in
      let x' = add binary64 (neg (neg b)) (neg s) in
      let o : inside (lower_root (neg a) (neg b) s) ≡ false = subst (λ (z : Float). inside (lower_root (neg a) (neg b) (sqrt_of z)) ≡ false) (disc_neg a b c) (lower (neg a) (neg b) d' k.sa k.α k.sb k.β k.γ (pieces (neg a) (neg b) (neg c) k p) (above_at l)) in
      let o' : inside (div binary64 x' (neg y)) ≡ false = subst (λ (z : Float). inside (div binary64 x' z) ≡ false) y_is o in
      let e = add_neg binary64 (neg b) s n_finite i in
      turn x y (quotient_alike x' (neg x) (neg y) (add-fits binary64 (neg (neg b)) (neg s)) (neg-fits binary64 x (add-fits binary64 (neg b) s)) e o')

  lower_at : T (not (is_linear a b)) → T (lt (zero_of binary64) d) → inside (lower_root a b (sqrt_of d)) ≡ false
  unfolding upper_root lower_root sub
  lower_at n l =
      let p = positive_a (neg a) (neg b) (neg c) k (not_linear_at n) in
      let s = sqrt_of d in
      let i = root_at_law p l in
      let x = add binary64 (neg b) (neg s) in
      let y = mul binary64 two a in
      let x' = add binary64 (neg (neg b)) s in
      let o : inside (upper_root (neg a) (neg b) s) ≡ false = subst (λ (z : Float). inside (upper_root (neg a) (neg b) (sqrt_of z)) ≡ false) (disc_neg a b c) (upper (neg a) (neg b) d' k.sa k.α k.sb k.β k.γ (pieces (neg a) (neg b) (neg c) k p) (above_at l)) in
      let o' : inside (div binary64 x' (neg y)) ≡ false = subst (λ (z : Float). inside (div binary64 x' z) ≡ false) y_is o in
      let e : T (eq x' (neg x)) = subst (λ (z : Float). T (eq (add binary64 (neg (neg b)) z) (neg x))) (Order.neg_neg s) (add_neg binary64 (neg b) (neg s) n_finite (neg_finite s i)) in
      turn x y (quotient_alike x' (neg x) (neg y) (add-fits binary64 (neg (neg b)) s) (neg-fits binary64 x (add-fits binary64 (neg b) (neg s))) e o')

  only_at : T (not (is_linear a b)) → T (eq d (zero_of binary64)) → inside (div binary64 (neg b) (mul binary64 two a)) ≡ false
  only_at n l =
      let p = positive_a (neg a) (neg b) (neg c) k (not_linear_at n) in
      turn (neg b) (mul binary64 two a)
      (subst (λ (z : Float). inside (div binary64 (neg (neg b)) z) ≡ false) y_is
      (only (neg a) (neg b) d' k.sa k.α k.sb k.β k.γ (pieces (neg a) (neg b) (neg c) k p) (subst (λ (z : Float). T (eq z (zero_of binary64))) (sym (disc_neg a b c)) l)))

  -- No root is inside, of the negatives of such coefficients.
  roots_outside_neg : some inside (roots_of a b c) ≡ false
  roots_outside_neg =
      unfold roots_of linear_roots square_roots square_roots_by in
      none_of (is_linear a b) (eq b (zero_of binary64)) (lt (zero_of binary64) d) (eq d (zero_of binary64)) (div binary64 (neg c) b) (upper_root a b (sqrt_of d)) (lower_root a b (sqrt_of d)) (div binary64 (neg b) (mul binary64 two a))
      (λ l. turn (neg c) b (linear (neg a) (neg b) (neg c) k (linear_at_law l))) upper_at lower_at only_at

-- ---- the coefficients of the negatives
module _ (A B D : Float) (h : Sorted (neg A) (neg B) (neg D)) where
  A_finite' : IsFinite A
  A_finite' = neg_finite_back A (A_finite (neg A) (neg B) (neg D) h)

  B_finite' : IsFinite B
  B_finite' = neg_finite_back B (B_finite (neg A) (neg B) (neg D) h)

  D_finite' : IsFinite D
  D_finite' = neg_finite_back D (D_finite (neg A) (neg B) (neg D) h)

  -- −x + y and −(x − y)
  sub_neg : (x y : Float) → IsFinite x → IsFinite y → T (eq (sub binary32 (neg x) (neg y)) (neg (sub binary32 x y)))
  sub_neg x y i j = unfold sub in add_neg binary32 x (neg y) i (neg_finite y j)

  abbrev u' : Float
  u' = sub binary32 D B

  abbrev v' : Float
  v' = sub binary32 B A

  u'_finite : IsFinite u'
  u'_finite = neg_finite_back u' (eq_finite (sub binary32 (neg D) (neg B)) (neg u') (u_finite (neg A) (neg B) (neg D) h) (sub_neg D B D_finite' B_finite'))

  v'_finite : IsFinite v'
  v'_finite = neg_finite_back v' (eq_finite (sub binary32 (neg B) (neg A)) (neg v') (v_finite (neg A) (neg B) (neg D) h) (sub_neg B A B_finite' A_finite'))

  a_alike : T (eq (add binary32 (sub binary32 (neg D) (neg B)) (neg A)) (neg (add binary32 u' A)))
  a_alike =
      Order.eq_trans (add binary32 (sub binary32 (neg D) (neg B)) (neg A)) (add binary32 (neg u') (neg A)) (neg (add binary32 u' A))
      (add_alike binary32 (sub binary32 (neg D) (neg B)) (neg u') (neg A) (u_finite (neg A) (neg B) (neg D) h) (neg_finite u' u'_finite) (neg_finite A A_finite') (sub_neg D B D_finite' B_finite'))
      (add_neg binary32 u' A u'_finite A_finite')

  b_alike : T (eq (sub binary32 (sub binary32 (neg B) (neg A)) (neg A)) (neg (sub binary32 v' A)))
  b_alike =
      Order.eq_trans (sub binary32 (sub binary32 (neg B) (neg A)) (neg A)) (sub binary32 (neg v') (neg A)) (neg (sub binary32 v' A))
      (sub_alike (sub binary32 (neg B) (neg A)) (neg v') (neg A) (v_finite (neg A) (neg B) (neg D) h) (neg_finite v' v'_finite) (neg_finite A A_finite') (sub_neg B A B_finite' A_finite'))
      (sub_neg v' A v'_finite A_finite')
    where
      sub_alike : (x x' y : Float) → IsFinite x → IsFinite x' → IsFinite y → T (eq x x') → T (eq (sub binary32 x y) (sub binary32 x' y))
      sub_alike x x' y i i' j e = unfold sub in add_alike binary32 x x' (neg y) i i' (neg_finite y j) e

  coefficients_neg : Coefficients (neg (add binary32 u' A)) (neg (sub binary32 v' A)) (neg A)
  coefficients_neg =
      coefficients_alike (add binary32 (sub binary32 (neg D) (neg B)) (neg A)) (sub binary32 (sub binary32 (neg B) (neg A)) (neg A)) (neg A) (neg (add binary32 u' A)) (neg (sub binary32 v' A))
      (coefficients (neg A) (neg B) (neg D) h) a_alike b_alike (neg-fits binary32 (add binary32 u' A) (add-fits binary32 u' A)) (neg-fits binary32 (sub binary32 v' A) (sub-fits binary32 v' A))

-- (Q') Of three differences that are not positive, of the same sizes, no root is inside.
pub quadratic_outside_neg : (A B D : Float) → Sorted (neg A) (neg B) (neg D) → some inside (quadratic_roots A B D) ≡ false
unfolding quadratic_roots
quadratic_outside_neg A B D h = roots_outside_neg (add binary32 (sub binary32 D B) A) (sub binary32 (sub binary32 B A) A) A (coefficients_neg A B D h)
