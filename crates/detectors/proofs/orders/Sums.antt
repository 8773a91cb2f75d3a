-- Sums of values that are whole numbers of units. Assumes nothing.
use Rattle.std.proofs.Common.{◌≡◌, ℕ, ◌+◌, ◌-◌, ◌*◌, ◌^◌, ◌<◌, ◌≤◌, Bool, true, false, cond, not, T, ltb, sym, refl, ap, ◌∙◌, subst, le_trans, le_of_eq, lt_of_lt_of_le, lt_of_le_of_lt, mul-le-mul_right, mul_assoc, mul_comm, lt_of_mul-lt-mul_right, mul-lt-mul_of_pos_right, mul-pos, mul_right_comm, le_of_mul-le-mul_right, arith, ltb→lt, lt→ltb, nltb→le, pow_pos}
use lib.Ieee.{Float, nan, inf, fin, Format, prec, emax, low, up, down, round, sum, add, neg}
use lib.Ieee.Fits.{down_pos}
use lib.Ieee.Exact.{HasValue}
use lib.Ieee.Scale.{round_same}
use Rattle.numbers.proofs.Laws.Order.{plus, minus}
use Rattle.numbers.specs.Nearest.{sum_size, sum_sign}
use Rattle.numbers.proofs.floats.Differences.{summed, sum_size_law}
use Rattle.detectors.proofs.orders.Near.{Near, near}

same_test : (x y : Bool) → (T x → T y) → (T y → T x) → x ≡ y
same_test true true h k = refl
same_test true false h k = absurd (h tt)
same_test false true h k = absurd (k tt)
same_test false false h k = refl

-- a / c and b / c are X / L and Y / L
sum_scale : (f : Format) (s : Bool) (a : ℕ) (t : Bool) (b c X Y L : ℕ) → 0 < c → 0 < L → a * L ≡ X * c → b * L ≡ Y * c → sum f s a t b c ≡ sum f s X t Y L
unfolding sum
sum_scale f s a t b c X Y L C P e g = go s t
  where
    less : (a b X Y : ℕ) → a * L ≡ X * c → b * L ≡ Y * c → ltb a b ≡ ltb X Y
    less a b X Y e g = same_test (ltb a b) (ltb X Y)
        (λ h. lt→ltb X Y (lt_of_mul-lt-mul_right c (lt_of_le_of_lt (le_of_eq (sym e)) (lt_of_lt_of_le (mul-lt-mul_of_pos_right (ltb→lt a b h) P) (le_of_eq g)))))
        (λ h. lt→ltb a b (lt_of_mul-lt-mul_right L (lt_of_le_of_lt (le_of_eq e) (lt_of_lt_of_le (mul-lt-mul_of_pos_right (ltb→lt X Y h) C) (le_of_eq (sym g))))))

    total : (a b X Y c L : ℕ) → a * L ≡ X * c → b * L ≡ Y * c → (a + b) * L ≡ (X + Y) * c
    total a b X Y c L e g = omega arith

    open_up : (a b c x : ℕ) → a ≤ b → (b - a) * x + a * x ≡ b * x
    open_up a b c x h = sym (mul_add (b - a) a x) ∙ ap (λ (z : ℕ). z * x) (diff a b h)
      where
        mul_add : (p q x : ℕ) → (p + q) * x ≡ p * x + q * x
        mul_add p q x = omega arith

        diff : (a b : ℕ) → a ≤ b → b - a + a ≡ b
        diff a b h = omega arith

    rest : (a b X Y c L : ℕ) → a * L ≡ X * c → b * L ≡ Y * c → a ≤ b → X ≤ Y → (b - a) * L ≡ (Y - X) * c
    rest a b X Y c L e g h k = omega (arith, open_up a b c L h, open_up X Y L c k)

    le_of : (a b X Y : ℕ) → a * L ≡ X * c → b * L ≡ Y * c → a ≤ b → X ≤ Y
    le_of a b X Y e g h = le_of_mul-le-mul_right (le_trans (le_of_eq (sym e)) (le_trans (mul-le-mul_right L h) (le_of_eq g))) C

    both : (s : Bool) → round f s (a + b) c ≡ round f s (X + Y) L
    both s = round_same f s (a + b) c (X + Y) L C P (total a b X Y c L e g)

    up_to : (x : Bool) → (T x → a < b) → (T (not x) → b ≤ a) → (s t : Bool) → cond x (round f t (b - a) c) (round f s (a - b) c) ≡ cond x (round f t (Y - X) L) (round f s (X - Y) L)
    up_to true h k s t = let l : a ≤ b = weak (h tt) in round_same f t (b - a) c (Y - X) L C P (rest a b X Y c L e g l (le_of a b X Y e g l))
      where
        weak : a < b → a ≤ b
        weak h = omega arith
    up_to false h k s t = let l : b ≤ a = k tt in round_same f s (a - b) c (X - Y) L C P (rest b a Y X c L g e l (le_of b a Y X g e l))

    go : (s t : Bool) → sum f s a t b c ≡ sum f s X t Y L
    go true true = both true
    go false false = both false
    go true false = up_to (ltb a b) (ltb→lt a b) (nltb→le a b) (ltb b a) false ∙ (λ i. cond (less a b X Y e g i) (round f false (Y - X) L) (round f (less b a Y X g e i) (X - Y) L))
    go false true = up_to (ltb a b) (ltb→lt a b) (nltb→le a b) false true ∙ (λ i. cond (less a b X Y e g i) (round f true (Y - X) L) (round f false (X - Y) L))

-- the sum of ±X / L and ±Y / L
pub add_at : (f : Format) (x y : Float) (s : Bool) (X : ℕ) (t : Bool) (Y L : ℕ) → 0 < L → HasValue x s X L → HasValue y t Y L → add f x y ≡ sum f s X t Y L
unfolding add
add_at f nan y s X t Y L P h k = absurd h
add_at f (inf u) y s X t Y L P h k = absurd h
add_at f (fin u m e) nan s X t Y L P h k = absurd k
add_at f (fin u m e) (inf v) s X t Y L P h k = absurd k
add_at f (fin u m e) (fin v n d) s X t Y L P h k =
    (λ i. sum f (h.0 i) (m * up e * down d) (k.0 i) (n * up d * down e) (down e * down d))
    ∙ sum_scale f s (m * up e * down d) t (n * up d * down e) (down e * down d) X Y L (mul-pos (down_pos e) (down_pos d)) P (one (m * up e) (down e) (down d) X L h.1) (two (n * up d) (down e) (down d) Y L k.1)
  where
    one : (a c g X L : ℕ) → a * L ≡ X * c → a * g * L ≡ X * (c * g)
    one a c g X L h = mul_right_comm a g L ∙ ap (λ (z : ℕ). z * g) h ∙ mul_assoc X c g

    two : (b c g Y L : ℕ) → b * L ≡ Y * g → b * c * L ≡ Y * (c * g)
    two b c g Y L h = mul_right_comm b c L ∙ ap (λ (z : ℕ). z * c) h ∙ mul_assoc Y g c ∙ ap (λ (z : ℕ). Y * z) (mul_comm g c)

pub record Added (f : Format) (z : Float) (s : Bool) (X : ℕ) (t : Bool) (Y j : ℕ) : Type 0 where
  pub sign : Bool
  pub size : ℕ
  pub sums : plus sign size + minus s X + minus t Y ≡ minus sign size + plus s X + plus t Y
  pub most : size ≤ X + Y
  pub is : Near f z sign j size

pub add_near : (f : Format) (x y : Float) (s : Bool) (X : ℕ) (t : Bool) (Y j : ℕ) → j ≤ low f → X + Y < 2 ^ (emax f + j) → HasValue x s X (2 ^ j) → HasValue y t Y (2 ^ j) → Added f (add f x y) s X t Y j
add_near f x y s X t Y j J E h k =
    let r = summed f s X t Y (2 ^ j) in
    let m = sum_size_law s X t Y in
    let w = sum_sign s X t Y in
    let N = sum_size s X t Y in
    record {
      sign = w;
      size = N;
      sums = r.value;
      most = m;
      is = subst (λ (z : Float). Near f z w j N) (sym (add_at f x y s X t Y (2 ^ j) (pow_pos j) h k ∙ r.is)) (near f w j N J (lt_of_le_of_lt m E));
    }

-- a sum that is known, of less than 2 ^ prec units
pub add_known : (f : Format) (x y : Float) (s : Bool) (X : ℕ) (t : Bool) (Y j : ℕ) (u : Bool) (Z : ℕ) → j ≤ low f → X + Y < 2 ^ (emax f + j) → HasValue x s X (2 ^ j) → HasValue y t Y (2 ^ j)
    → 0 < Z → Z < 2 ^ prec f → plus u Z + minus s X + minus t Y ≡ minus u Z + plus s X + plus t Y → HasValue (add f x y) u Z (2 ^ j)
add_known f x y s X t Y j u Z J E h k P F e =
    let r = add_near f x y s X t Y j J E h k in
    let q = pair r.sign r.size u Z (minus s X + minus t Y) (plus s X + plus t Y) P (shape (plus r.sign r.size) (minus r.sign r.size) (minus s X) (minus t Y) (plus s X) (plus t Y) r.sums) (shape (plus u Z) (minus u Z) (minus s X) (minus t Y) (plus s X) (plus t Y) e) in
    let l : r.size < 2 ^ prec f = subst (λ (n : ℕ). n < 2 ^ prec f) (sym q.1) F in
    subst (λ (b : Bool). HasValue (add f x y) b Z (2 ^ j)) q.0 (subst (λ (n : ℕ). HasValue (add f x y) r.sign n (2 ^ j)) (r.is.exact l ∙ q.1) r.is.value)
  where
    shape : (p m a b c d : ℕ) → p + a + b ≡ m + c + d → p + (a + b) ≡ m + (c + d)
    shape p m a b c d h = omega arith

    pair : (w : Bool) (N : ℕ) (u : Bool) (Z M P : ℕ) → 0 < Z → plus w N + M ≡ minus w N + P → plus u Z + M ≡ minus u Z + P → (w ≡ u) × (N ≡ Z)
    pair true N true Z M P p h k = (refl, omega arith)
    pair false N false Z M P p h k = (refl, omega arith)
    pair true N false Z M P p h k = absurd (no N Z M P p h k)
      where
        no : (N Z M P : ℕ) → 0 < Z → 0 + M ≡ N + P → Z + M ≡ 0 + P → ⊥
        no N Z M P p h k = omega arith
    pair false N true Z M P p h k = absurd (no N Z M P p h k)
      where
        no : (N Z M P : ℕ) → 0 < Z → N + M ≡ 0 + P → 0 + M ≡ Z + P → ⊥
        no N Z M P p h k = omega arith

pub neg_value : (x : Float) (s : Bool) (X L : ℕ) → HasValue x s X L → HasValue (neg x) (not s) X L
unfolding neg
neg_value nan s X L h = h
neg_value (inf t) s X L h = h
neg_value (fin t m e) s X L h = (ap not h.0, h.1)

-- a finer unit
pub finer : (x : Float) (s : Bool) (X j i : ℕ) → HasValue x s X (2 ^ j) → HasValue x s (X * 2 ^ i) (2 ^ j * 2 ^ i)
finer nan s X j i h = h
finer (inf t) s X j i h = h
finer (fin t m e) s X j i h = (h.0, sym (mul_assoc (m * up e) (2 ^ j) (2 ^ i)) ∙ ap (λ (z : ℕ). z * 2 ^ i) h.1 ∙ mul_right_comm X (down e) (2 ^ i))
