-- Bounds on a square root from bounds on squares, and products of whole numbers of units. Assumes nothing.
use Rattle.std.proofs.Common.{◌≡◌, ℕ, zero, suc, ◌+◌, ◌*◌, ◌^◌, ◌<◌, ◌≤◌, Bool, true, false, T, ℤ, pos, sym, refl, ap, ◌∙◌, subst, inl, inr, true≢false, le_trans, le_of_eq, lt_of_lt_of_le, lt_of_le_of_lt, lt_irrefl, mul-le-mul_right, mul_assoc, mul-le-mul, lt_of_mul-lt-mul_right, mul-lt-mul_of_pos_right, mul-pos, one-mul, zero-mul, mul_right_comm, not-le_of_lt, arith, lit<, pow-add}
use native.Mathlib.Nat.{mul-mul-mul_comm}
use lib.Ieee.{Float, nan, inf, fin, binary32, binary64, up, down, unlike, round, mul, le, fits, of_bits}
use lib.Ieee.Fits.{down_pos, round-fits, mul-fits, fits_widens}
use lib.Ieee.Exact.{HasValue, round_exact}
use Rattle.numbers.specs.SquareRoot.{sqrt_of, NearestRoot, MidpointAbove, MidpointBelow}
use Rattle.numbers.proofs.Laws.Order as Order
use Rattle.numbers.proofs.Laws.SquareRoot.{root_nearest}
use Rattle.numbers.proofs.Laws.Exact.{mul_exact, rescale}
use Rattle.numbers.proofs.floats.Compared.{le_or_lt}
use Rattle.numbers.specs.Constants.{two, four}
use Rattle.numbers.proofs.floats.Held.{held, counted, value_unique}

-- ---- fractions: n / c is the root, q / d another value, num / den the square
below_squares : (n c q d num den : ℕ) → 0 < c → q * c < n * d → MidpointBelow n c q d num den → q * q * den < num * (d * d)
below_squares n c q d num den C l h =
    lt_of_mul-lt-mul_right (c * c * 4)
    (lt_of_le_of_lt (le_of_eq (one q c den))
    (lt_of_le_of_lt (mul-le-mul_right den (mul-le-mul t t)) (lt_of_lt_of_le h (le_of_eq (two num c d)))))
  where
    t : 2 * (q * c) ≤ n * d + q * c
    t = omega arith

    one : (q c den : ℕ) → q * q * den * (c * c * 4) ≡ 2 * (q * c) * (2 * (q * c)) * den
    one q c den = omega arith

    two : (num c d : ℕ) → 4 * num * ((c * d) * (c * d)) ≡ num * (d * d) * (c * c * 4)
    two num c d = omega arith

above_squares : (n c q d num den : ℕ) → 0 < c → n * d < q * c → MidpointAbove n c q d num den → num * (d * d) < q * q * den
above_squares n c q d num den C l h =
    lt_of_mul-lt-mul_right (c * c * 4)
    (lt_of_le_of_lt (le_of_eq (sym (two num c d)))
    (lt_of_lt_of_le h (le_trans (mul-le-mul_right den (mul-le-mul t t)) (le_of_eq (sym (one q c den))))))
  where
    t : n * d + q * c ≤ 2 * (q * c)
    t = omega arith

    one : (q c den : ℕ) → q * q * den * (c * c * 4) ≡ 2 * (q * c) * (2 * (q * c)) * den
    one q c den = omega arith

    two : (num c d : ℕ) → 4 * num * ((c * d) * (c * d)) ≡ num * (d * d) * (c * c * 4)
    two num c d = omega arith

-- q / d is W / L, num / den is R / M: the order of their squares
cross : (q d num den W R L M : ℕ) → q * L ≡ W * d → num * M ≡ R * den → (q * q * den * (L * L * M) ≡ W * W * M * (d * d * den)) × (num * (d * d) * (L * L * M) ≡ R * (L * L) * (d * d * den))
cross q d num den W R L M e g = (
  one q den L M ∙ ap (λ (x : ℕ). x * x * (den * M)) e ∙ two W d den M,
  three num d L M ∙ ap (λ (x : ℕ). x * (d * d * (L * L))) g ∙ four R den d L,
)
  where
    one : (q den L M : ℕ) → q * q * den * (L * L * M) ≡ q * L * (q * L) * (den * M)
    one q den L M = omega arith

    two : (W d den M : ℕ) → W * d * (W * d) * (den * M) ≡ W * W * M * (d * d * den)
    two W d den M = omega arith

    three : (num d L M : ℕ) → num * (d * d) * (L * L * M) ≡ num * M * (d * d * (L * L))
    three num d L M = omega arith

    four : (R den d L : ℕ) → R * den * (d * d * (L * L)) ≡ R * (L * L) * (d * d * den)
    four R den d L = omega arith

-- the square root is a value that is not negative
pub record Rooted (d : Float) (R M : ℕ) : Type 0 where
  pub digits : ℕ
  pub power : ℤ
  pub is : sqrt_of d ≡ fin false digits power
  pub up_to : (w : Float) (W L : ℕ) → 0 < L → T (fits binary64 w) → HasValue w false W L → R * (L * L) ≤ W * W * M → T (le (sqrt_of d) w)
  pub from : (w : Float) (W L : ℕ) → 0 < L → T (fits binary64 w) → HasValue w false W L → W * W * M ≤ R * (L * L) → T (le w (sqrt_of d))

pub rooted : (d : Float) (R M : ℕ) → 0 < M → T (fits binary64 d) → HasValue d false R M → 0 < R → Rooted d R M
rooted nan R M P f h p = absurd h
rooted (inf s) R M P f h p = absurd h
rooted (fin true m e) R M P f h p = absurd (true≢false h.0)
rooted (fin false zero e) R M P f h p = absurd (lt_irrefl 0 (lt_of_lt_of_le (mul-pos p (down_pos e)) (le_of_eq (sym h.1 ∙ ap (λ (x : ℕ). x * M) (zero-mul (up e)) ∙ zero-mul M))))
rooted (fin false (suc m) e) R M P f h p =
    let r = root_nearest m e f in
    let s = sqrt_of (fin false (suc m) e) in
    record {
      digits = r.0;
      power = r.1;
      is = r.2;
      up_to = λ w W L Q g v l. subst (λ (z : Float). T (le z w)) (sym r.2) (high r.0 r.1 r.3 w W L Q g v l);
      from = λ w W L Q g v l. subst (λ (z : Float). T (le w z)) (sym r.2) (low' r.0 r.1 r.3 w W L Q g v l);
    }
  where
    high : (n : ℕ) (d : ℤ) → NearestRoot binary64 (suc m * up e) (down e) n d → (w : Float) (W L : ℕ) → 0 < L → T (fits binary64 w) → HasValue w false W L → R * (L * L) ≤ W * W * M → T (le (fin false n d) w)
    high n d x nan W L Q g v l = absurd v
    high n d x (inf t) W L Q g v l = absurd v
    high n d x (fin true q i) W L Q g v l = absurd (true≢false v.0)
    high n d x (fin false q i) W L Q g v l = elim (le_or_lt (n * up d * down i) (q * up i * down d)) [
      | inl k ↦ Order.at_most→le false n d false q i (le_trans (le_of_eq (add_none (n * up d * down i))) (le_trans k (le_of_eq (sym (add_none (q * up i * down d))))))
      | inr k ↦
          let b = below_squares (n * up d) (down d) (q * up i) (down i) (suc m * up e) (down e) (down_pos d) k (x.below q i g k) in
          let c = cross (q * up i) (down i) (suc m * up e) (down e) W R L M v.1 h.1 in
          absurd (not-le_of_lt (lt_of_le_of_lt (le_of_eq (sym c.0)) (lt_of_lt_of_le (mul-lt-mul_of_pos_right b (mul-pos (mul-pos Q Q) P)) (le_of_eq c.1))) (mul-le-mul_right (down i * down i * down e) l))
    ]
      where
        add_none : (x : ℕ) → x + 0 ≡ x
        add_none x = omega arith

    low' : (n : ℕ) (d : ℤ) → NearestRoot binary64 (suc m * up e) (down e) n d → (w : Float) (W L : ℕ) → 0 < L → T (fits binary64 w) → HasValue w false W L → W * W * M ≤ R * (L * L) → T (le w (fin false n d))
    low' n d x nan W L Q g v l = absurd v
    low' n d x (inf t) W L Q g v l = absurd v
    low' n d x (fin true q i) W L Q g v l = absurd (true≢false v.0)
    low' n d x (fin false q i) W L Q g v l = elim (le_or_lt (q * up i * down d) (n * up d * down i)) [
      | inl k ↦ Order.at_most→le false q i false n d (le_trans (le_of_eq (add_none (q * up i * down d))) (le_trans k (le_of_eq (sym (add_none (n * up d * down i))))))
      | inr k ↦
          let b = above_squares (n * up d) (down d) (q * up i) (down i) (suc m * up e) (down e) (down_pos d) k (x.above q i g k) in
          let c = cross (q * up i) (down i) (suc m * up e) (down e) W R L M v.1 h.1 in
          absurd (not-le_of_lt (lt_of_le_of_lt (le_of_eq (sym c.1)) (lt_of_lt_of_le (mul-lt-mul_of_pos_right b (mul-pos (mul-pos Q Q) P)) (le_of_eq c.0))) (mul-le-mul_right (down i * down i * down e) l))
    ]
      where
        add_none : (x : ℕ) → x + 0 ≡ x
        add_none x = omega arith

-- ---- products
-- The product of two values of binary32 that are X / L and Y / M is exactly X * Y / (L * M).
pub mul_value : (x y : Float) (s : Bool) (X L : ℕ) (t : Bool) (Y M : ℕ) → 0 < L → 0 < M → T (fits binary32 x) → T (fits binary32 y) → HasValue x s X L → HasValue y t Y M → HasValue (mul binary64 x y) (unlike s t) (X * Y) (L * M)
mul_value nan y s X L t Y M P Q f g h k = absurd h
mul_value (inf u) y s X L t Y M P Q f g h k = absurd h
mul_value (fin u m e) nan s X L t Y M P Q f g h k = absurd k
mul_value (fin u m e) (inf v) s X L t Y M P Q f g h k = absurd k
mul_value (fin u m e) (fin v n d) s X L t Y M P Q f g h k =
    subst (λ (b : Bool). HasValue (mul binary64 (fin u m e) (fin v n d)) b (X * Y) (L * M)) (λ i. unlike (h.0 i) (k.0 i))
    (rescale (mul binary64 (fin u m e) (fin v n d)) (unlike u v) (m * up e * (n * up d)) (down e * down d) (X * Y) (L * M) (mul-pos (down_pos e) (down_pos d)) (same (m * up e) (down e) (n * up d) (down d) h.1 k.1) (mul_exact u m e v n d f g))
  where
    same : (a c b d : ℕ) → a * L ≡ X * c → b * M ≡ Y * d → X * Y * (c * d) ≡ a * b * (L * M)
    same a c b d e g = mul-mul-mul_comm X Y c d ∙ (λ i. sym e i * sym g i) ∙ mul-mul-mul_comm a L b M

pub four_is : four ≡ fin false 1 (pos 2)
unfolding of_bits
four_is = refl

pub two_is : two ≡ fin false 1 (pos 1)
unfolding of_bits
two_is = refl

pub four_held : T (fits binary32 (fin false 1 (pos 2)))
unfolding fits
four_held = tt

pub two_held : T (fits binary32 (fin false 1 (pos 1)))
unfolding fits
two_held = tt

-- Four times a value of binary32 that is at most 2 ^ 16 is a value of binary32.
pub four_fits : (x : Float) (s : Bool) (X : ℕ) → T (fits binary32 x) → HasValue x s X (2 ^ 30) → X ≤ 2 ^ 46 → T (fits binary32 (mul binary64 four x))
four_fits nan s X f h b = absurd h
four_fits (inf t) s X f h b = absurd h
four_fits (fin t m e) s X f h b =
    let x = fin t m e in
    let k = held binary32 t m e f in
    let q = k.digits in
    let z = k.zeros in
    let c = counted binary32 m e k X (2 ^ 30) h.1 in
    let y = round binary32 t (4 * (m * up e)) (down e) in
    let small : q * 2 ^ z * 4 < 2 ^ 277 = lt_of_mul-lt-mul_right (2 ^ 30) (lt_of_le_of_lt (le_of_eq (mul_right_comm (q * 2 ^ z) 4 (2 ^ 30) ∙ ap (λ (v : ℕ). v * 4) (sym c))) (lt_of_le_of_lt (mul-le-mul_right 4 (mul-le-mul_right (2 ^ 149) b)) (lit< tt))) in
    let p : 2 ^ (z + 2) ≡ 2 ^ z * 4 = pow-add 2 z 2 in
    let exact = round_exact binary32 t (4 * (m * up e)) (down e) q (z + 2) (down_pos e) k.few
    (lt_of_le_of_lt (le_of_eq (ap (λ (v : ℕ). q * v) p ∙ sym (mul_assoc q (2 ^ z) 4))) small)
    (big (m * up e) (2 ^ 149) (q * 2 ^ z) (down e) k.value ∙ ap (λ (v : ℕ). v * down e) (mul_assoc q (2 ^ z) 4 ∙ ap (λ (v : ℕ). q * v) (sym p))) in
    subst (λ (v : Float). T (fits binary32 v))
    (value_unique binary64 y (mul binary64 four x) t (4 * (m * up e)) (down e) (down_pos e) (fits_widens y (round-fits binary32 t (4 * (m * up e)) (down e))) (mul-fits binary64 four x) exact
    (subst (λ (d : ℕ). HasValue (mul binary64 four x) t (4 * (m * up e)) d) (one-mul (down e)) (four_times t m e f)))
    (round-fits binary32 t (4 * (m * up e)) (down e))
  where
    big : (a P k d : ℕ) → a * P ≡ k * d → 4 * a * P ≡ k * 4 * d
    big a P k d h = omega arith

    plain : (t : Bool) → unlike false t ≡ t
    plain true = refl
    plain false = refl

    four_times : (t : Bool) (m : ℕ) (e : ℤ) → T (fits binary32 (fin t m e)) → HasValue (mul binary64 four (fin t m e)) t (4 * (m * up e)) (1 * down e)
    four_times t m e f =
        subst (λ (v : Float). HasValue (mul binary64 v (fin t m e)) t (4 * (m * up e)) (1 * down e)) (sym four_is)
        (subst (λ (b : Bool). HasValue (mul binary64 (fin false 1 (pos 2)) (fin t m e)) b (4 * (m * up e)) (1 * down e)) (plain t) (mul_exact false 1 (pos 2) t m e four_held f))
