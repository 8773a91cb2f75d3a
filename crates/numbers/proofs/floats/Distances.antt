-- What `round` gives, counted in its format's smallest values: how far the value is from the fraction, its last digit, and where it overflows. Assumes nothing.
use Rattle.std.proofs.Common.{◌≡◌, ℕ, suc, ◌+◌, ◌-◌, ◌*◌, ◌/◌, ◌%◌, ◌^◌, ◌<◌, ◌≤◌, Bool, true, false, cond, not, T, ltb, ◌≢◌, ◌⊎◌, ℤ, sym, refl, ap, ◌∙◌, subst, inl, inr, le_trans, le_of_eq, add_assoc, mul-le-mul_right, zero-lt-suc, eq-zero-or-pos, le_antisymm, mul-pos, mul-one, mul_right_comm, not-le_of_lt, le_of_mul-le-mul_right, arith, lit≤, nltb→le, pow_pos, pow-add}
use Prim.Native.Nat.{compare}
use native.Mathlib.Nat.{le_dest, pow-succ'}
use lib.Ieee.{Float, nan, inf, fin, Format, binary32, binary64, prec, emax, low, up, down, size, odd, units, round, neg, le, fits, hid, ones, top, to_bits}
use lib.Ieee.Fits.{two, two-le_pos, down_pos, round_is as round-opens}
use lib.Ieee.Exact.{HasValue, odd_sign}
use lib.Ieee.Nearest.{nearest-ge}
use lib.Ieee.Order.{drop, kept, round_mono, transfer}
use lib.Ieee.Scale.{grid, overflow}
use Rattle.numbers.specs.Nearest.{apart, distance, middle, Closest}
use Rattle.numbers.proofs.floats.Compared.{le_or_lt}
use Rattle.numbers.proofs.floats.Differences.{Signed, round_signed, round_neg}
use Rattle.numbers.proofs.floats.Held.{held, count, value_unique}
use Rattle.numbers.proofs.floats.Multiples.{whole, whole_lt, whole_ge, kept_le, Other, Beside, best_number, overflows}
use Rattle.numbers.proofs.floats.Patterns.{to_bits_val, written_is}

-- ---- distances, counted in the format's smallest values
-- c times as far
pub apart_scale : (a b c : ℕ) → apart (a * c) (b * c) ≡ apart a b * c
apart_scale a b c = elim (le_or_lt a b) [
  | inl l ↦
      let d = le_dest l in
      let i = d.0 in
      let e : a + i ≡ b = d.1 in
      let x : apart (a * c) (b * c) ≡ i * c = omega (arith, ap (λ (x : ℕ). x * c) e) in
      let y : apart a b ≡ i = omega arith in
      x ∙ ap (λ (z : ℕ). z * c) (sym y)
  | inr l ↦
      let d = le_dest l in
      let i = suc d.0 in
      let e : b + i ≡ a = omega (arith, d.1) in
      let x : apart (a * c) (b * c) ≡ i * c = omega (arith, ap (λ (x : ℕ). x * c) e) in
      let y : apart a b ≡ i = omega arith in
      x ∙ ap (λ (z : ℕ). z * c) (sym y)
]

-- of num / den from a / c, which is C smallest values of size 1 / L
in_units : (num den a c C L : ℕ) → a * L ≡ C * c → apart (num * c) (a * den) * L ≡ apart (num * L) (C * den) * c
in_units num den a c C L e =
    sym (apart_scale (num * c) (a * den) L)
    ∙ ap (λ (x : ℕ). apart x (a * den * L)) (mul_right_comm num c L)
    ∙ ap (apart (num * L * c)) (mul_right_comm a den L ∙ ap (λ (x : ℕ). x * den) e ∙ mul_right_comm C c den)
    ∙ apart_scale (num * L) (C * den) c

-- two distances are in the order of their counts
pub units_order : (L A de X B dd Y : ℕ) → 0 < L → A * L ≡ X * de → B * L ≡ Y * dd → X ≤ Y → A * dd ≤ B * de
units_order L A de X B dd Y P p q h = transfer A B de dd X Y L L P P p q (mul-le-mul_right L h)

-- and the counts in the order of the distances
order_units : (L A de X B dd Y : ℕ) → 0 < de → 0 < dd → A * L ≡ X * de → B * L ≡ Y * dd → A * dd ≤ B * de → X ≤ Y
order_units L A de X B dd Y P Q p q h = le_of_mul-le-mul_right (bound (mul-le-mul_right L h)) (mul-pos P Q)
  where
    bound : A * dd * L ≤ B * de * L → X * (de * dd) ≤ Y * (de * dd)
    bound h = omega (arith, ap (λ (x : ℕ). x * dd) p, ap (λ (x : ℕ). x * de) q)

-- ---- the last digit of a number of the format
-- the sign and the field weigh an even number
last : (f : Format) (s : Bool) (k j : ℕ) → (cond s (top f) 0 + (k * hid f + j)) % 2 ≡ j % 2
last f s k j = subst (λ (h : ℕ). (cond s (h * suc (ones f)) 0 + (k * h + j)) % 2 ≡ j % 2) (sym hid_even) (go s (2 ^ (prec f - 2)) (suc (ones f)))
  where
    hid_even : hid f ≡ 2 * 2 ^ (prec f - 2)
    hid_even = ap (λ (x : ℕ). 2 ^ x) (omega (arith, two f)) ∙ pow-succ' 2 (prec f - 2)

    go : (s : Bool) (g x : ℕ) → (cond s (2 * g * x) 0 + (k * (2 * g) + j)) % 2 ≡ j % 2
    go true g x = omega arith
    go false g x = omega arith

-- j * 2 ^ k smallest values have j's last digit, where j has all the digits of the format or no zeros follow
parity : (f : Format) (s : Bool) (m : ℕ) (e : ℤ) (j k : ℕ) → m * up e * 2 ^ low f ≡ j * 2 ^ k * down e → j ≤ 2 ^ prec f → (k ≡ 0) ⊎ (hid f ≤ j) → to_bits f (fin s m e) % 2 ≡ j % 2
parity f s m e j k v hi lo =
    let a = j * 2 ^ k in
    ap (λ (x : ℕ). x % 2)
    (to_bits_val f (fin s m e) s a (refl, v)
    ∙ add_assoc (cond s (top f) 0) ((size a - prec f) * hid f) (a / 2 ^ (size a - prec f))
    ∙ ap (λ (x : ℕ). cond s (top f) 0 + x) (written_is (prec f) j k (two-le_pos (prec f) (two f)) hi lo))
    ∙ last f s k j

-- ---- where `round` overflows
-- what `units` gives: a count of smallest values, or an infinity
units_cases : (f : Format) (s : Bool) (q k : ℕ)
    → HasValue (units f s q k) s (q * 2 ^ k) (2 ^ low f) ⊎ ((overflow f ≤ q * 2 ^ k) × (units f s q k ≡ inf s))
unfolding units
units_cases f s q k = go (ltb (q * 2 ^ k) (overflow f)) (nltb→le (q * 2 ^ k) (overflow f))
  where
    go : (b : Bool) → (T (not b) → overflow f ≤ q * 2 ^ k)
        → HasValue (cond b (odd (suc (prec f)) s q k (low f)) (inf s)) s (q * 2 ^ k) (2 ^ low f) ⊎ ((overflow f ≤ q * 2 ^ k) × (cond b (odd (suc (prec f)) s q k (low f)) (inf s) ≡ inf s))
    go true g = inl (odd_sign (suc (prec f)) s q k (low f))
    go false g = inr (g tt, refl)

-- the middle itself is a tie, and the even one is beyond the largest value
at_middle : (f : Format) → round f false (middle f) 1 ≡ inf false
unfolding round
at_middle binary32 = refl
at_middle binary64 = refl

-- the middle as a power of two less half a unit of the largest values
middle_is : (f : Format) → middle f ≡ (2 ^ (prec f + 1) - 1) * 2 ^ (emax f - prec f)
middle_is binary32 = refl
middle_is binary64 = refl

-- from it on the result is an infinity
pub overflowed : (f : Format) (s : Bool) (num den : ℕ) → 0 < den → middle f * den ≤ num → round f s num den ≡ inf s
overflowed f s num den D h = signed s
  where
    top_is : (x : Float) → Signed false x → T (le (inf false) x) → x ≡ inf false
    top_is nan g l = absurd g
    top_is (inf t) g l = ap inf g
    top_is (fin t m e) g l = absurd (unfold le in l)

    plain : round f false num den ≡ inf false
    plain =
        top_is (round f false num den) (round_signed f false num den)
        (subst (λ (x : Float). T (le x (round f false num den))) (at_middle f) (round_mono f (middle f) 1 num den (zero-lt-suc 0) D (le_trans h (le_of_eq (sym (mul-one num))))))

    signed : (s : Bool) → round f s num den ≡ inf s
    signed false = plain
    signed true = round_neg f num den ∙ ap neg plain ∙ unfold neg in refl

-- the exponents of the largest values, in smallest values: K zeros stand after their digits
pub record Exponents (p e : ℕ) : Type 0 where
  pub K : ℕ
  pub ends : e + p - 2 + suc e ≡ p + K
  pub top : suc e - p + (e + p - 2) ≡ K
  pub mid : e - p + (e + p - 2) + 1 ≡ K

-- which every format has that keeps two digits and reaches as far up as it has digits
pub exponents : (p e : ℕ) → 2 ≤ p → p ≤ e → Exponents p e
exponents p e P R = record { K = 2 * e - 1; ends = omega arith; top = omega arith; mid = omega arith }

-- of a format the laws here use one fact more than those of lib.Ieee
pub wide : (f : Format) → prec f ≤ emax f
wide binary32 = lit≤ tt
wide binary64 = lit≤ tt

-- a count that overflows is that of a fraction that has reached it
reached : (f : Format) (num den : ℕ) → 0 < den
    → overflow f ≤ kept (prec f) (num * 2 ^ low f) den * 2 ^ drop (prec f) (num * 2 ^ low f) den → middle f * den ≤ num
reached f num den D h =
    let x = exponents (prec f) (emax f) (two f) (wide f) in
    let b = 2 ^ (prec f + 1) - 1 in
    let L = 2 ^ low f in
    let o : b * 2 ^ x.K * den ≤ 2 * (num * L) =
    overflows (prec f) x.K (num * L) den D (subst (λ (y : ℕ). 2 ^ y ≤ kept (prec f) (num * L) den * 2 ^ drop (prec f) (num * L) den) x.ends h) in
    let e : 2 ^ x.K ≡ 2 ^ (emax f - prec f) * L * 2 = ap (λ (y : ℕ). 2 ^ y) (sym x.mid) ∙ pow-add 2 (emax f - prec f + low f) 1 ∙ ap (λ (y : ℕ). y * 2) (pow-add 2 (emax f - prec f) (low f)) in
    subst (λ (y : ℕ). y * den ≤ num) (sym (middle_is f)) (le_of_mul-le-mul_right (omega (arith, subst (λ (y : ℕ). b * y * den ≤ 2 * (num * L)) e o)) (pow_pos (low f)))

-- ---- the value that `round` counts is the closest
module _ (f : Format) (num den : ℕ) (D : 0 < den) where
  -- as `round` has them: the fraction is N / den smallest values, k digits are dropped, q is the whole part that is left, and w the number nearest
  abbrev p : ℕ
  p = prec f

  abbrev L : ℕ
  L = 2 ^ low f

  abbrev N : ℕ
  N = num * 2 ^ low f

  abbrev k : ℕ
  k = drop (prec f) (num * 2 ^ low f) den

  abbrev q : ℕ
  q = whole (prec f) (num * 2 ^ low f) den

  abbrev w : ℕ
  w = kept (prec f) (num * 2 ^ low f) den

  -- the format has digits
  P : 0 < prec f
  P = two-le_pos (prec f) (two f)

  -- what stands at q or above, has all its digits or no zeros
  full : (j : ℕ) → q ≤ j → (k ≡ 0) ⊎ (hid f ≤ j)
  full j l = elim (eq-zero-or-pos k) [ inl z ↦ inl z | inr g ↦ inr (le_trans (whole_ge p N den P g) l) ]

  -- how a value of the format compares with the chosen number
  beside : (n : ℕ) (d : ℤ) (s : Bool) (g : T (fits f (fin s n d))) → Beside N den k q w (count f n d (held f s n d g))
  beside n d s g = let h = held f s n d g in best_number p N den h.digits h.zeros P D h.few

  -- the chosen value's distance in smallest values
  mine : (m : ℕ) (e : ℤ) → m * up e * L ≡ w * 2 ^ k * down e → distance num den m e * L ≡ apart N (w * 2 ^ k * den) * down e
  mine m e v = in_units num den (m * up e) (down e) (w * 2 ^ k) L v

  -- and that of another
  theirs : (n : ℕ) (d : ℤ) (s : Bool) (g : T (fits f (fin s n d))) → distance num den n d * L ≡ apart N (count f n d (held f s n d g) * den) * down d
  theirs n d s g = let h = held f s n d g in in_units num den (n * up d) (down d) (count f n d h) L h.value

  -- the same number of units is the same value
  equal : (s : Bool) (m : ℕ) (e : ℤ) (n : ℕ) (d : ℤ) → T (fits f (fin s m e)) → (g : T (fits f (fin s n d))) → m * up e * L ≡ w * 2 ^ k * down e
      → count f n d (held f s n d g) ≡ w * 2 ^ k → fin s n d ≡ fin s m e
  equal s m e n d fit g v c =
      value_unique f (fin s n d) (fin s m e) s (w * 2 ^ k) L (pow_pos (low f)) g fit (refl, (held f s n d g).value ∙ ap (λ (x : ℕ). x * down d) c) (refl, v)

  -- what is no farther than the chosen one is as far
  level : (s : Bool) (m : ℕ) (e : ℤ) (n : ℕ) (d : ℤ) (g : T (fits f (fin s n d))) → m * up e * L ≡ w * 2 ^ k * down e → distance num den n d * down e ≤ distance num den m e * down d
      → apart N (w * 2 ^ k * den) ≡ apart N (count f n d (held f s n d g) * den)
  level s m e n d g v far =
      le_antisymm (beside n d s g).near
      (order_units L (distance num den n d) (down d) (apart N (count f n d (held f s n d g) * den)) (distance num den m e) (down e) (apart N (w * 2 ^ k * den)) (down_pos d) (down_pos e) (theirs n d s g) (mine m e v) far)

  -- the chosen value's last digit
  last_of : (s : Bool) (m : ℕ) (e : ℤ) → m * up e * L ≡ w * 2 ^ k * down e → to_bits f (fin s m e) % 2 ≡ w % 2
  last_of s m e v = parity f s m e w k v (kept_le p N den) (full w (nearest-ge q (compare (N % (den * 2 ^ k) * 2) (den * 2 ^ k))))

  -- the value that `round` counts is a closest one
  pub closest_is : (s : Bool) (m : ℕ) (e : ℤ) → T (fits f (fin s m e)) → m * up e * L ≡ w * 2 ^ k * down e → Closest f s num den m e
  closest_is s m e fit v = record {
    held = fit;
    no_nearer = λ n d g. units_order L (distance num den m e) (down e) (apart N (w * 2 ^ k * den)) (distance num den n d) (down d) (apart N (count f n d (held f s n d g) * den)) (pow_pos (low f)) (mine m e v) (theirs n d s g) (beside n d s g).near;
    tie = λ n d g other far. elim ((beside n d s g).same (level s m e n d g v (le_of_eq (sym far)))) [ inl c ↦ absurd (other (equal s m e n d fit g v c)) | inr o ↦ last_of s m e v ∙ o.2.even ];
  }

  -- another that is closest is the same value: it is as near, and at a tie it would be odd
  pub closest_only : (s : Bool) (m : ℕ) (e : ℤ) (n : ℕ) (d : ℤ) → T (fits f (fin s m e)) → m * up e * L ≡ w * 2 ^ k * down e → Closest f s num den n d → fin s m e ≡ fin s n d
  closest_only s m e n d fit v x =
      let g = x.held in
      let far = x.no_nearer m e fit in
      elim ((beside n d s g).same (level s m e n d g v far)) [
        | inl c ↦ sym (equal s m e n d fit g v c)
        | inr o ↦ absurd (clash o.0 o.1 o.2)
      ]
    where
      clash : (j : ℕ) → count f n d (held f s n d x.held) ≡ j * 2 ^ k → Other q w j → ⊥
      clash j c o =
          let g = x.held in
          let odd : to_bits f (fin s n d) % 2 ≡ j % 2 = parity f s n d j k ((held f s n d g).value ∙ ap (λ (y : ℕ). y * down d) c) (le_trans o.to (whole_lt p N den)) (full j o.from) in
          let even : to_bits f (fin s m e) % 2 ≡ w % 2 = last_of s m e v in
          let differ : fin s m e ≢ fin s n d = λ i. omega (arith, ap (λ (y : Float). to_bits f y % 2) i, o.even, o.odd) in
          omega (arith, x.tie m e fit differ (le_antisymm (x.no_nearer m e fit) ((closest_is s m e fit v).no_nearer n d g)) ∙ sym o.even, o.even, o.odd)

-- below the middle `round` gives a count
pub counted : (f : Format) (s : Bool) (num den : ℕ) (D : 0 < den) → num < middle f * den → HasValue (round f s num den) s (grid f num den) (2 ^ low f)
counted f s num den D l =
    subst (λ (x : Float). HasValue x s (grid f num den) (2 ^ low f)) (sym (round-opens f s num den))
    (elim (units_cases f s (w f num den D) (k f num den D)) [ inl v ↦ v | inr o ↦ absurd (not-le_of_lt l (reached f num den D o.0)) ])
