-- How far rounding moves a whole number of units: by half of the last digit at most. Assumes nothing.
use Rattle.std.proofs.Common.{◌≡◌, ℕ, suc, ◌+◌, ◌-◌, ◌*◌, ◌/◌, ◌%◌, ◌^◌, ◌<◌, ◌≤◌, Bool, T, sym, refl, ap, ◌∙◌, subst, inl, inr, le_trans, le_of_eq, lt_of_lt_of_le, lt_of_le_of_lt, mul-le-mul_right, mod-lt, zero-lt-suc, mul_assoc, mul_comm, mul-lt-mul_of_pos_right, mul-pos, lt_of_not-le, div-add-mod', mul_right_comm, not-le_of_lt, le_of_mul-le-mul_right, mul-div_cancel, arith, pow_pos, pow_mono, pow-add, shl_lt}
use Prim.Native.Nat.{compare, Ordering}
use native.Mathlib.Nat.{pow-succ'}
use lib.Ieee.{Float, Format, prec, emax, low, size, nearest, round}
use lib.Ieee.Digits.{size-lt, size_reaches, back}
use lib.Ieee.Fits.{round_is, two, two-le_pos, reach}
use lib.Ieee.Exact.{HasValue, units_val, round_exact}
use lib.Ieee.Nearest.{closest}
use Rattle.numbers.proofs.floats.Compared.{Cmp, cmp, le_or_lt}
use Rattle.numbers.proofs.Laws.Exact.{rescale}

-- a / b to the nearest whole number is within a half
closest_near : (a b : ℕ) → 0 < b → (closest a b * b * 2 ≤ a * 2 + b) × (a * 2 ≤ closest a b * b * 2 + b)
closest_near a b B = go (a / b) (a % b) (compare (a % b * 2) b) (cmp (a % b * 2) b) (div-add-mod' a b) (mod-lt a B)
  where
    go : (q r : ℕ) (o : Ordering) → Cmp o (r * 2) b → q * b + r ≡ a → r < b → (nearest q o * b * 2 ≤ a * 2 + b) × (a * 2 ≤ nearest q o * b * 2 + b)
    go q r Ordering.lt c e l = (omega arith, omega arith)
    go q r Ordering.eq c e l = tie (q % 2) (omega arith)
      where
        tie : (x : ℕ) → x ≤ 1 → ((q + x) * b * 2 ≤ a * 2 + b) × (a * 2 ≤ (q + x) * b * 2 + b)
        tie x h = (omega (arith, mul-le-mul_right b h), omega arith)
    go q r Ordering.gt c e l = (omega arith, omega arith)

size_gt : (n j : ℕ) → 2 ^ j ≤ n → j < size n
size_gt n j h = lt_of_not-le (λ (g : size n ≤ j). not-le_of_lt (lt_of_lt_of_le (size-lt n) (pow_mono g)) h)

-- N / 2 ^ j rounds to R / 2 ^ j, with R within N / 2 ^ prec of N
pub record Near (f : Format) (x : Float) (s : Bool) (j N : ℕ) : Type 0 where
  pub R : ℕ
  pub value : HasValue x s R (2 ^ j)
  pub above : R * 2 ^ prec f ≤ N * 2 ^ prec f + N
  pub below : N * 2 ^ prec f ≤ R * 2 ^ prec f + N
  pub exact : N < 2 ^ prec f → R ≡ N

split_low : (l j : ℕ) → j ≤ l → 2 ^ (l - j) * 2 ^ j ≡ 2 ^ l
split_low l j h = sym (pow-add 2 (l - j) j) ∙ ap (λ (x : ℕ). 2 ^ x) (back l j h)

pub few : (f : Format) (s : Bool) (j N : ℕ) → j ≤ low f → N < 2 ^ prec f → HasValue (round f s N (2 ^ j)) s N (2 ^ j)
few f s j N J h =
    round_exact f s N (2 ^ j) N (low f - j) (pow_pos j) h
    (lt_of_lt_of_le (shl_lt (prec f) (low f - j) h) (pow_mono (fewer (prec f) (low f) j (suc (emax f)) (reach f))))
    (ap (λ (x : ℕ). N * x) (sym (split_low (low f) j J)) ∙ sym (mul_assoc N (2 ^ (low f - j)) (2 ^ j)))
  where
    fewer : (p l j m : ℕ) → p ≤ m → p + (l - j) ≤ l + m
    fewer p l j m h = omega arith

many : (f : Format) (s : Bool) (j N : ℕ) → j ≤ low f → N < 2 ^ (emax f + j) → 2 ^ prec f ≤ N → Near f (round f s N (2 ^ j)) s j N
many f s j N J E h =
    record {
      R = R;
      value = rescale (round f s N (2 ^ j)) s (q * 2 ^ k) (2 ^ low f) R (2 ^ j) (pow_pos (low f)) same
          (subst (λ (x : Float). HasValue x s (q * 2 ^ k) (2 ^ low f)) (sym (round_is f s N (2 ^ j)))
          (units_val f s q k (lt_of_le_of_lt (le_trans (under (q * 2 ^ k) w (2 ^ k) near1 kw) (le_of_eq (mul_right_comm N (2 ^ t) 2)))
          (lt_of_lt_of_le (shl_lt (suc (emax f + j)) t (subst (λ (x : ℕ). N * 2 < x) (sym (pow-succ' 2 (emax f + j) ∙ mul_comm 2 (2 ^ (emax f + j)))) (mul-lt-mul_of_pos_right E (zero-lt-suc 1))))
          (pow_mono (room (emax f) (low f) j J))))));
      above = le_of_mul-le-mul_right (hi R N (2 ^ t) (q * 2 ^ k) (2 ^ k) H (2 ^ prec f) twice Rt near1 big) (pow_pos t);
      below = le_of_mul-le-mul_right (lo R N (2 ^ t) (q * 2 ^ k) (2 ^ k) H (2 ^ prec f) twice Rt near2 big) (pow_pos t);
      exact = λ g. absurd (not-le_of_lt g h);
    }
  where
    t : ℕ
    t = low f - j

    n : ℕ
    n = N * 2 ^ low f

    w : ℕ
    w = N * 2 ^ t

    wj : n ≡ w * 2 ^ j
    wj = ap (λ (x : ℕ). N * x) (sym (split_low (low f) j J)) ∙ sym (mul_assoc N (2 ^ t) (2 ^ j))

    w_is : n / 2 ^ j ≡ w
    w_is = ap (λ (x : ℕ). x / 2 ^ j) wj ∙ mul-div_cancel w (pow_pos j)

    k : ℕ
    k = size (n / 2 ^ j) - prec f

    q : ℕ
    q = closest n (2 ^ j * 2 ^ k)

    long : prec f + t < size (n / 2 ^ j)
    long = size_gt (n / 2 ^ j) (prec f + t) (subst (λ (x : ℕ). 2 ^ (prec f + t) ≤ x) (sym w_is) (le_trans (le_of_eq (pow-add 2 (prec f) t)) (mul-le-mul_right (2 ^ t) h)))

    tk : t ≤ k
    tk = go (size (n / 2 ^ j)) (prec f) t long
      where
        go : (z p t : ℕ) → p + t < z → t ≤ z - p
        go z p t h = omega arith

    R : ℕ
    R = q * 2 ^ (k - t)

    Rt : R * 2 ^ t ≡ q * 2 ^ k
    Rt = mul_assoc q (2 ^ (k - t)) (2 ^ t) ∙ ap (λ (x : ℕ). q * x) (split_low k t tk)

    same : R * 2 ^ low f ≡ q * 2 ^ k * 2 ^ j
    same = ap (λ (x : ℕ). R * x) (sym (split_low (low f) j J)) ∙ sym (mul_assoc R (2 ^ t) (2 ^ j)) ∙ ap (λ (x : ℕ). x * 2 ^ j) Rt

    cl : (q * (2 ^ j * 2 ^ k) * 2 ≤ n * 2 + 2 ^ j * 2 ^ k) × (n * 2 ≤ q * (2 ^ j * 2 ^ k) * 2 + 2 ^ j * 2 ^ k)
    cl = closest_near n (2 ^ j * 2 ^ k) (mul-pos (pow_pos j) (pow_pos k))

    near1 : q * 2 ^ k * 2 ≤ w * 2 + 2 ^ k
    near1 = le_of_mul-le-mul_right (go q (2 ^ j) (2 ^ k) n w wj cl.0) (pow_pos j)
      where
        go : (q p r n w : ℕ) → n ≡ w * p → q * (p * r) * 2 ≤ n * 2 + p * r → q * r * 2 * p ≤ (w * 2 + r) * p
        go q p r n w e h = omega arith

    near2 : w * 2 ≤ q * 2 ^ k * 2 + 2 ^ k
    near2 = le_of_mul-le-mul_right (go q (2 ^ j) (2 ^ k) n w wj cl.1) (pow_pos j)
      where
        go : (q p r n w : ℕ) → n ≡ w * p → n * 2 ≤ q * (p * r) * 2 + p * r → w * 2 * p ≤ (q * r * 2 + r) * p
        go q p r n w e h = omega arith

    H : ℕ
    H = 2 ^ (prec f - 1)

    twice : 2 ^ prec f ≡ H * 2
    twice = ap (λ (x : ℕ). 2 ^ x) (go (prec f) (two-le_pos (prec f) (two f))) ∙ pow-add 2 (prec f - 1) 1
      where
        go : (p : ℕ) → 0 < p → p ≡ p - 1 + 1
        go p h = omega arith

    big : H * 2 ^ k ≤ w
    big = le_trans (le_of_eq (sym (pow-add 2 (prec f - 1) k))) (subst (λ (x : ℕ). 2 ^ (prec f - 1 + k) ≤ x) w_is (size_reaches (n / 2 ^ j) (prec f - 1 + k) (go (size (n / 2 ^ j)) (prec f) t (two-le_pos (prec f) (two f)) long)))
      where
        go : (z p t : ℕ) → 0 < p → p + t < z → p - 1 + (z - p) < z
        go z p t P h = omega arith

    kw : 2 ^ k ≤ w
    kw = le_trans (go H (2 ^ k) (pow_pos (prec f - 1))) big
      where
        go : (H x : ℕ) → 0 < H → x ≤ H * x
        go H x h = omega (arith, mul-le-mul_right x h)

    under : (v w r : ℕ) → v * 2 ≤ w * 2 + r → r ≤ w → v ≤ w * 2
    under v w r h g = omega arith

    room : (e l j : ℕ) → j ≤ l → suc (e + j) + (l - j) ≤ l + suc e
    room e l j h = omega arith

    hi : (R N T q r H P : ℕ) → P ≡ H * 2 → R * T ≡ q → q * 2 ≤ N * T * 2 + r → H * r ≤ N * T → R * P * T ≤ (N * P + N) * T
    hi R N T q r H P e f g b = omega (arith, ap (λ (x : ℕ). x * (R * T)) e, ap (λ (x : ℕ). x * (N * T)) e, ap (λ (x : ℕ). x * H) f, mul-le-mul_right H g)

    lo : (R N T q r H P : ℕ) → P ≡ H * 2 → R * T ≡ q → N * T * 2 ≤ q * 2 + r → H * r ≤ N * T → N * P * T ≤ (R * P + N) * T
    lo R N T q r H P e f g b = omega (arith, ap (λ (x : ℕ). x * (R * T)) e, ap (λ (x : ℕ). x * (N * T)) e, ap (λ (x : ℕ). x * H) f, mul-le-mul_right H g)

pub near : (f : Format) (s : Bool) (j N : ℕ) → j ≤ low f → N < 2 ^ (emax f + j) → Near f (round f s N (2 ^ j)) s j N
near f s j N J E = elim (le_or_lt (2 ^ prec f) N) [
  | inl h ↦ many f s j N J E h
  | inr h ↦ record { R = N; value = few f s j N J h; above = omega arith; below = omega arith; exact = λ g. refl }
]
