-- What the code of a texel's order says where it is not 0, and what it says of a pair of channels that it is the same in several texels. Assumes nothing.
--     Told        of one texel: channels p and `next p` are samples and their difference is clear
--     Alike       of two texels, and the pair's differences are both below zero or neither is
--     shares      so it is where the codes of two texels have the pair's digit in common
--     alike       and of each pair of two texels of one code
--     no_crossing such a pair has no crossing inside
--     no_root     nor, in four texels, a root
use Rattle.std.proofs.Common.{◌≡◌, ℕ, ◌+◌, ◌*◌, ◌/◌, ◌%◌, ◌≤◌, Bool, true, false, cond, ◌&&◌, ◌||◌, T, List, [], get_or, sym, refl, ap, ◌∙◌, subst, inl, inr, arith}
use lib.Ieee.{Float, binary32, sub, neg, le, lt, eq, fits, of_bits}
use lib.Ieee.Fits.{and_l, and_r, sub-fits}
use Rattle.numbers.proofs.Laws.Order as Order
use Rattle.numbers.proofs.Laws.Order.{nought, IsFinite}
use Rattle.numbers.proofs.Laws.Bounds.{within_of_le, within_finite}
use Rattle.numbers.proofs.floats.Differences.{or_split}
use Rattle.ground.specs.Lists.{some}
use Rattle.detectors.specs.Texel.{channel}
use Rattle.detectors.specs.Pairs.{inside, next, difference}
use Rattle.detectors.specs.Linear.{crossing}
use Rattle.detectors.specs.Diagonal.{pair_roots}
use Rattle.detectors.specs.Orders.{largest_channel, clear, moderate, sign, ordered, order_code}
use Rattle.detectors.proofs.orders.Outside.{crossing_outside, crossing_outside_neg}
use Rattle.detectors.proofs.orders.Samples.{Sample, difference_within}
use Rattle.detectors.proofs.orders.Texels.{coarse, Rises}
use Rattle.detectors.proofs.orders.Filter.{Samples, rising_pair, falling_pair}

-- of each of the three pairs
pub record Each (P : ℕ → Type 0) : Type 0 where
  pub first : P 0
  pub second : P 1
  pub third : P 2

pub record Told (a : List Float) (p : ℕ) : Type 0 where
  pub from : Sample (channel a p)
  pub to : Sample (channel a (next p))
  pub clearly : T (clear (difference a p))

pub record Alike (a b : List Float) (p : ℕ) : Type 0 where
  pub one : Told a p
  pub other : Told b p
  pub same : lt (difference b p) nought ≡ lt (difference a p) nought

-- ---- a texel of one of the codes
sample : (v : Float) → T (moderate v) → Sample v
unfolding moderate
sample v h =
    let low = le (neg largest_channel) v in
    let high = le v largest_channel in
    let k = and_r (fits binary32 v) (low && high) h in
    record { fit = and_l (fits binary32 v) (low && high) h; within = within_of_le 11 v (Order.abs_le v largest_channel (and_l low high k) (and_r low high k)) }

told : (a : List Float) → T (ordered a) → Each (Told a)
unfolding ordered next
told a h =
    go (moderate (channel a 0)) (moderate (channel a 1)) (moderate (channel a 2)) (clear (difference a 0)) (clear (difference a 1)) (clear (difference a 2)) h
    (sample (channel a 0)) (sample (channel a 1)) (sample (channel a 2)) (λ x. x) (λ x. x) (λ x. x)
  where
    go : (x y z u v w : Bool) → T (x && (y && (z && (u && (v && w))))) → (T x → Sample (channel a 0)) → (T y → Sample (channel a 1)) → (T z → Sample (channel a 2)) → (T u → T (clear (difference a 0))) → (T v → T (clear (difference a 1))) → (T w → T (clear (difference a 2))) → Each (Told a)
    go x y z u v w h s0 s1 s2 c0 c1 c2 =
        let h1 = and_r x (y && (z && (u && (v && w)))) h in
        let h2 = and_r y (z && (u && (v && w))) h1 in
        let h3 = and_r z (u && (v && w)) h2 in
        let h4 = and_r u (v && w) h3 in
        let m0 = s0 (and_l x (y && (z && (u && (v && w)))) h) in
        let m1 = s1 (and_l y (z && (u && (v && w))) h1) in
        let m2 = s2 (and_l z (u && (v && w)) h2) in
        record {
          first = record { from = m0; to = m1; clearly = c0 (and_l u (v && w) h3) };
          second = record { from = m1; to = m2; clearly = c1 (and_l v w h4) };
          third = record { from = m2; to = m0; clearly = c2 (and_r v w h4) };
        }

-- n where a difference is below zero, and the code of three differences
abbrev bit : Bool → ℕ → ℕ
bit x n = cond x n 0

at_most : (x : Bool) (n : ℕ) → bit x n ≤ n
at_most true n = omega arith
at_most false n = omega arith

abbrev bits : Bool → Bool → Bool → ℕ
bits x y z = 8 + bit x 1 + bit y 2 + bit z 4

abbrev bits_of : List Float → ℕ
bits_of a = bits (lt (difference a 0) nought) (lt (difference a 1) nought) (lt (difference a 2) nought)

read : (a : List Float) → 1 ≤ order_code a → T (ordered a) × (order_code a ≡ bits_of a)
unfolding order_code sign of_bits
read a h = go (ordered a) (bits_of a) h
  where
    go : (b : Bool) (n : ℕ) → 1 ≤ cond b n 0 → T b × (cond b n 0 ≡ n)
    go true n h = (tt, refl)
    go false n h = omega arith

-- a code that is not 0
pub code_sized : (a : List Float) → 1 ≤ order_code a → (8 ≤ order_code a) × (order_code a ≤ 15)
code_sized a h =
    let e = (read a h).1 in
    (omega (arith, e), omega (arith, e, at_most (lt (difference a 0) nought) 1, at_most (lt (difference a 1) nought) 2, at_most (lt (difference a 2) nought) 4))

-- the three digits beside that of 8
abbrev Digits : ℕ → Bool → Bool → Bool → Type 0
Digits n x y z = (n % 2 ≡ bit x 1) × (n / 2 % 2 ≡ bit y 1) × (n / 4 % 2 ≡ bit z 1)

digits : (n : ℕ) (x y z : Bool) → n ≡ bits x y z → Digits n x y z
digits n x y z e =
    let k : n ≡ 8 + bit x 1 + 2 * bit y 1 + 4 * bit z 1 = omega (arith, e, times y 2, times z 4) in
    go n (bit x 1) (bit y 1) (bit z 1) (at_most x 1) (at_most y 1) (at_most z 1) k
  where
    times : (x : Bool) (n : ℕ) → bit x n ≡ n * bit x 1
    times true n = omega arith
    times false n = omega arith

    go : (n x y z : ℕ) → x ≤ 1 → y ≤ 1 → z ≤ 1 → n ≡ 8 + x + 2 * y + 4 * z → (n % 2 ≡ x) × (n / 2 % 2 ≡ y) × (n / 4 % 2 ≡ z)
    go n x y z a b c e = (omega arith, omega arith, omega arith)

same_bit : (x y : Bool) → bit x 1 ≡ bit y 1 → x ≡ y
same_bit true true e = refl
same_bit true false e = absurd (omega arith)
same_bit false true e = absurd (omega arith)
same_bit false false e = refl

-- Two texels whose codes have a pair's digit in common.
pub record Shares (a b : List Float) : Type 0 where
  pub first : order_code b % 2 ≡ order_code a % 2 → Alike a b 0
  pub second : order_code b / 2 % 2 ≡ order_code a / 2 % 2 → Alike a b 1
  pub third : order_code b / 4 % 2 ≡ order_code a / 4 % 2 → Alike a b 2

pub shares : (a b : List Float) → 1 ≤ order_code a → 1 ≤ order_code b → Shares a b
shares a b o u =
    let p = read a o in
    let q = read b u in
    let s = told a p.0 in
    let t = told b q.0 in
    let k = digits (order_code a) (lt (difference a 0) nought) (lt (difference a 1) nought) (lt (difference a 2) nought) p.1 in
    let l = digits (order_code b) (lt (difference b 0) nought) (lt (difference b 1) nought) (lt (difference b 2) nought) q.1 in
    record {
      first = λ e. record { one = s.first; other = t.first; same = same_bit (lt (difference b 0) nought) (lt (difference a 0) nought) (sym l.0 ∙ e ∙ k.0) };
      second = λ e. record { one = s.second; other = t.second; same = same_bit (lt (difference b 1) nought) (lt (difference a 1) nought) (sym l.1 ∙ e ∙ k.1) };
      third = λ e. record { one = s.third; other = t.third; same = same_bit (lt (difference b 2) nought) (lt (difference a 2) nought) (sym l.2 ∙ e ∙ k.2) };
    }

-- Two texels of one code.
pub alike : (a b : List Float) → 1 ≤ order_code a → order_code b ≡ order_code a → Each (Alike a b)
alike a b o e =
    let s = shares a b o (subst (λ (n : ℕ). 1 ≤ n) (sym e) o) in
    record { first = s.first (ap (λ (n : ℕ). n % 2) e); second = s.second (ap (λ (n : ℕ). n / 2 % 2) e); third = s.third (ap (λ (n : ℕ). n / 4 % 2) e) }

-- ---- a clear difference by its sign
-- zero, or far enough above or below
by_size : (P : Type 0) (d : Float) → T (clear d) → (T (eq d nought) → P) → (T (le coarse d) → P) → (T (le d (neg coarse)) → P) → P
unfolding clear of_bits
by_size P d h zero above below = elim (or_split (eq d nought) (le coarse d || le d (neg coarse)) h) [
  | inl z ↦ zero z
  | inr k ↦ elim (or_split (le coarse d) (le d (neg coarse)) k) [ inl l ↦ above l | inr l ↦ below l ]
]

-- one that is not below zero
rises : (d : Float) → T (clear d) → lt d nought ≡ false → Rises d
rises d h s = by_size (Rises d) d h inl inr (λ l. absurd (subst T s (Order.lt_of_le_of_lt d (neg coarse) nought l (unfold lt neg in tt))))

-- one below zero
falls : (d : Float) → T (clear d) → lt d nought ≡ true → Rises (neg d)
falls d h s =
    let b : T (lt d nought) = subst T (sym s) tt in
    by_size (Rises (neg d)) d h (λ z. absurd (Order.lt_not_le d nought b (Order.ge_of_eq d nought z))) (λ l. absurd (Order.lt_not_le d nought b (Order.le_trans nought coarse d (unfold le in tt) l)))
    (λ l. inr (subst (λ (x : Float). T (le x (neg d))) (Order.neg_neg coarse) (Order.le_neg d (neg coarse) l)))

by_sign : (P : Type 0) (b : Bool) → (b ≡ false → P) → (b ≡ true → P) → P
by_sign P true f g = g refl
by_sign P false f g = f refl

not_below : (d : Float) → Rises d → T (le nought d)
not_below d (inl z) = Order.ge_of_eq d nought z
not_below d (inr l) = Order.le_trans nought coarse d (unfold le in tt) l

not_above : (d : Float) → Rises (neg d) → T (le d nought)
not_above d r = subst (λ (x : Float). T (le x nought)) (Order.neg_neg d) (Order.le_trans (neg (neg d)) (neg nought) nought (Order.le_neg nought (neg d) (not_below (neg d) r)) (unfold le neg in tt))

-- ---- two texels
difference_held : (a : List Float) (p : ℕ) → T (fits binary32 (difference a p))
unfolding difference
difference_held a p = sub-fits binary32 (channel a (next p)) (channel a p)

difference_finite : (a : List Float) (p : ℕ) → Told a p → IsFinite (difference a p)
unfolding difference
difference_finite a p h = within_finite 12 (sub binary32 (channel a (next p)) (channel a p)) (difference_within (channel a (next p)) (channel a p) h.to h.from)

pub no_crossing : (a b : List Float) (p : ℕ) → Alike a b p → inside (crossing (difference a p) (difference b p)) ≡ false
no_crossing a b p h =
    let x = difference a p in
    let y = difference b p in
    by_sign (inside (crossing x y) ≡ false) (lt x nought)
    (λ s. crossing_outside x y (difference_held a p) (difference_finite a p h.one) (difference_finite b p h.other) (not_below x (rises x h.one.clearly s))
    (not_below y (rises y h.other.clearly (h.same ∙ s))))
    (λ s. crossing_outside_neg x y (difference_held a p) (difference_finite a p h.one) (difference_finite b p h.other) (not_above x (falls x h.one.clearly s))
    (not_above y (falls y h.other.clearly (h.same ∙ s))))

-- ---- four texels
pub no_root : (m : List (List Float)) (p : ℕ) → Alike (get_or m 0 []) (get_or m 1 []) p → Alike (get_or m 0 []) (get_or m 2 []) p → Alike (get_or m 0 []) (get_or m 3 []) p → some inside (pair_roots m p) ≡ false
unfolding difference
no_root m p b c d =
    let k : Samples m p = record { ap = b.one.from; aj = b.one.to; bp = b.other.from; bj = b.other.to; cp = c.other.from; cj = c.other.to; dp = d.other.from; dj = d.other.to } in
    by_sign (some inside (pair_roots m p) ≡ false) (lt (difference (get_or m 0 []) p) nought)
    (λ s. rising_pair m p k (rises (difference (get_or m 0 []) p) b.one.clearly s) (up (get_or m 1 []) b s) (up (get_or m 2 []) c s) (up (get_or m 3 []) d s))
    (λ s. falling_pair m p k (falls (difference (get_or m 0 []) p) b.one.clearly s) (down (get_or m 1 []) b s) (down (get_or m 2 []) c s) (down (get_or m 3 []) d s))
  where
    up : (x : List Float) → Alike (get_or m 0 []) x p → lt (difference (get_or m 0 []) p) nought ≡ false → Rises (difference x p)
    up x h s = rises (difference x p) h.other.clearly (h.same ∙ s)

    down : (x : List Float) → Alike (get_or m 0 []) x p → lt (difference (get_or m 0 []) p) nought ≡ true → Rises (neg (difference x p))
    down x h s = falls (difference x p) h.other.clearly (h.same ∙ s)
