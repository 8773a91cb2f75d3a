-- The byte of a value: no whole number is nearer to 255 times the value, held to 0..1, and nothing else is the byte. Assumes nothing.
-- `away v k` is how far k is from that number, counted in parts of 1 / `parts v`.
--     parts_pos, held_most   the value held is a fraction of 1
--     byte_most              the byte is at most 255
--     half_step              it is at most half a step away
--     tie_even               and where it is half a step away it is even
--     nearest_of_all         no whole number at all is nearer
--     byte_is, byte_only     it is the byte that `IsByte` asks for, and no other number is
--     held_order, byte_mono  the order is kept
--     held_inside            from 0 to 1 the value held is the value itself
--     held_below, held_above up to 0 it is 0, and from 1 on it is 1
--     only_tie               of the values of either format only 1/2 lies halfway between two whole numbers
--     tie_halfway            evaluated: it lies halfway between 127 and 128, and its byte is 128
--     not_above_none         of −0, of what is below 0 and of −∞ the byte is 0
--     one_and_above          of 1, of what is above 1 and of ∞ it is 255
--     small_none             of what is at most the last value of binary32 below 1/510 it is 0
--     subnormal_none         so it is of each pattern whose exponent's field is 0
--     byte_figures           evaluated: the byte at the ends and on both sides of the first step and of the tie
use mathlib.Core.Path.{◌≡◌, refl, sym, ap, ◌∙◌, subst}
use mathlib.Core.Logic.{◌≢◌, inl, inr, dite}
use mathlib.Core.Bool.{Bool, true, false, ◌&&◌}
use Prim.Native.Nat.{ℕ, zero, suc, ◌+◌, ◌*◌, ◌/◌, ◌%◌, ◌^◌, ◌≤◌, ◌<◌, min, zero-le, compare, Ordering}
use native.Mathlib.Nat.{le_refl, le_trans, le_of_eq, le_antisymm, mul-one, zero-lt-suc, mul-le-mul_right, min-le_left, min-le_right, min-eq_left, min-eq_right, le_of_lt, div-add-mod', mod-lt, pow-suc}
use native.Mathlib.Decide.{ℕ_discrete}
use native.Mathlib.Omega.{arith}
use lib.IntN.{ℤ, pos, negsuc}
use lib.Dec.{T, eqb, ltb, leb, eqb→eq, lt→ltb, lit<}
use lib.Pow.{pow_pos}
use lib.Ieee.{Float, nan, inf, fin, Format, binary32, prec, low, emax, up, down, hid, top, nearest, odd, le, lt, below, fits, of_fields, of_bits}
use lib.Ieee.Fits.{down_pos}
use lib.Ieee.Exact.{HasValue, odd_sign}
use lib.Ieee.Nearest.{closest, closest_mono}
use Rattle.numbers.specs.Nearest.{apart}
use Rattle.numbers.proofs.floats.Compared.{Cmp, cmp, le_or_lt}
use Rattle.numbers.proofs.Laws.Order.{AtMost, le→at_most, le_cases, lt_over, le_of_lt as le-of-less}
use Rattle.pixels.specs.Byte.{parts, held, away, IsByte, byte_of}

-- ---- the value as a fraction

pub parts_pos : (v : Float) → 0 < parts v
unfolding parts
parts_pos nan = zero-lt-suc 0
parts_pos (inf s) = zero-lt-suc 0
parts_pos (fin s m e) = down_pos e

pub held_most : (v : Float) → held v ≤ parts v
unfolding parts held
held_most nan = zero-le
held_most (inf true) = zero-le
held_most (inf false) = le_refl 1
held_most (fin true m e) = zero-le
held_most (fin false m e) = omega arith

-- ---- a / d to the nearest whole number

-- it is at most half a step away, and even where it is half a step away
near : (a d : ℕ) → 0 < d → (2 * apart a (closest a d * d) ≤ d) × (2 * apart a (closest a d * d) ≡ d → closest a d % 2 ≡ 0)
near a d D = go (a / d) (a % d) (compare (a % d * 2) d) (cmp (a % d * 2) d) (div-add-mod' a d) (mod-lt a D)
  where
    go : (q r : ℕ) (o : Ordering) → Cmp o (r * 2) d → q * d + r ≡ a → r < d
        → (2 * apart a (nearest q o * d) ≤ d) × (2 * apart a (nearest q o * d) ≡ d → nearest q o % 2 ≡ 0)
    go q r Ordering.lt c e l = (omega arith, λ h. absurd (omega arith))
    go q r Ordering.eq c e l = (tie (q % 2) (omega arith), λ h. omega arith)
      where
        tie : (x : ℕ) → x ≤ 1 → 2 * apart a ((q + x) * d) ≤ d
        tie x h = omega (arith, mul-le-mul_right d h)
    go q r Ordering.gt c e l = (omega arith, λ h. absurd (omega arith))

-- two whole numbers are a step apart
apart_step : (a d k l : ℕ) → l ≢ k → d ≤ apart a (k * d) + apart a (l * d)
apart_step a d k l n = elim (le_or_lt k l) [
  | inl h ↦ let g : suc k ≤ l = omega arith in omega (arith, mul-le-mul_right d g)
  | inr h ↦ omega (arith, mul-le-mul_right d h)
]

-- and of two that are as near, at most half a step away, none is more than one above the other
apart_next : (a d k l : ℕ) → 0 < d → 2 * apart a (k * d) ≤ d → apart a (l * d) ≡ apart a (k * d) → l ≤ suc k
apart_next a d k l D h e = elim (le_or_lt l (suc k)) [
  | inl g ↦ g
  | inr g ↦ absurd (omega (arith, mul-le-mul_right d g))
]

-- ---- the byte

pub byte_most : (v : Float) → byte_of v ≤ 255
unfolding byte_of
byte_most v = closest_mono (255 * held v) (parts v) 255 1 (parts_pos v) (zero-lt-suc 0) (omega (arith, held_most v))

pub half_step : (v : Float) → 2 * away v (byte_of v) ≤ parts v
unfolding byte_of away
half_step v = (near (255 * held v) (parts v) (parts_pos v)).0

pub tie_even : (v : Float) → 2 * away v (byte_of v) ≡ parts v → byte_of v % 2 ≡ 0
unfolding byte_of away
tie_even v = (near (255 * held v) (parts v) (parts_pos v)).1

-- the same of whole numbers beside a value
step : (v : Float) (k l : ℕ) → l ≢ k → parts v ≤ away v k + away v l
unfolding away
step v k l = apart_step (255 * held v) (parts v) k l

next : (v : Float) (k l : ℕ) → 2 * away v k ≤ parts v → away v l ≡ away v k → l ≤ suc k
unfolding away
next v k l = apart_next (255 * held v) (parts v) k l (parts_pos v)

pub nearest_of_all : (v : Float) (l : ℕ) → away v (byte_of v) ≤ away v l
nearest_of_all v l = dite (ℕ_discrete l (byte_of v)) (λ e. le_of_eq (ap (away v) (sym e))) (λ n. omega (arith, half_step v, step v (byte_of v) l n))

pub byte_is : (v : Float) → IsByte v (byte_of v)
byte_is v =
    record {
      byte = byte_most v;
      least = λ l h. nearest_of_all v l;
      tie = λ l h n e. tie_even v (omega (arith, half_step v, step v (byte_of v) l n));
    }

pub byte_only : (v : Float) (k : ℕ) → IsByte v k → k ≡ byte_of v
byte_only v k b = dite (ℕ_discrete k (byte_of v)) (λ e. e) (λ n. absurd (go n))
  where
    c : ℕ
    c = byte_of v

    go : k ≢ c → ⊥
    go n =
        let w = byte_is v in
        let e : away v k ≡ away v c = le_antisymm (b.least c w.byte) (w.least k b.byte) in
        let p : c % 2 ≡ 0 = w.tie k b.byte n e in
        let q : k % 2 ≡ 0 = b.tie c w.byte (λ h. n (sym h)) (sym e) in
        omega (arith, next v c k (half_step v) e, next v k c (subst (λ (x : ℕ). 2 * x ≤ parts v) (sym e) (half_step v)) (sym e))

-- ---- order

-- held to a whole, A / p stays at most B / q
capped : (A p B q : ℕ) → A * q ≤ B * p → min A p * q ≤ min B q * p
capped A p B q h = elim (le_or_lt B q) [
  | inl l ↦ subst (λ (w : ℕ). min A p * q ≤ w * p) (sym (min-eq_left l)) (omega (arith, mul-le-mul_right q (min-le_left A p)))
  | inr l ↦ subst (λ (w : ℕ). min A p * q ≤ w * p) (sym (min-eq_right (le_of_lt l))) (omega (arith, mul-le-mul_right q (min-le_right A p)))
]

held_mono : (s : Bool) (m : ℕ) (e : ℤ) (t : Bool) (n : ℕ) (d : ℤ) → AtMost s (m * up e * down d) t (n * up d * down e)
    → held (fin s m e) * parts (fin t n d) ≤ held (fin t n d) * parts (fin s m e)
unfolding parts held
held_mono true m e t n d h = omega arith
held_mono false m e true n d h = omega (arith, mul-le-mul_right (down d) (min-le_left (m * up e) (down e)))
held_mono false m e false n d h = capped (m * up e) (down e) (n * up d) (down d) (omega arith)

pub held_order : (v w : Float) → T (le v w) → held v * parts w ≤ held w * parts v
held_order = le_cases (λ v w. held v * parts w ≤ held w * parts v) (λ w n. unfold held parts in omega arith) (λ v n. unfold held parts in omega (arith, held_most v)) held_mono

pub byte_mono : (v w : Float) → T (le v w) → byte_of v ≤ byte_of w
unfolding byte_of
byte_mono v w h = closest_mono (255 * held v) (parts v) (255 * held w) (parts w) (parts_pos v) (parts_pos w) (omega (arith, held_order v w h))

-- ---- what is held

pub held_below : (v : Float) → T (le v (of_bits binary32 0)) → held v ≡ 0
held_below v h = none (held_order v (of_bits binary32 0) h)
  where
    none : held v * parts (of_bits binary32 0) ≤ held (of_bits binary32 0) * parts v → held v ≡ 0
    none = unfold held parts of_bits in λ o. omega (arith, o)

pub held_above : (v : Float) → T (le (of_bits binary32 0x3f80_0000) v) → held v ≡ parts v
held_above v h = all (held_order (of_bits binary32 0x3f80_0000) v h)
  where
    all : held (of_bits binary32 0x3f80_0000) * parts v ≤ held v * parts (of_bits binary32 0x3f80_0000) → held v ≡ parts v
    all = unfold held parts of_bits in λ o. le_antisymm (held_most v) (omega (arith, o))

pub held_inside : (s : Bool) (m : ℕ) (e : ℤ) → let v = fin s m e in T (le (of_bits binary32 0) v) → T (le v (of_bits binary32 0x3f80_0000)) → (held v ≡ m * up e) × (parts v ≡ down e)
unfolding held parts of_bits
held_inside true m e l h = (omega (arith, le→at_most false 0 (pos 0) true m e l), refl)
held_inside false m e l h = (min-eq_left (omega (arith, le→at_most false m e false 1 (pos 0) h)), refl)

-- ---- the tie

-- a whole number lies halfway between no two, and twice a number is not 1
no_half : (a k d x : ℕ) → 0 < d → x ≡ a * d → 2 * apart x (k * d) ≡ d → ⊥
no_half a k d x D e h = dite (ℕ_discrete k a) (λ q. omega (arith, ap (λ (y : ℕ). y * d) q)) (λ n. omega (arith, apart_step x d k a (λ q. n (sym q))))

not_one : (x : ℕ) → 2 * x ≡ 1 → ⊥
not_one x h = omega arith

-- an odd m over 2 ^ (j + 1), below 1, lies halfway only where it is 1/2: otherwise 255 m would be even
half_odd : (m k j : ℕ) → m % 2 ≡ 1 → m < 2 ^ suc j → 2 * apart (255 * m) (k * 2 ^ suc j) ≡ 2 ^ suc j → fin false m (negsuc j) ≡ fin false 1 (negsuc 0)
half_odd m k zero o l h = ap (λ (x : ℕ). fin false x (negsuc 0)) (omega arith)
half_odd m k (suc j) o l h = absurd (go (2 ^ j) (2 ^ suc (suc j)) (pow-suc 2 (suc j) ∙ ap (λ (x : ℕ). x * 2) (pow-suc 2 j)) h)
  where
    uneven : (a b : ℕ) → 255 * m + 2 * a ≡ 2 * b → ⊥
    uneven a b h = elim (le_or_lt b (255 * (m / 2) + 127 + a)) [ inl l ↦ omega arith | inr l ↦ omega arith ]

    go : (R D : ℕ) → D ≡ R * 2 * 2 → 2 * apart (255 * m) (k * D) ≡ D → ⊥
    go R D e h = elim (le_or_lt (k * D) (255 * m)) [
      | inl l ↦ uneven 0 (k * R * 2 + R) (omega (arith, ap (λ (x : ℕ). k * x) e))
      | inr l ↦ uneven R (k * R * 2) (omega (arith, ap (λ (x : ℕ). k * x) e))
    ]

halfway : (m k j : ℕ) → m % 2 ≡ 1 → 2 * apart (255 * min m (2 ^ suc j)) (k * 2 ^ suc j) ≡ 2 ^ suc j → fin false m (negsuc j) ≡ fin false 1 (negsuc 0)
halfway m k j o h = elim (le_or_lt (2 ^ suc j) m) [
  | inl l ↦ absurd (no_half 255 k (2 ^ suc j) (255 * min m (2 ^ suc j)) (pow_pos (suc j)) (ap (λ (x : ℕ). 255 * x) (min-eq_right l)) h)
  | inr l ↦ half_odd m k j o l (subst (λ (x : ℕ). 2 * apart (255 * x) (k * 2 ^ suc j) ≡ 2 ^ suc j) (min-eq_left (le_of_lt l)) h)
]

-- a value that is not 0 is written with an odd m
fits_odd : (f : Format) (s : Bool) (m : ℕ) (e : ℤ) → T (fits f (fin s (suc m) e)) → suc m % 2 ≡ 1
unfolding fits
fits_odd f s m e p =
    eqb→eq (suc m % 2) 1 (first (eqb (suc m % 2) 1) (ltb (suc m) (2 ^ prec f)) (leb (down e) (2 ^ low f)) (ltb (suc m * up e) (2 ^ suc (emax f) * down e)) p)
  where
    first : (a b c d : Bool) → T (a && b && c && d) → T a
    first true b c d p = tt
    first false b c d p = p

pub only_tie : (f : Format) (v : Float) (k : ℕ) → T (fits f v) → 2 * away v k ≡ parts v → v ≡ of_bits binary32 0x3f00_0000
unfolding away parts held fits of_bits
only_tie f nan k p h = absurd (not_one _ h)
only_tie f (inf s) k p h = absurd (not_one _ h)
only_tie f (fin s m (pos j)) k p h = absurd (not_one _ h)
only_tie f (fin true m (negsuc j)) k p h = absurd (no_half 0 k (2 ^ suc j) 0 (pow_pos (suc j)) (omega arith) h)
only_tie f (fin false zero (negsuc j)) k p h = absurd (omega (arith, pow_pos j, pow-suc 2 j, eqb→eq (1 * 2 ^ suc j) 1 p))
only_tie f (fin false (suc m) (negsuc j)) k p h = halfway (suc m) k j (fits_odd f false m (negsuc j) p)
    (subst (λ (x : ℕ). 2 * apart (255 * min x (2 ^ suc j)) (k * 2 ^ suc j) ≡ 2 ^ suc j) (mul-one (suc m)) h)

pub tie_halfway : let half = of_bits binary32 0x3f00_0000 in
    (2 * away half 127 ≡ parts half) × (2 * away half 128 ≡ parts half) × (byte_of half ≡ 128)
unfolding away parts held byte_of of_bits
tie_halfway = (refl, refl, refl)

-- ---- the ends

-- the byte of what is at most another value whose byte is 0
at_most_none : (v w : Float) → byte_of w ≡ 0 → T (le v w) → byte_of v ≡ 0
at_most_none v w z h = omega (arith, byte_mono v w h)

pub not_above_none : (v : Float) → T (le v (of_bits binary32 0)) → byte_of v ≡ 0
unfolding byte_of held parts of_bits
not_above_none v = at_most_none v (of_bits binary32 0) refl

pub one_and_above : (v : Float) → T (le (of_bits binary32 0x3f80_0000) v) → byte_of v ≡ 255
one_and_above v h = le_antisymm (byte_most v) (le_trans all (byte_mono (of_bits binary32 0x3f80_0000) v h))
  where
    all : 255 ≤ byte_of (of_bits binary32 0x3f80_0000)
    all = unfold byte_of held parts of_bits in le_refl 255

-- 0x3b00_8080 is the last value of binary32 below 1/510
pub small_none : (v : Float) → T (le v (of_bits binary32 0x3b00_8080)) → byte_of v ≡ 0
unfolding byte_of held parts of_bits
small_none v = at_most_none v (of_bits binary32 0x3b00_8080) refl

-- the digits t with no leading one before them, and the smallest value that has a leading one
abbrev subnormal : Bool → ℕ → Float
subnormal s t = odd (prec binary32) s t 0 (low binary32)

abbrev normal : Float
normal = of_bits binary32 0x0080_0000

subnormal_less : (s : Bool) (t : ℕ) → t < hid binary32 → T (lt (subnormal s t) normal)
subnormal_less s t l =
    let L = low binary32 in
    subst T (sym (lt_over (subnormal s t) normal s (t * 1) false (hid binary32) (2 ^ L) (pow_pos L) (odd_sign (prec binary32) s t 0 L) value)) (go s)
  where
    value : HasValue normal false (hid binary32) (2 ^ low binary32)
    value = unfold of_bits in (refl, refl)

    go : (s : Bool) → T (below s (t * 1) false (hid binary32))
    go true = lt→ltb 0 (t * 1 + hid binary32) (omega arith)
    go false = lt→ltb (t * 1) (hid binary32) (omega arith)

pub subnormal_none : (b : ℕ) → b % top binary32 / hid binary32 ≡ 0 → byte_of (of_bits binary32 b) ≡ 0
subnormal_none b h = at_most_none (of_bits binary32 b) normal (unfold byte_of held parts of_bits in refl) (le-of-less (of_bits binary32 b) normal less)
  where
    t : ℕ
    t = b % hid binary32

    s : Bool
    s = leb (top binary32) b

    is : of_bits binary32 b ≡ subnormal s t
    is = unfold of_bits of_fields in ap (λ (x : ℕ). of_fields binary32 s x t) h

    less : T (lt (of_bits binary32 b) normal)
    less = subst (λ (x : Float). T (lt x normal)) (sym is) (subnormal_less s t (mod-lt b (lit< tt)))

pub byte_figures : (byte_of (of_bits binary32 0x8000_0000) ≡ 0)
    × (byte_of (of_bits binary32 0x0000_0001) ≡ 0)
    × (byte_of (of_bits binary32 0x3b00_8080) ≡ 0)
    × (byte_of (of_bits binary32 0x3b00_8081) ≡ 1)
    × (byte_of (of_bits binary32 0x3eff_ffff) ≡ 127)
    × (byte_of (of_bits binary32 0x3f00_0000) ≡ 128)
    × (byte_of (of_bits binary32 0x3f00_0001) ≡ 128)
    × (byte_of (of_bits binary32 0x3f7f_ffff) ≡ 255)
    × (byte_of (of_bits binary32 0x3f80_0000) ≡ 255)
    × (byte_of (of_bits binary32 0x4980_0000) ≡ 255)
    × (byte_of (of_bits binary32 0xc980_0000) ≡ 0)
unfolding byte_of held parts of_bits
byte_figures = (refl, refl, refl, refl, refl, refl, refl, refl, refl, refl, refl)
