-- Two flips together move a value by at most 1/8, which is no more than one may slip. Assumes nothing.
-- Where 2 · z − v is below 2 ^ 21 in size a flip slips by at most 1/16. From there on z and the flip are so large that 2 · z less the flip is a whole number of eighths, and nothing slips a second time.
--     slip_less           the first of these
--     large_multiple      a value that is large has few digits after the point, counted in powers of 2
--     second_exact        the second
--     flip_twice_sharp    so two flips move a value by at most 1/8, which is 2 ^ 146
--     sharp_reached       evaluated: at 2^20 two flips move −(2^19 + 1/8) to −2^19
use mathlib.Core.Path.{◌≡◌, refl, sym, ap, ◌∙◌, subst}
use mathlib.Core.Logic.{inl, inr}
use Prim.Native.Nat.{ℕ, suc, ◌+◌, ◌-◌, ◌*◌, ◌/◌, ◌%◌, ◌^◌, ◌≤◌, ◌<◌}
use native.Mathlib.Nat.{le_trans, le_of_eq, lt_of_lt_of_le, lt_of_le_of_lt, lt_irrefl, le_antisymm, div-add-mod', div-lt_iff_lt-mul, mod-lt, mul-one, one-mul, mul_assoc, le_of_mul-le-mul_right}
use native.Mathlib.Omega.{arith}
use mathlib.Core.Bool.{Bool, not, beq}
use lib.IntN.{ℤ, pos, negsuc, nat_abs, ◌-ℤ◌, ◌*ℤ◌}
use lib.Dec.{lit≤}
use lib.Pow.{pow-add, pow_pos, pow_mono, shl_lt}
use lib.Ieee.{Float, fin, binary32, add, sub, of_bits}
use Rattle.numbers.specs.Nearest.{sum_size, sum_sign}
use Rattle.numbers.specs.Whole.{Finite, signed, steps, whole_of}
use Rattle.numbers.proofs.Laws.Whole.{abs_signed}
use Rattle.numbers.proofs.Laws.Difference.{counted}
use Rattle.numbers.proofs.Laws.Exact.{single_short}
use Rattle.signs.specs.Flip.{double_of, flip_of, Exact, slip}
use Rattle.numbers.proofs.Laws.Units.{le_or_lt, gain, loss, signed_twice, abs_near, near_abs, abs_none, by_sign, whole_bound, held_whole, exactly}
use Rattle.signs.proofs.Laws.Flip.{Small, small_held, flip_held, flip_fits, flip_within, flip_nearest_wide, flip_nearest, mirror, sizes_near, slip_bound, flip_back, flip_twice_near}

-- ---- below 2 ^ 21
-- up to 2 ^ 24 times a power of 2 is a value's number
held_multiple : (s : Bool) (q j : ℕ) → q ≤ 2 ^ 24 → j ≤ 200 → (w : Float) × Finite binary32 w × (whole_of binary32 w ≡ signed s (q * 2 ^ j))
held_multiple s q j h J = elim (le_or_lt (2 ^ 24) q) [
  | inr l ↦ held_whole binary32 s q j l (lt_of_lt_of_le (shl_lt 24 j l) (pow_mono {i = 24 + j} {j = 277} (omega arith)))
  | inl l ↦
      let w = held_whole binary32 s 1 (24 + j) (lit≤ tt) (lt_of_lt_of_le (shl_lt 1 (24 + j) (lit≤ tt)) (pow_mono {i = 1 + (24 + j)} {j = 277} (omega arith))) in
      (w.0, w.1, w.2 ∙ ap (signed s) (one-mul (2 ^ (24 + j)) ∙ pow-add 2 24 j ∙ ap (λ (x : ℕ). x * 2 ^ j) (le_antisymm l h)))
]

multiple_near : (s : Bool) (n : ℕ) → n < 2 ^ 24 * 2 ^ 146 → (w : Float) × Finite binary32 w × (nat_abs (whole_of binary32 w -ℤ signed s n) ≤ 2 ^ 145)
multiple_near s n h =
    let q = n / 2 ^ 146 in
    let r = n % 2 ^ 146 in
    let e = div-add-mod' n (2 ^ 146) in
    let few : q < 2 ^ 24 = (div-lt_iff_lt-mul (pow_pos 146)).1 h in
    elim (le_or_lt r (2 ^ 145)) [
      | inl l ↦ let k = under q (2 ^ 146) r (2 ^ 145) e l in chosen q (weaker few) k.0 k.1
      | inr l ↦ let k = over q (2 ^ 146) r (2 ^ 145) e refl (mod-lt n (pow_pos 146)) l in chosen (suc q) few k.0 k.1
    ]
  where
    weaker : {q m : ℕ} → q < m → q ≤ m
    weaker {q} {m} h = omega arith

    under : (q u r b : ℕ) → q * u + r ≡ n → r ≤ b → (q * u ≤ n + b) × (n ≤ q * u + b)
    under q u r b e l = (omega arith, omega arith)

    over : (q u r b : ℕ) → q * u + r ≡ n → u ≡ b + b → r < u → b < r → (suc q * u ≤ n + b) × (n ≤ suc q * u + b)
    over q u r b e d k l = (omega arith, omega arith)

    chosen : (q : ℕ) → q ≤ 2 ^ 24 → q * 2 ^ 146 ≤ n + 2 ^ 145 → n ≤ q * 2 ^ 146 + 2 ^ 145 → (w : Float) × Finite binary32 w × (nat_abs (whole_of binary32 w -ℤ signed s n) ≤ 2 ^ 145)
    chosen q few lo hi =
        let w = held_multiple s q 146 few (lit≤ tt) in
        (w.0, w.1, subst (λ (k : ℤ). nat_abs (k -ℤ signed s n) ≤ 2 ^ 145) (sym w.2) (sizes_near s (q * 2 ^ 146) n (2 ^ 145) lo hi))

nearby : (k : ℤ) → nat_abs k < 2 ^ 24 * 2 ^ 146 → (w : Float) × Finite binary32 w × (nat_abs (whole_of binary32 w -ℤ k) ≤ 2 ^ 145)
nearby = by_sign (λ k. nat_abs k < 2 ^ 24 * 2 ^ 146 → (w : Float) × Finite binary32 w × (nat_abs (whole_of binary32 w -ℤ k) ≤ 2 ^ 145))
    (λ s n h. multiple_near s n (lt_of_le_of_lt (le_of_eq (sym (abs_signed s n))) h))

pub slip_less : (z v : Float) → Small z → Small v → nat_abs (pos 2 *ℤ whole_of binary32 z -ℤ whole_of binary32 v) < 2 ^ 170 → slip z v ≤ 2 ^ 145
slip_less z v a b h = let w = nearby (pos 2 *ℤ whole_of binary32 z -ℤ whole_of binary32 v) h in le_trans (flip_nearest z v w.0 a b w.1) w.2

-- ---- from there on
pub large_multiple : (j : ℕ) (x : Float) → Finite binary32 x → 2 ^ (23 + j) ≤ nat_abs (whole_of binary32 x) → (s : Bool) × (d : ℕ) × (whole_of binary32 x ≡ signed s (d * 2 ^ j))
unfolding whole_of
large_multiple j (fin s m e) p h =
    let k = single_short s m e p in
    let n = steps binary32 m e in
    elim (le_or_lt j k.zeros) [
      | inl l ↦ (s, k.digits * 2 ^ (k.zeros - j), ap (signed s) (k.is ∙ ap (λ (x : ℕ). k.digits * x) (ap (λ (x : ℕ). 2 ^ x) (parted k.zeros l) ∙ pow-add 2 (k.zeros - j) j) ∙ sym (mul_assoc k.digits (2 ^ (k.zeros - j)) (2 ^ j))))
      | inr l ↦
          absurd (lt_irrefl n (lt_of_lt_of_le (lt_of_le_of_lt (le_of_eq k.is) (shl_lt 24 k.zeros k.few)) (le_trans (pow_mono {i = 24 + k.zeros} {j = 23 + j} (omega arith)) (le_trans h (le_of_eq (abs_signed s n))))))
    ]
  where
    parted : (z : ℕ) → j ≤ z → z ≡ z - j + j
    parted z h = omega arith
large_multiple j lib.Ieee.nan p h = elim p [ ]
large_multiple j (lib.Ieee.inf _) p h = elim p [ ]

-- a whole number's size by its parts
parts : (k : ℤ) → nat_abs k ≡ gain k + loss k
parts (pos n) = omega arith
parts (negsuc n) = omega arith

-- what is near a number of at least m, by no more than that number is above m, is at least m
stays : (m : ℕ) (E X : ℤ) → m ≤ nat_abs E → nat_abs (X -ℤ E) ≤ nat_abs E - m → m ≤ nat_abs X
stays m E X h k = let l = near_abs X E (nat_abs E - m) k in go E h l.0 l.1
  where
    go : (E : ℤ) → m ≤ nat_abs E → gain X + loss E ≤ gain E + loss X + (nat_abs E - m) → gain E + loss X ≤ gain X + loss E + (nat_abs E - m) → m ≤ nat_abs X
    go (pos n) h p q = omega (arith, parts X)
    go (negsuc n) h p q = omega (arith, parts X)

-- the flip is as large as what it rounds
flip_large : (z v : Float) → Small z → Small v → 2 ^ 170 ≤ nat_abs (pos 2 *ℤ whole_of binary32 z -ℤ whole_of binary32 v) → 2 ^ 170 ≤ nat_abs (whole_of binary32 (flip_of z v))
flip_large z v a b h =
    let E = pos 2 *ℤ whole_of binary32 z -ℤ whole_of binary32 v in
    let w = at_top E h in
    let near : slip z v ≤ nat_abs E - 2 ^ 170 = le_trans (flip_nearest z v w.0 a b w.1) w.2 in
    stays (2 ^ 170) E (whole_of binary32 (flip_of z v)) h (unfold slip in near)
  where
    room : (m n : ℕ) → m ≤ n → (m ≤ n + (n - m)) × (n ≤ m + (n - m))
    room m n h = (omega arith, omega arith)

    at_top : (E : ℤ) → 2 ^ 170 ≤ nat_abs E → (w : Float) × Finite binary32 w × (nat_abs (whole_of binary32 w -ℤ E) ≤ nat_abs E - 2 ^ 170)
    at_top = by_sign (λ E. 2 ^ 170 ≤ nat_abs E → (w : Float) × Finite binary32 w × (nat_abs (whole_of binary32 w -ℤ E) ≤ nat_abs E - 2 ^ 170)) (λ s n h.
        let w = held_multiple s (2 ^ 24) 146 (le_of_eq refl) (lit≤ tt) in
        let l = room (2 ^ 170) n (le_trans h (le_of_eq (abs_signed s n))) in (
          w.0,
          w.1,
          subst (λ (k : ℕ). nat_abs (whole_of binary32 w.0 -ℤ signed s n) ≤ k - 2 ^ 170) (sym (abs_signed s n))
              (subst (λ (k : ℤ). nat_abs (k -ℤ signed s n) ≤ n - 2 ^ 170) (sym w.2) (sizes_near s (2 ^ 24 * 2 ^ 146) n (n - 2 ^ 170) l.0 l.1)),
        ))

-- and so is the zero value, but for two digits
zero_large : (z v : Float) → Small v → 2 ^ 170 ≤ nat_abs (pos 2 *ℤ whole_of binary32 z -ℤ whole_of binary32 v) → 2 ^ 168 ≤ nat_abs (whole_of binary32 z)
zero_large z v b h =
    let Z = whole_of binary32 z in
    let K = whole_of binary32 v in
    go Z K (pos 2 *ℤ Z -ℤ K) (2 ^ 168) (2 ^ 170) refl (mirror Z K) (le_trans (whole_bound binary32 20 v (small_held v b) b.1) (lit≤ tt)) h
  where
    go : (Z K E : ℤ) (m t : ℕ) → t ≡ 4 * m → gain E + 2 * loss Z + gain K ≡ loss E + 2 * gain Z + loss K → nat_abs K ≤ 2 * m → t ≤ nat_abs E → m ≤ nat_abs Z
    go Z K (pos n) m t e f h k = omega (arith, parts Z, parts K)
    go Z K (negsuc n) m t e f h k = omega (arith, parts Z, parts K)

-- a difference of multiples is one
multiple : (s : Bool) (a : ℕ) (t : Bool) (b m : ℕ) → (u : Bool) × (k : ℕ) × (signed s (a * m) -ℤ signed t (b * m) ≡ signed u (k * m))
multiple s a t b m = (
  sum_sign s (a * m) (not t) (b * m),
  sum_size s a (not t) b,
  sym (exactly s (a * m) t (b * m))
      ∙ ap (signed (sum_sign s (a * m) (not t) (b * m))) (sym (mul-one (sum_size s (a * m) (not t) (b * m))) ∙ counted (beq s (not t)) (a * m) (b * m) a b m 1 (mul-one (a * m)) (mul-one (b * m))),
)

pub second_exact : (z v : Float) → Small z → Small v → 2 ^ 170 ≤ nat_abs (pos 2 *ℤ whole_of binary32 z -ℤ whole_of binary32 v) → Exact z (flip_of z v)
second_exact z v a b h =
    let x = flip_of z v in
    let Z = whole_of binary32 z in
    let X = whole_of binary32 x in
    let E = pos 2 *ℤ Z -ℤ X in
    let c = large_multiple 145 z (small_held z a) (zero_large z v b h) in
    let d = large_multiple 147 x (flip_held z v a.1 b.1) (flip_large z v a b h) in
    let two : pos 2 *ℤ Z ≡ signed c.0 (c.1 * 2 ^ 146) = ap (λ (k : ℤ). pos 2 *ℤ k) c.2 ∙ sym (signed_twice c.0 (c.1 * 2 ^ 145)) ∙ ap (signed c.0) (mul_assoc c.1 (2 ^ 145) 2) in
    let one : X ≡ signed d.0 (d.1 * 2 * 2 ^ 146) = d.2 ∙ ap (signed d.0) (sym (mul_assoc d.1 2 (2 ^ 146))) in
    let k = multiple c.0 c.1 d.0 (d.1 * 2) (2 ^ 146) in
    let is : E ≡ signed k.0 (k.1 * 2 ^ 146) = (λ i. two i -ℤ one i) ∙ k.2 in
    let size : k.1 * 2 ^ 146 ≤ 2 ^ 24 * 2 ^ 146 =
    le_trans (le_of_eq (sym (ap nat_abs is ∙ abs_signed k.0 (k.1 * 2 ^ 146))))
    (le_trans (nearly E (whole_of binary32 v) (slip z v) (2 ^ 169) (2 ^ 146) (flip_back z v) (le_trans (whole_bound binary32 20 v (small_held v b) b.1) (lit≤ tt)) (slip_bound z v a b)) (lit≤ tt)) in
    let w = held_multiple k.0 k.1 146 (le_of_mul-le-mul_right size (pow_pos 146)) (lit≤ tt) in
    abs_none (whole_of binary32 (flip_of z x)) E
    (le_trans (flip_nearest_wide 22 z x w.0 (lit≤ tt) (lit≤ tt) a (flip_fits z v) (flip_within z v a.1 b.1) w.1)
    (subst (λ (j : ℤ). nat_abs (j -ℤ E) ≤ 0) (sym (w.2 ∙ sym is)) (abs_near E E 0 (omega arith) (omega arith))))
  where
    nearly : (E K : ℤ) (n p q : ℕ) → nat_abs (K -ℤ E) ≤ n → nat_abs K ≤ p → n ≤ q → nat_abs E ≤ p + q
    nearly E K n p q h k l = let m = near_abs K E n h in go E m.0 m.1
      where
        go : (E : ℤ) → gain K + loss E ≤ gain E + loss K + n → gain E + loss K ≤ gain K + loss E + n → nat_abs E ≤ p + q
        go (pos e) f g = omega (arith, parts K)
        go (negsuc e) f g = omega (arith, parts K)

-- ---- together
pub flip_twice_sharp : (z v : Float) → Small z → Small v → nat_abs (whole_of binary32 (flip_of z (flip_of z v)) -ℤ whole_of binary32 v) ≤ 2 ^ 146
flip_twice_sharp z v a b = elim (le_or_lt (2 ^ 170) (nat_abs (pos 2 *ℤ whole_of binary32 z -ℤ whole_of binary32 v))) [
  | inr l ↦ le_trans (flip_twice_near z v a b) (doubled (slip z v) (2 ^ 145) (2 ^ 146) refl (slip_less z v a b l))
  | inl l ↦
      let K = whole_of binary32 v in
      let E = pos 2 *ℤ whole_of binary32 z -ℤ whole_of binary32 (flip_of z v) in
      let k = near_abs K E (2 ^ 146) (le_trans (flip_back z v) (slip_bound z v a b)) in
      subst (λ (j : ℤ). nat_abs (j -ℤ K) ≤ 2 ^ 146) (sym (second_exact z v a b l)) (abs_near E K (2 ^ 146) k.1 k.0)
]
  where
    doubled : (n m k : ℕ) → k ≡ m + m → n ≤ m → 2 * n ≤ k
    doubled n m k e h = omega arith

pub sharp_reached : let z = of_bits binary32 0x4980_0000 in
    let v = of_bits binary32 0xc900_0002 in
    let x = of_bits binary32 0xc900_0000 in
    (flip_of z (flip_of z v) ≡ x) × (nat_abs (whole_of binary32 x -ℤ whole_of binary32 v) ≡ 2 ^ 146)
unfolding flip_of double_of add sub of_bits whole_of
sharp_reached = (refl, refl)
