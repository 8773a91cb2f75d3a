-- A value held to 0..1, times 255 and summed with 2 ^ 52: the first is the fraction that `held` and `parts` name, the second is exact, and the third is rounded to the byte.
-- Assumes nothing.
use mathlib.Core.Path.{◌≡◌, refl, sym, ap}
use mathlib.Core.Bool.{Bool, true, false, not, ◌&&◌, cond, false≢true}
use Prim.Native.Nat.{ℕ, ◌*◌, ◌≤◌, ◌<◌, min}
use native.Mathlib.Nat.{mul-pos}
use native.Mathlib.Omega.{arith}
use lib.IntN.{ℤ, pos}
use lib.Dec.{T, ltb→lt, nltb→le, lit<}
use lib.Ieee.{Float, nan, inf, fin, Format, binary32, binary64, up, down, mul, lt, fits, is_nan, of_bits}
use lib.Ieee.Fits.{and_i, down_pos, cond-fits, fits_widens}
use lib.Ieee.Exact.{HasValue}
use Rattle.numbers.proofs.floats.Values.{value_no_nan}
use Rattle.numbers.proofs.Laws.Exact.{rescale, mul_exact}
use Rattle.numbers.proofs.Laws.LastDigit.{Counted, ones_unit, add_ones}
use Rattle.pixels.specs.Byte.{parts, held, byte_of}
use Rattle.pixels.specs.Inner.{hold_of}
use Rattle.pixels.proofs.Laws.Byte.{parts_pos, held_most}

-- ---- the value held
-- a value without a sign, by what the two comparisons answer
held_plain : (m : ℕ) (e : ℤ) (b : Bool) → (T (not b) → m * up e ≡ 0) → let low = cond b (fin false m e) (fin false 0 (pos 0)) in
    HasValue (cond (lt low (fin false 1 (pos 0))) low (fin false 1 (pos 0))) false (min (m * up e) (down e)) (down e)
unfolding lt
held_plain m e false z = (refl, omega (arith, z tt))
held_plain m e true z = go (lt (fin false m e) (fin false 1 (pos 0))) (ltb→lt (m * up e * 1) (1 * 1 * down e)) (nltb→le (m * up e * 1) (1 * 1 * down e))
  where
    go : (b : Bool) → (T b → m * up e * 1 < 1 * 1 * down e) → (T (not b) → 1 * 1 * down e ≤ m * up e * 1)
        → HasValue (cond b (fin false m e) (fin false 1 (pos 0))) false (min (m * up e) (down e)) (down e)
    go true l g = (refl, ap (λ (x : ℕ). x * down e) (least (m * up e) (down e) (l tt)))
      where
        least : (x y : ℕ) → x * 1 < 1 * 1 * y → x ≡ min x y
        least x y h = omega arith
    go false l g = (refl, omega (arith, g tt))

pub hold_value : (v : Float) → T (not (is_nan v)) → HasValue (hold_of v) false (held v) (parts v)
unfolding is_nan hold_of held parts lt of_bits
hold_value nan p = absurd p
hold_value (inf true) p = (refl, refl)
hold_value (inf false) p = (refl, refl)
hold_value (fin true m e) p = (refl, omega arith)
hold_value (fin false m e) p = held_plain m e (lt (fin false 0 (pos 0)) (fin false m e)) (λ n. let z = nltb→le (0 * 1 * down e) (m * up e * 1) n in omega arith)

-- either what it was or one of the ends
end_fits : (f : Format) → T (fits f (of_bits binary32 0)) × T (fits f (of_bits binary32 0x3f80_0000))
unfolding fits of_bits
end_fits binary32 = (tt, tt)
end_fits binary64 = (tt, tt)

pub hold_fits : (f : Format) (v : Float) → T (fits f v) → T (fits f (hold_of v))
unfolding hold_of
hold_fits f v p =
    let low = cond (lt (of_bits binary32 0) v) v (of_bits binary32 0) in
    cond-fits f (lt low (of_bits binary32 0x3f80_0000)) low (of_bits binary32 0x3f80_0000) (cond-fits f (lt (of_bits binary32 0) v) v (of_bits binary32 0) p (end_fits f).0) (end_fits f).1

-- it is a value of binary64 too, and no NaN
pub hold_widens : (v : Float) → T (fits binary32 v) → T (not (is_nan v)) → T (fits binary64 (hold_of v) && not (is_nan (hold_of v)))
hold_widens v p q = and_i (fits binary64 (hold_of v)) (not (is_nan (hold_of v))) (fits_widens (hold_of v) (hold_fits binary32 v p)) (value_no_nan (hold_of v) false (held v) (parts v) (hold_value v q))

-- ---- times 255
pub times_value : (x : Float) (a c : ℕ) → T (fits binary32 x) → HasValue x false a c → HasValue (mul binary64 x (of_bits binary64 0x406f_e000_0000_0000)) false (255 * a) c
unfolding of_bits
times_value nan a c p h = absurd h
times_value (inf s) a c p h = absurd h
times_value (fin true m e) a c p h = absurd (false≢true (sym h.0))
times_value (fin false m e) a c p h =
    rescale (mul binary64 (fin false m e) (fin false 255 (pos 0))) false (m * up e * (255 * 1)) (down e * 1) (255 * a) c (mul-pos (down_pos e) (lit< tt))
    (omega (arith, h.1)) (mul_exact false m e false 255 (pos 0) p (unfold fits in tt))

-- ---- the byte
pub byte_counted : (v : Float) → T (fits binary32 v) → T (not (is_nan v)) → Counted (mul binary64 (hold_of v) (of_bits binary64 0x406f_e000_0000_0000)) ones_unit 1074 (byte_of v)
unfolding byte_of
byte_counted v p q =
    add_ones (mul binary64 (hold_of v) (of_bits binary64 0x406f_e000_0000_0000)) (255 * held v) (parts v) (parts_pos v)
    (times_value (hold_of v) (held v) (parts v) (hold_fits binary32 v p) (hold_value v q))
    (omega (arith, held_most v, parts_pos v))
