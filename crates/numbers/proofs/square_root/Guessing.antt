-- The guess at a root stays among small finite numbers, so it has a pattern: its steps are floats, and nothing else is known of them. Assumes nothing.
--     below_nan     a pattern up to that of infinity is no NaN's
--     bits_within   a pattern's value is at most 2 ^ k in size where its exponent's field is at most 1022 + k
--     step_within   one step of Newton's method keeps a bound
use Rattle.std.proofs.Common.{◌≡◌, ℕ, suc, ◌+◌, ◌*◌, ◌/◌, ◌%◌, ◌^◌, ◌<◌, ◌≤◌, Bool, false, not, T, sym, subst, le_trans, le_of_eq, mul-le-mul_right, arith, pow_pos, pow_mono, pow-add}
use lib.Arith.{le→nltb}
use lib.Ieee.{Float, binary64, mul, of_bits, nan_bits}
use lib.Ieee.Bits.{nan_bits_above}
use Rattle.numbers.specs.Inner.{newton_step}
use Rattle.numbers.proofs.Laws.Bounds.{Within, value_within, mul_within, sub_within}
use Rattle.numbers.proofs.square_root.Rooting.{normal_value}

pub below_nan : (b : ℕ) → b ≤ 9218868437227405312 → T (not (nan_bits binary64 b))
below_nan b h = subst (λ (t : Bool). T (not t)) (sym (nan_bits_above binary64 b)) (le→nltb 9218868437227405312 (b % 9223372036854775808) (omega arith))

pub bits_within : (b x k : ℕ) → b / 4503599627370496 ≡ suc x → suc x < 2047 → suc x ≤ 1022 + k → Within k (of_bits binary64 b)
bits_within b x k e l h =
    value_within k (of_bits binary64 b) false ((4503599627370496 + b % 4503599627370496) * 2 ^ x) (2 ^ 1074) (pow_pos 1074) (normal_value b x e l)
    (le_trans (mul-le-mul_right (2 ^ x) (upto (b % 4503599627370496) (omega arith))) (le_trans (le_of_eq (sym (pow-add 2 53 x))) (le_trans (pow_mono {j = k + 1074} (omega arith)) (le_of_eq (pow-add 2 k 1074)))))
  where
    upto : (t : ℕ) → t < 4503599627370496 → 4503599627370496 + t ≤ 9007199254740992
    upto t h = omega arith

pub step_within : (j : ℕ) (y h c : Float) → 3 + (j + j + j) ≤ 1023 → Within j y → Within 2 h → Within 2 c → Within (3 + (j + j + j)) (newton_step y h c)
unfolding newton_step
step_within j y h c l p q r =
    subst (λ (k : ℕ). Within k (newton_step y h c)) (omega arith)
    (sub_within binary64 (2 + j) (2 + j + (j + j)) (2 + j + (j + j)) (mul binary64 c y) (mul binary64 (mul binary64 h y) (mul binary64 y y)) (omega arith) (omega arith) (omega arith)
    (mul_within binary64 2 j c y (omega arith) r p)
    (mul_within binary64 (2 + j) (j + j) (mul binary64 h y) (mul binary64 y y) (omega arith) (mul_within binary64 2 j h y (omega arith) q p) (mul_within binary64 j j y y (omega arith) p p)))
