-- `numbers::square_root::guess` meets its contract: both patterns are of small numbers, so no step leaves the finite values, and z has a pattern (`Guessing.antt`). Assumes nothing.
use Rattle.std.proofs.Common.{◌≡◌, ℕ, ◌+◌, ◌-◌, ◌/◌, ◌<◌, ◌≤◌, sym, refl, subst, arith}
use lib.Ieee.{Float, binary64, mul, of_bits}
use Rattle.numbers.specs.Inner.{newton_step}
use Rattle.numbers.proofs.Laws.Bounds.{Within, within_more, within_no_nan, mul_within}
use Rattle.numbers.proofs.square_root.Guessing.{below_nan, bits_within, step_within}
use Rattle.numbers.proofs.square_root.guess.Goals as goal

pub float_from_bits-v : goal.float_from_bits-v
float_from_bits-v c = below_nan _ (omega arith)

pub float_from_bits-x : goal.float_from_bits-x
float_from_bits-x c = below_nan _ (omega arith)

-- x's value and the first y are below 2, and so is each constant
value_small : (x : ℕ) → 4602678819172646912 ≤ x → x < 4611686018427387904 → Within 1 (of_bits binary64 x)
value_small x lo hi = bits_within x (x / 4503599627370496 - 1) 1 (omega arith) (omega arith) (omega arith)

start_small : (x : ℕ) → 4602678819172646912 ≤ x → x < 4611686018427387904 → Within 1 (of_bits binary64 (0x5fe4_0400_0000_0000 - x / 2))
start_small x lo hi = bits_within (0x5fe4_0400_0000_0000 - x / 2) ((0x5fe4_0400_0000_0000 - x / 2) / 4503599627370496 - 1) 1 (omega arith) (omega arith) (omega arith)

-- a step from y, where its h and its c are no larger than the constants here make them
step_small : (j : ℕ) (y h c r : Float) → 3 + (j + j + j) ≤ 1023 → Within j y → Within 2 h → Within 2 c → r ≡ newton_step y h c → Within (3 + (j + j + j)) r
step_small j y h c r l p q w e = subst (Within (3 + (j + j + j))) (sym e) (step_within j y h c l p q w)

pub float_to_bits-result : goal.float_to_bits-result
float_to_bits-result c =
    let s = c.before.before.before in
    let x = s.args.x in
    let v = of_bits binary64 x in
    let small : Within 1 v = value_small x s.requires.0 s.requires.1 in
    let h = mul binary64 v (of_bits binary64 0x3fe0_0000_0000_0000) in
    let half : Within 1 h = mul_within binary64 1 0 v (of_bits binary64 0x3fe0_0000_0000_0000) (omega arith) small (bits_within 0x3fe0_0000_0000_0000 1021 0 refl (omega arith) (omega arith)) in
    let one = step_small 1 _ _ _ _ (omega arith) (start_small x s.requires.0 s.requires.1)
    (mul_within binary64 1 1 v (of_bits binary64 0x3fe6_7b4a_2339_c0ec) (omega arith) small (bits_within 0x3fe6_7b4a_2339_c0ec 1021 1 refl (omega arith) (omega arith)))
    (bits_within 0x3ffa_e48e_8a71_de6a 1022 2 refl (omega arith) (omega arith)) c.before.before.newton-y.ensures in
    let two = step_small 6 _ _ _ _ (omega arith) one (within_more 1 2 h (omega arith) half) (bits_within 0x3ff8_0000_0000_0000 1022 2 refl (omega arith) (omega arith)) c.before.newton.ensures in
    let three = step_small 21 _ _ _ _ (omega arith) two (mul_within binary64 1 1 v h (omega arith) small half)
    (mul_within binary64 1 1 v (of_bits binary64 0x3ff8_0000_0000_1000) (omega arith) small (bits_within 0x3ff8_0000_0000_1000 1022 1 refl (omega arith) (omega arith))) c.newton-z.ensures in
    within_no_nan 66 _ three
