-- `pixels::conversion::byte_to_float` meets its contract: a byte is a value of binary32, so the quotient is the one rounding. Assumes nothing.
use mathlib.Core.Path.{refl, ap, ◌∙◌}
use mathlib.Core.Bool.{false}
use Prim.Native.Nat.{ℕ}
use native.Mathlib.Nat.{mul-one}
use native.Mathlib.Omega.{arith}
use lib.Dec.{lit<}
use lib.Ieee.{binary32, round, of_int, of_bits}
use lib.Ieee.Exact.{HasValue}
use lib.Ieee.Back.{round_whole}
use Rattle.numbers.proofs.Laws.Exact.{div_value}
use Rattle.pixels.specs.Byte.{sample_of}
use Rattle.pixels.proofs.conversion.byte_to_float.Goals as goal

steps : HasValue (of_bits binary32 0x437f_0000) false 255 1
unfolding of_bits
steps = (refl, refl)

pub returns : goal.returns
unfolding sample_of of_int
returns c =
    let k = c.args.k in
    div_value binary32 (round binary32 false k 1) (of_bits binary32 0x437f_0000) false false k 1 255 1 (lit< tt) (lit< tt) (lit< tt) (round_whole binary32 false k (omega (arith, c.well_formed))) steps
    ∙ ap (λ (n : ℕ). round binary32 false n 255) (mul-one k)
