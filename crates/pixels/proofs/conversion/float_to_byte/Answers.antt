-- `pixels::conversion::float_to_byte` meets its contract: the product is exact, and the sum is rounded to the byte (`Holding.antt`). Assumes nothing.
use mathlib.Core.Path.{sym, subst}
use native.Mathlib.Omega.{arith}
use lib.Dec.{T}
use lib.Ieee.{Float, binary32, binary64, fits, mul, of_bits}
use Rattle.numbers.proofs.Laws.LastDigit.{Counted, ones_unit}
use Rattle.pixels.specs.Byte.{byte_of}
use Rattle.pixels.proofs.Laws.Byte.{byte_most}
use Rattle.pixels.proofs.conversion.Holding.{hold_widens, byte_counted}
use Rattle.pixels.proofs.conversion.float_to_byte.Goals as goal
use Rattle.pixels.proofs.conversion.float_to_byte.Goals.{After-hold, Start}

held : (c : Start) → T (fits binary32 c.args.v)
held c = subst T (sym c.well_formed.0.1) tt

-- the sum's digits count the byte
counts : (c : After-hold) → Counted (mul binary64 c.hold.result (of_bits binary64 0x406f_e000_0000_0000)) ones_unit 1074 (byte_of c.args.v)
counts c =
    let s = c.before in
    subst (λ (h : Float). Counted (mul binary64 h (of_bits binary64 0x406f_e000_0000_0000)) ones_unit 1074 (byte_of s.args.v)) (sym c.hold.ensures) (byte_counted s.args.v (held s) s.requires)

pub float_to_float-sum : goal.float_to_float-sum
float_to_float-sum c = let s = c.before.before in rw c.hold.ensures (hold_widens s.args.v (held s) s.requires)

pub returns : goal.returns
returns c = let n = (counts c.before).bits in omega (arith, n, byte_most c.args.v)

pub float_to_bits-result : goal.float_to_bits-result
float_to_bits-result c = (counts c.before).some
