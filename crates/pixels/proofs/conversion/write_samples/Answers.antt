-- `pixels::conversion::write_samples` meets its contract, by the laws of a loop that fills. Assumes nothing.
use native.Mathlib.Omega.{arith}
use lib.Ieee.{nan}
use Rattle.ground.proofs.Laws.Fill.{filled_map}
use Rattle.pixels.specs.Byte.{sample_of}
use Rattle.pixels.specs.Bytes.{samples_of}
use Rattle.pixels.proofs.conversion.write_samples.Goals as goal

pub returns : goal.returns
unfolding samples_of
returns c =
    let l = c.loop-i in
    filled_map sample_of c.args.bytes.now 0 nan c.args.samples.now l.invariant c.requires (omega (arith, l.invariant.len, c.requires, c.loop-i-test.false))
