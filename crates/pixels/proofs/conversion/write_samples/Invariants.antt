-- `pixels::conversion::write_samples` meets its contract, by the laws of a loop that fills. Assumes nothing.
use lib.ListN.{get_or}
use lib.Ieee.{nan}
use Rattle.ground.proofs.Laws.Fill.{Filled}
use Rattle.pixels.specs.Byte.{sample_of}
use Rattle.pixels.proofs.conversion.write_samples.Given as goal

abbrev pub invariant-loop-i : goal.invariant-loop-i
invariant-loop-i l = Filled nan (λ j. sample_of (get_or l.bytes j 0)) l.initial.samples l.i l.samples
