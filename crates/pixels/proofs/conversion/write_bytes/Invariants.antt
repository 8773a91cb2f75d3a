-- `pixels::conversion::write_bytes` meets its contract, by the laws of a loop that fills. Assumes nothing.
use lib.ListN.{get_or}
use lib.Ieee.{nan}
use Rattle.ground.proofs.Laws.Fill.{Filled}
use Rattle.pixels.specs.Byte.{byte_of}
use Rattle.pixels.proofs.conversion.write_bytes.Given as goal

abbrev pub invariant-loop-i : goal.invariant-loop-i
invariant-loop-i l = Filled 0 (λ j. byte_of (get_or l.samples j nan)) l.initial.bytes l.i l.bytes
