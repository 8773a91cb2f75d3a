-- `pixels::conversion::write_bytes` meets its contract, by the laws of a loop that fills. Assumes nothing.
use Prim.Native.Nat.{◌<◌}
use native.Mathlib.Omega.{arith}
use lib.ListN.{length}
use lib.Ieee.{nan}
use Rattle.ground.proofs.Laws.Fill.{filled_map}
use Rattle.pixels.specs.Byte.{byte_of}
use Rattle.pixels.specs.Bytes.{bytes_of}
use Rattle.pixels.proofs.conversion.Answers.{Passed, passed}
use Rattle.pixels.proofs.conversion.write_bytes.Goals as goal
use Rattle.pixels.proofs.conversion.write_bytes.Goals.{In-loop-i, Start}

-- what the checks have said
pass : (s : Start) → Passed s.args.samples.now (length s.args.bytes.now)
pass s = passed s.args.samples.now (length s.args.bytes.now) s.requires

-- sample i is there
inside : (t : In-loop-i) → t.loop-i.i < length t.args.samples.now
inside t = omega (arith, t.loop-i.invariant.len, t.loop-i-test.true, (pass (goal.at.In-loop-i t).Start).long)

pub offset_bounds-samples-i : goal.offset_bounds-samples-i
offset_bounds-samples-i c = omega (arith, inside (goal.at.offset_bounds-samples-i c).In-loop-i)

pub bounds-samples-i : goal.bounds-samples-i
bounds-samples-i c = inside (goal.at.bounds-samples-i c).In-loop-i

pub float_to_byte-requires : goal.float_to_byte-requires
float_to_byte-requires c =
    (pass (goal.at.float_to_byte-requires c).Start).number c.loop-i.i (inside (goal.at.float_to_byte-requires c).In-loop-i)

pub returns : goal.returns
unfolding bytes_of
returns c =
    let l = c.loop-i in
    let p = pass (goal.at.returns c).Start in
    filled_map byte_of c.args.samples.now nan 0 c.args.bytes.now l.invariant p.long (omega (arith, p.long, l.invariant.len, c.loop-i-test.false))
