-- `plain::checks::check_segments` meets its contract: the refusal is that of the first bad segment from the loop's on. Assumes nothing.
use Rattle.std.proofs.Common.{arith}
use Rattle.inputs.specs.Checks.{segments_place}
use Rattle.plain.proofs.checks.Chosen.{found_none, found_more, found_all}
use Rattle.plain.proofs.checks.check_segments.Goals as goal

pub loop-i-init : goal.loop-i-init
loop-i-init c = found_none _ _ _ _

pub loop-i-preserved : goal.loop-i-preserved
loop-i-preserved c = found_more c.loop-i.invariant (omega (arith, c.loop-i-test.true)) c.bad_segment.ensures c.refused_content-found.ensures

pub returns : goal.returns
unfolding segments_place
returns c = found_all c.loop-i.invariant c.loop-i-test.false
