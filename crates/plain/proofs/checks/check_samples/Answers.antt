-- `plain::checks::check_samples` meets its contract: the refusal is that of the first bad sample from the loop's on. Assumes nothing.
use Rattle.std.proofs.Common.{arith}
use Rattle.inputs.specs.Checks.{samples_place}
use Rattle.plain.proofs.checks.Chosen.{found_none, found_more, found_all}
use Rattle.plain.proofs.checks.check_samples.Goals as goal

pub loop-j-init : goal.loop-j-init
loop-j-init c = found_none _ _ _ _

pub loop-j-preserved : goal.loop-j-preserved
loop-j-preserved c = found_more c.loop-j.invariant (omega (arith, c.loop-j-test.true)) c.bad_sample.ensures c.refused_content-found.ensures

pub returns : goal.returns
unfolding samples_place
returns c = found_all c.loop-j.invariant c.loop-j-test.false
