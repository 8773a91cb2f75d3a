-- `plain::checks::check_ends` meets its contract: the refusal is that of the first bad end from the loop's on. Assumes nothing.
use Rattle.std.proofs.Common.{arith}
use Rattle.inputs.specs.Checks.{ends_place}
use Rattle.plain.proofs.checks.Chosen.{found_none, found_more, found_all, ends_told}
use Rattle.plain.proofs.checks.check_ends.Goals as goal

pub loop-i-init : goal.loop-i-init
loop-i-init c = found_none _ _ _ _

pub loop-i-preserved : goal.loop-i-preserved
loop-i-preserved c = found_more c.loop-i.invariant (omega (arith, c.loop-i-test.true)) c.bad_end.ensures c.refused_content-found-in-loop-i.ensures

pub returns : goal.returns
unfolding ends_place
returns c =
    let a = c.args in
    let all = ends_told a.ends.now a.n a.rest _ c.end_before-last.ensures c.refused_content-found.ensures (found_all c.loop-i.invariant c.loop-i-test.false) in
    record { numbers = all.0; places = all.1 }
