-- `inputs::checks::first_bad_segment` meets its contract: no segment before the loop's is bad. Assumes nothing.
use mathlib.Core.Path.{◌∙◌, sym, ◌∙◌}
use native.Mathlib.Omega.{arith}
use Rattle.inputs.specs.Checks.{bad_segment, segments_place}
use Rattle.ground.proofs.Laws.Search.{search_none, search_more, search_found, search_end}
use Rattle.inputs.proofs.checks.first_bad_segment.Goals as goal

pub returns-then-bad_segment : goal.returns-then-bad_segment
unfolding segments_place bad_segment
returns-then-bad_segment c =
    (search_found c.loop-i.invariant (omega arith) c.bad_segment.ensures c.if-bad_segment.true, omega arith)

pub loop-i-preserved : goal.loop-i-preserved
unfolding bad_segment
loop-i-preserved c =
    search_more c.loop-i.invariant (omega arith) c.bad_segment.ensures c.if-bad_segment.false

pub returns : goal.returns
unfolding segments_place
returns c = sym (search_end c.loop-i.invariant c.loop-i-test.false) ∙ (omega (arith, c.loop-i.invariant.high))

pub loop-i-init : goal.loop-i-init
loop-i-init c = search_none _ _
