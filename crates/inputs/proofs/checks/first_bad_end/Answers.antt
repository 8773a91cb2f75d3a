-- `inputs::checks::first_bad_end` meets its contract: no end before the loop's is bad, and the loop carries the end before its own. Assumes nothing.
use mathlib.Core.Path.{◌∙◌, ◌≡◌, sym}
use native.Mathlib.Omega.{arith}
use native.Mathlib.Numerals.{add-one}
use Rattle.inputs.specs.Checks.{bad_end, ends_place}
use Rattle.ground.proofs.Laws.Search.{search_none, search_more, search_found, search_end}
use Rattle.inputs.proofs.checks.Ends.{before_first, before_next}
use Rattle.inputs.proofs.checks.first_bad_end.Goals as goal
use Rattle.inputs.proofs.checks.first_bad_end.Goals.{After-bad_end}

-- what the call answers of the loop's end
answer : (c : After-bad_end) → c.bad_end.result ≡ bad_end c.args.ends.now c.args.n c.loop-i.i
unfolding bad_end
answer c = rw (← c.loop-i.invariant.1) c.bad_end.ensures

pub returns-then-bad_end : goal.returns-then-bad_end
unfolding ends_place
returns-then-bad_end c =
    (search_found c.loop-i.invariant.0 (omega arith) (answer (goal.at.returns-then-bad_end c).After-bad_end) c.if-bad_end.true, omega arith)

pub loop-i-preserved : goal.loop-i-preserved
loop-i-preserved c =
    (search_more c.loop-i.invariant.0 (omega arith) (answer (goal.at.loop-i-preserved c).After-bad_end) c.if-bad_end.false, sym (before_next _ _ _ (add-one _)))

pub returns : goal.returns
unfolding ends_place
returns c = sym (search_end c.loop-i.invariant.0 c.loop-i-test.false) ∙ (omega (arith, c.loop-i.invariant.0.high))

pub loop-i-init : goal.loop-i-init
loop-i-init c = (search_none _ _, sym (before_first _))
