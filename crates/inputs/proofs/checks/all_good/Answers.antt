-- `inputs::checks::all_good` meets its contract: as long as all are good, the search for a bad one goes on. Assumes nothing.
use mathlib.Core.Path.{refl, ap, ◌∙◌}
use mathlib.Core.Bool.{not}
use native.Mathlib.Omega.{arith}
use Rattle.inputs.specs.Checks.{oversize, samples_place}
use Rattle.ground.proofs.Laws.Search.{search_none, search_more, search_end}
use Rattle.ground.proofs.Laws.Bools.{both_hold}
use Rattle.inputs.proofs.checks.all_good.Goals as goal

pub loop-x-init : goal.loop-x-init
loop-x-init c = λ h. search_none _ _

pub loop-x-preserved : goal.loop-x-preserved
unfolding oversize
loop-x-preserved c =
    λ h. let g = both_hold _ _ h in search_more (c.loop-x.invariant g.0) (omega arith) refl (ap not g.1)

pub returns : goal.returns
unfolding samples_place
returns c = λ h. let s = c.loop-x.invariant h in (omega (arith, s.high)) ∙ search_end s c.loop-x-test.false
