-- `inputs::checks::all_good` meets its contract: as long as all are good, the search for a bad one goes on. Assumes nothing.
use mathlib.Core.Path.{◌≡◌}
use mathlib.Core.Bool.{true}
use lib.ListN.{length, get_or}
use lib.Ieee.{binary32, nan}
use Rattle.inputs.specs.Checks.{oversize}
use Rattle.ground.proofs.Laws.Search.{Searched}
use Rattle.inputs.proofs.checks.all_good.Given as goal

abbrev pub invariant-loop-x : goal.invariant-loop-x
invariant-loop-x l = l.good ≡ true → Searched (λ j. oversize binary32 (get_or l.xs j nan)) (length l.xs) l.x-index
