-- `inputs::checks::first_bad_segment` meets its contract: no segment before the loop's is bad. Assumes nothing.
use lib.ListN.{length}
use Rattle.inputs.specs.Checks.{bad_segment}
use Rattle.ground.proofs.Laws.Search.{Searched}
use Rattle.inputs.proofs.checks.first_bad_segment.Given as goal

abbrev pub invariant-loop-i : goal.invariant-loop-i
invariant-loop-i l = Searched (bad_segment l.colours l.coords) (length l.colours) l.i
