-- `inputs::checks::first_bad_end` meets its contract: no end before the loop's is bad, and the loop carries the end before its own. Assumes nothing.
use mathlib.Core.Path.{◌≡◌}
use lib.ListN.{length}
use Rattle.inputs.specs.Checks.{end_before, bad_end}
use Rattle.ground.proofs.Laws.Search.{Searched}
use Rattle.inputs.proofs.checks.first_bad_end.Given as goal

abbrev pub invariant-loop-i : goal.invariant-loop-i
invariant-loop-i l = Searched (bad_end l.ends l.n) (length l.ends) l.i × (l.last ≡ end_before l.ends l.i)
