-- `signs::checks::some_above` meets its contract: so far the test is that of the bytes before the loop's. Assumes nothing.
use mathlib.Core.Path.{◌≡◌}
use lib.Dec.{ltb}
use lib.ListN.{get_or}
use Rattle.ground.specs.Lists.{any}
use Rattle.signs.proofs.checks.some_above.Given as goal

abbrev pub invariant-loop-byte : goal.invariant-loop-byte
invariant-loop-byte l = l.bad ≡ any l.byte-index (λ j. ltb 1 (get_or l.filled j 0))
