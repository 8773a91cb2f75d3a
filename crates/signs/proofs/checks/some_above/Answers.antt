-- `signs::checks::some_above` meets its contract: so far the test is that of the bytes before the loop's. Assumes nothing.
use mathlib.Core.Path.{◌≡◌, refl, ◌∙◌}
use native.Mathlib.Omega.{arith}
use native.Mathlib.Numerals.{add-one}
use lib.ListN.{length}
use Rattle.ground.specs.Lists.{any}
use Rattle.signs.specs.Checks.{some_above}
use Rattle.signs.proofs.checks.some_above.Goals as goal

pub loop-byte-init : goal.loop-byte-init
unfolding any
loop-byte-init c = refl

pub loop-byte-preserved : goal.loop-byte-preserved
unfolding any
loop-byte-preserved c = rw (add-one, c.loop-byte.invariant)

pub returns : goal.returns
unfolding some_above
returns c =
    let l = c.loop-byte in
    let e : l.byte-index ≡ length c.args.filled.now = omega (arith, l.auto.byte-index-end, c.loop-byte-test.false) in
    l.invariant ∙ rw e
