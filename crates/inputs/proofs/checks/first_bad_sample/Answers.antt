-- `inputs::checks::first_bad_sample` meets its contract: where all are not good, the library's search finds the first bad one. Assumes nothing.
use mathlib.Core.Path.{◌≡◌}
use mathlib.Core.Bool.{true, false}
use lib.Ieee.{binary32, nan}
use borrow.Author.Tests.{tests}
use Rattle.std.proofs.Common.{rules}
use Rattle.std.proofs.lemmas.Iterator.{YieldsList-from_slice, IsFirst-from_position}
use Rattle.inputs.specs.Checks.{oversize, samples_place}
use Rattle.inputs.proofs.checks.Found.{found_first}
use Rattle.inputs.proofs.checks.first_bad_sample.Goals as goal

pub returns : goal.returns
unfolding samples_place
returns c =
    found_first (oversize binary32) c.args.xs.now nan c.position.result
    (IsFirst-from_position _ _ _ (λ x. oversize binary32 x ≡ true) (λ x. oversize binary32 x ≡ false) c.position.ensures.ran (YieldsList-from_slice c.args.xs.now cc) (λ x q k. search (rules, tests)) (λ x q k. search (rules, tests)))
