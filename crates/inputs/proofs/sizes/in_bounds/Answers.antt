-- `inputs::sizes::in_bounds` meets its contract. Assumes nothing.
use native.Mathlib.Omega.{arith}
use borrow.Author.Tests.{tests}
use Rattle.std.proofs.Common.{rules}
use Rattle.inputs.specs.Bounds.{in_bounds}
use Rattle.inputs.proofs.sizes.in_bounds.Goals as goal

pub returns-then-ny-gt0 : goal.returns-then-ny-gt0
unfolding in_bounds
returns-then-ny-gt0 c = search (rules, tests)

pub returns-else-ny-gt0 : goal.returns-else-ny-gt0
unfolding in_bounds
returns-else-ny-gt0 c = grind (arith, tests)
