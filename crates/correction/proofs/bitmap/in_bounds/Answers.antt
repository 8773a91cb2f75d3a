-- `correction::bitmap::in_bounds` meets its contract. Assumes nothing.
use Rattle.std.proofs.Common.{rules, tests}
use Rattle.inputs.specs.Bounds.{in_bounds}
use Rattle.correction.proofs.bitmap.in_bounds.Goals as goal

pub returns-then-ny-gt0 : goal.returns-then-ny-gt0
unfolding in_bounds
returns-then-ny-gt0 c = search (tests, rules)

pub returns-else-ny-gt0 : goal.returns-else-ny-gt0
unfolding in_bounds
returns-else-ny-gt0 c = search (tests, rules)
