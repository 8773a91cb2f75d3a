-- `numbers::square_root::by_digits` meets its contract: with k digits left, the root of what stands before them (`Roots.antt`). Assumes nothing.
use Rattle.std.proofs.Common.{◌*◌, ◌/◌, ◌^◌}
use Rattle.numbers.specs.Inner.{IsRoot}
use Rattle.numbers.proofs.square_root.by_digits.Given as goal

abbrev pub invariant-loop-k : goal.invariant-loop-k
invariant-loop-k l = IsRoot (l.n / 2 ^ (2 * l.k)) l.h.s l.h.r
