-- `correction::edges::some_of` meets its contract: it answers at the first pair that says so, and as the last does where no other says so. Assumes nothing.
use native.Mathlib.Omega.{arith}
use Rattle.std.proofs.Common.{rules, tests}
use Rattle.correction.specs.Inner.{some_of}
use Rattle.correction.proofs.edges.some_of.Goals as goal

pub as_either-requires : goal.as_either-requires
as_either-requires c =
    let p = c.requires in record { sampled = p.sampled; centred = p.centred; rows = (p.rows.0, omega arith) }

pub returns-then-as_either-3 : goal.returns-then-as_either-3
unfolding some_of
returns-then-as_either-3 c = search (tests, rules)

pub returns-else-as_either-3 : goal.returns-else-as_either-3
unfolding some_of
returns-else-as_either-3 c = search (tests, rules)
