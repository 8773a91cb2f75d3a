-- `plain::checks::check_ends` meets its contract: the refusal is that of the first bad end from the loop's on. Assumes nothing.
use Rattle.std.proofs.Common.{length}
use Rattle.inputs.specs.declared.refusal.ContentRefusal.TheVariants.{End}
use Rattle.inputs.specs.Checks.{bad_end}
use Rattle.plain.proofs.checks.Chosen.{Found}
use Rattle.plain.proofs.checks.check_ends.Given as goal

abbrev pub invariant-loop-i : goal.invariant-loop-i
invariant-loop-i l = Found (bad_end l.ends l.n) (length l.ends) l.i End l.initial.found l.found
