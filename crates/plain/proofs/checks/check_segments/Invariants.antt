-- `plain::checks::check_segments` meets its contract: the refusal is that of the first bad segment from the loop's on. Assumes nothing.
use Rattle.std.proofs.Common.{length}
use Rattle.inputs.specs.Checks.{bad_segment}
use Rattle.inputs.specs.declared.refusal.ContentRefusal.TheVariants.{Segment}
use Rattle.plain.proofs.checks.Chosen.{Found}
use Rattle.plain.proofs.checks.check_segments.Given as goal

abbrev pub invariant-loop-i : goal.invariant-loop-i
invariant-loop-i l = Found (bad_segment l.colours l.coords) (length l.colours) l.i Segment l.fn.rest l.found
