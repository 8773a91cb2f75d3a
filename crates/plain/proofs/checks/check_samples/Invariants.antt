-- `plain::checks::check_samples` meets its contract: the refusal is that of the first bad sample from the loop's on. Assumes nothing.
use Rattle.std.proofs.Common.{length, get_or}
use lib.Ieee.{binary32, nan}
use Rattle.inputs.specs.Checks.{oversize}
use Rattle.inputs.specs.declared.refusal.ContentRefusal.TheVariants.{Sample}
use Rattle.plain.proofs.checks.Chosen.{Found}
use Rattle.plain.proofs.checks.check_samples.Given as goal

abbrev pub invariant-loop-j : goal.invariant-loop-j
invariant-loop-j l = Found (λ k. oversize binary32 (get_or l.xs k nan)) (length l.xs) l.j Sample l.fn.rest l.found
