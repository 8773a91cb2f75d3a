-- `plain::collapse::collapse` meets its contract, by the laws of a loop that collapses. Assumes nothing.
use Rattle.plain.proofs.collapse.Turns.{flags, Turned}
use Rattle.plain.proofs.collapse.collapse.Given as goal

abbrev pub invariant-loop-k : goal.invariant-loop-k
invariant-loop-k l = Turned (flags l.stencil) l.initial.xs l.channels l.xs l.k
