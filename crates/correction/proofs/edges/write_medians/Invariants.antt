-- `correction::edges::write_medians` meets its contract. Assumes nothing.
use Rattle.correction.proofs.edges.Room.{Written}
use Rattle.correction.proofs.edges.write_medians.Given as goal

abbrev pub invariant-loop-x : goal.invariant-loop-x
invariant-loop-x l = Written l.b l.xs l.initial.room l.y l.room l.x
