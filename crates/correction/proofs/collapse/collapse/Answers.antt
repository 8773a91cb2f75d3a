-- `correction::collapse::collapse` meets its contract. Assumes nothing.
use native.Mathlib.Omega.{arith}
use lib.ListN.{length-set}
use Rattle.correction.proofs.collapse.collapse.Goals as goal

pub bounds-xs-at-5 : goal.bounds-xs-at-5
bounds-xs-at-5 c = simp length-set (omega arith)

pub returns : goal.returns
returns c = rw c.median-m.ensures
