-- `detectors::diagonal::added` meets its contract. Assumes nothing.
use Rattle.std.proofs.Common.{sym, ◌∙◌, arith}
use Rattle.detectors.proofs.diagonal.added.Goals as goal

pub returns-then-turns : goal.returns-then-turns
returns-then-turns c = (simp (sym c.before.turns.ensures ∙ c.if-turns.true), omega arith)

pub returns-else-turns : goal.returns-else-turns
returns-else-turns c = (simp (sym c.before.turns.ensures ∙ c.if-turns.false), omega arith)
