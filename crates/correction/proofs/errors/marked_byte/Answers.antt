-- `correction::errors::marked_byte` meets its contract. Assumes nothing.
use mathlib.Core.Path.{sym, ◌∙◌}
use Rattle.correction.proofs.errors.marked_byte.Goals as goal

pub returns-then-is_artifact : goal.returns-then-is_artifact
returns-then-is_artifact c = rw (sym c.is_artifact.ensures ∙ c.if-is_artifact.true) c.set_error.ensures

pub returns-else-is_artifact : goal.returns-else-is_artifact
returns-else-is_artifact c = rw (sym c.is_artifact.ensures ∙ c.if-is_artifact.false)
