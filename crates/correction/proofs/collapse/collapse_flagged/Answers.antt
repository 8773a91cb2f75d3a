-- `correction::collapse::collapse_flagged` meets its contract. Assumes nothing.
use mathlib.Core.Path.{sym, ◌∙◌}
use native.Mathlib.Omega.{arith}
use Rattle.correction.proofs.collapse.collapse_flagged.Goals as goal

pub collapse-requires : goal.collapse-requires
collapse-requires c =
    omega (arith, c.place.ensures, c.requires.sampled.some, c.requires.sampled.held _ _ c.requires.x_lt_width.0 c.requires.x_lt_width.1)

pub place-requires : goal.place-requires
place-requires c = record { fits = c.requires.sampled.fits; x_lt_width = (c.requires.x_lt_width.0, c.requires.x_lt_width.1, c.requires.sampled.few) }

pub returns-then-is_error : goal.returns-then-is_error
returns-then-is_error c =
    c.collapse.ensures ∙ simp (sym c.is_error.ensures ∙ c.if-is_error.true, c.place.ensures)

pub returns-else-is_error : goal.returns-else-is_error
returns-else-is_error c = simp (sym c.is_error.ensures ∙ c.if-is_error.false)
