-- `correction::sheet::check_cells` meets its contract: the cells before the loop's pass their checks. Assumes nothing.
use mathlib.Core.Path.{refl}
use Rattle.inputs.proofs.Laws.Refusal.{content_not_0}
use Rattle.correction.proofs.sheet.Contents.{passing_none, passing_more, content_found, content_none}
use Rattle.correction.proofs.sheet.check_cells.Goals as goal

pub check_cell-requires : goal.check_cell-requires
check_cell-requires c = (c.requires, c.loop-c-test.true)

pub returns-in-Err : goal.returns-in-Err
returns-in-Err c = content_found _ c.loop-c.invariant c.loop-c-test.true (c.in-Err.ensures.numbers, c.in-Err.ensures.places) (content_not_0 _)

pub loop-c-preserved : goal.loop-c-preserved
loop-c-preserved c = passing_more _ c.loop-c.invariant c.loop-c-test.true c.in_default.ensures.numbers refl

pub returns : goal.returns
returns c = content_none _ c.loop-c.invariant c.loop-c-test.false

pub loop-c-init : goal.loop-c-init
loop-c-init c = passing_none _
