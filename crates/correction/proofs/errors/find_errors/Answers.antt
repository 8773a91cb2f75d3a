-- `correction::errors::find_errors` meets its contract: row by row. Assumes nothing.
use native.Mathlib.Omega.{arith}
use Rattle.correction.proofs.bitmap.Stretch.{upto_long}
use Rattle.correction.proofs.errors.Rows.{rows_begin, rows_ordered, rows_stencilled, rows_then, rows_few, rows_found, rows_made}
use Rattle.correction.proofs.errors.find_errors.Goals as goal

pub loop-y-init : goal.loop-y-init
loop-y-init c = let p = c.requires.stencilled in rows_begin _ _ _ _ p.0 p.1

pub find_in_row-tests-requires : goal.find_in_row-tests-requires
find_in_row-tests-requires c =
    let p = c.requires in record { sampled = p.sampled; stencilled = (rows_stencilled _ _ _ _ p.stencilled.0 p.stencilled.1 c.loop-y.invariant, rows_ordered _ _ _ _ p.stencilled.0 p.stencilled.1 c.loop-y.invariant); y_lt_height = c.loop-y-test.true }

pub overflow_add-tests : goal.overflow_add-tests
overflow_add-tests c =
    let p = c.requires.stencilled in
    omega (arith, rows_few _ _ _ _ p.0 p.1 (rows_then _ _ _ _ p.0 p.1 c.loop-y.invariant c.loop-y-test.true c.find_in_row-tests.ensures.finds c.find_in_row-tests.ensures.makes))

pub loop-y-preserved : goal.loop-y-preserved
loop-y-preserved c =
    let p = c.requires.stencilled in
    rows_then _ _ _ _ p.0 p.1 c.loop-y.invariant c.loop-y-test.true c.find_in_row-tests.ensures.finds c.find_in_row-tests.ensures.makes

pub shape_of-stencil : goal.shape_of-stencil
shape_of-stencil c = upto_long _ _ _ c.loop-y.invariant.cells

pub returns : goal.returns
returns c =
    let p = c.requires.stencilled in record { finds = rows_found _ _ _ _ p.0 p.1 c.loop-y.invariant c.loop-y-test.false; makes = rows_made _ _ _ _ p.0 p.1 c.loop-y.invariant c.loop-y-test.false }
