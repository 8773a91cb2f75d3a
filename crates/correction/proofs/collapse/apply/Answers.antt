-- `correction::collapse::apply` meets its contract: row by row. Assumes nothing.
use mathlib.Core.Path.{ap}
use native.Mathlib.Nat.{mul-le-mul_right}
use Rattle.std.proofs.Common.{rules, tests}
use Rattle.inputs.specs.Stencil.{is_error}
use Rattle.inputs.specs.Window.{cut_cells}
use Rattle.inputs.specs.Inner.{Stencilled}
use Rattle.inputs.proofs.Laws.Windows.{still_stencilled}
use Rattle.correction.specs.Inner.{without_orders}
use Rattle.correction.proofs.bitmap.Stretch.{rows_none, rows_next, rows_all, upto_long}
use Rattle.correction.proofs.collapse.Turns.{flags, bare, turning_none, turning_sampled, turning_row, turning_all}
use Rattle.correction.proofs.window.Painting.{painted_row}
use Rattle.correction.proofs.collapse.apply.Goals as goal
use Rattle.correction.proofs.collapse.apply.Goals.{At-loop-y}

stencilled : (l : At-loop-y) → Stencilled l.args.b l.loop-y.stencil
stencilled l = still_stencilled _ l.requires.stencilled _ (upto_long _ _ _ l.loop-y.invariant.1)

pub collapse_row-requires : goal.collapse_row-requires
collapse_row-requires c = record { sampled = turning_sampled _ _ _ c.requires.sampled c.loop-y.invariant.0; stencilled = stencilled (goal.at.collapse_row-requires c).At-loop-y; y_lt_height = c.loop-y-test.true }

pub paint_row-requires : goal.paint_row-requires
paint_row-requires c = record { stencilled = stencilled (goal.at.paint_row-requires c).At-loop-y; y_lt_height = c.loop-y-test.true; callable = search (rules, tests) }

pub loop-y-preserved : goal.loop-y-preserved
loop-y-preserved c =
    let p = c.requires in
    let i = c.loop-y.invariant in (
      turning_row _ _ _ p.sampled (flags (cut_cells c.args.b c.loop-y.stencil)) i.0 c.loop-y-test.true (λ k m. ap is_error (i.1.filled.rest k m)) c.collapse_row.ensures,
      rows_next bare _ _ i.1 p.stencilled c.loop-y-test.true (painted_row _ _ _ _ bare (stencilled (goal.at.loop-y-preserved c).At-loop-y) c.loop-y-test.true c.paint_row.ensures (λ x r l h. search (rules, tests))),
    )

pub returns : goal.returns
unfolding without_orders
returns c =
    let i = c.loop-y.invariant in record { leaves = rows_all bare _ _ i.1 c.loop-y-test.false; writes = turning_all _ _ _ c.requires.sampled i.0 (mul-le-mul_right _ c.loop-y-test.false) }

pub loop-y-init : goal.loop-y-init
loop-y-init c = (turning_none _ _ _, rows_none bare _ _)

pub shape_of-stencil : goal.shape_of-stencil
shape_of-stencil c = upto_long _ _ _ c.loop-y.invariant.1

pub shape_of-xs : goal.shape_of-xs
shape_of-xs c = c.loop-y.invariant.0.rest.long
