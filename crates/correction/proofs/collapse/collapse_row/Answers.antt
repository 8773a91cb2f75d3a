-- `correction::collapse::collapse_row` meets its contract: the texels of the row are collapsed up to column x. Assumes nothing.
use Rattle.inputs.specs.Window.{cut_cells}
use Rattle.correction.proofs.collapse.Turns.{flags, flag_at, turning_sampled, turning_next, row_none, row_all}
use Rattle.correction.proofs.collapse.collapse_row.Goals as goal

pub loop-x-init : goal.loop-x-init
loop-x-init c =
    row_none (flags (cut_cells c.args.b c.args.stencil.now)) _ _ c.requires.sampled _

pub cell-requires : goal.cell-requires
cell-requires c = let p = c.requires in record { fits = p.sampled.fits; x_lt_width = (c.loop-x-test.true, p.y_lt_height) }

pub bounds-stencil-cell : goal.bounds-stencil-cell
bounds-stencil-cell c =
    let p = c.requires in
    rw c.cell.ensures (p.stencilled.held _ _ c.loop-x-test.true p.y_lt_height)

pub collapse_flagged-requires : goal.collapse_flagged-requires
collapse_flagged-requires c =
    let p = c.requires in record { sampled = turning_sampled _ _ _ p.sampled c.loop-x.invariant; x_lt_width = (c.loop-x-test.true, p.y_lt_height) }

pub loop-x-preserved : goal.loop-x-preserved
loop-x-preserved c =
    turning_next _ _ _ c.requires.sampled c.loop-x.invariant c.loop-x-test.true c.requires.y_lt_height (flag_at c.args.b c.args.stencil.now _ _ c.loop-x-test.true c.requires.y_lt_height c.cell.ensures) c.collapse_flagged.ensures

pub returns : goal.returns
returns c =
    row_all (flags (cut_cells c.args.b c.args.stencil.now)) _ _ c.requires.sampled _ c.loop-x.invariant c.loop-x-test.false

pub shape_of-xs : goal.shape_of-xs
shape_of-xs c = c.loop-x.invariant.rest.long
