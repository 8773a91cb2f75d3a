-- `correction::window::count_cells` meets its contract: the cells of the rows before the loop's are counted. Assumes nothing.
use Prim.Native.Nat.{◌+◌}
use native.Mathlib.Omega.{arith}
use Rattle.correction.specs.Inner.{together}
use Rattle.correction.proofs.window.Rows.{Counted, counted_none, counted_more, counted_small, counted_all, cell_row}
use Rattle.correction.proofs.window.count_cells.Goals as goal
use Rattle.correction.proofs.window.count_cells.Goals.{After-count_cells}

pub cell-from-requires : goal.cell-from-requires
cell-from-requires c =
    let p = c.requires in record { fits = p.fits; x_lt_width = (omega (arith, p.fits.any), c.loop-y-test.true) }

pub overflow_add-end : goal.overflow_add-end
overflow_add-end c = omega (arith, (cell_row _ c.requires c.loop-y-test.true c.cell-from.ensures).small)

pub slice_bounds-count_cells-end : goal.slice_bounds-count_cells-end
slice_bounds-count_cells-end c = (cell_row _ c.requires c.loop-y-test.true c.cell-from.ensures).last

-- the counts after a row
more : (c : After-count_cells) → Counted c.args.b c.args.stencil.now (c.loop-y.y + 1) (together c.loop-y.sum c.count_cells.result)
more c =
    counted_more _ c.requires c.loop-y-test.true c.cell-from.ensures c.loop-y.invariant c.count_cells.ensures

pub together-sum-requires : goal.together-sum-requires
together-sum-requires c =
    let few = counted_small _ (more c) c.requires.fits in
    (omega (arith, few.0), omega (arith, few.1), omega (arith, few.2))

pub returns : goal.returns
returns c = counted_all _ c.loop-y.invariant c.loop-y-test.false

pub loop-y-init : goal.loop-y-init
loop-y-init c = counted_none _ _

pub loop-y-preserved : goal.loop-y-preserved
loop-y-preserved c =
    rw c.together-sum.ensures (more (goal.at.loop-y-preserved c).After-count_cells)
