-- `correction::window::paint_row` meets its contract: the row is painted up to column x. Assumes nothing.
use Rattle.correction.proofs.window.Painting.{painted_none, painted_held, painted_byte, painted_more, painted_all}
use Rattle.correction.proofs.window.paint_row.Goals as goal

pub loop-x-init : goal.loop-x-init
loop-x-init g c = painted_none _ _ _ _

pub paint-requires : goal.paint-requires
paint-requires g c =
    let p = c.requires in
    rw (painted_byte _ _ _ _ p.stencilled p.y_lt_height c.loop-x.invariant c.loop-x-test.true c.cell-k.ensures, c.cell-k.ensures) (p.callable _ c.loop-x-test.true)

pub bounds-stencil-k-in-loop-x : goal.bounds-stencil-k-in-loop-x
bounds-stencil-k-in-loop-x g c =
    let p = c.requires in
    painted_held _ _ _ _ p.stencilled p.y_lt_height c.loop-x.invariant c.loop-x-test.true c.cell-k.ensures

pub loop-x-preserved : goal.loop-x-preserved
loop-x-preserved g c =
    let p = c.requires in
    painted_more _ _ _ _ p.stencilled p.y_lt_height c.loop-x.invariant c.loop-x-test.true c.cell-k.ensures c.paint.ensures

pub returns : goal.returns
returns g c = painted_all _ _ _ _ c.loop-x.invariant c.loop-x.auto.x-end c.loop-x-test.false
