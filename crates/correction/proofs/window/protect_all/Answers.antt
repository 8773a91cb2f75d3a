-- `correction::window::protect_all` meets its contract: row by row. Assumes nothing.
use mathlib.Core.Path.{ap}
use Prim.Native.Nat.{ℕ, ◌*◌}
use Rattle.std.proofs.Common.{rules, tests}
use Rattle.ground.specs.Lists.{tab}
use Rattle.ground.proofs.Laws.Picked.{picked_length, pasted_as}
use Rattle.inputs.specs.Window.{cell_shown}
use Rattle.inputs.proofs.Laws.Windows.{still_stencilled}
use Rattle.correction.proofs.bitmap.Stretch.{rows_none, rows_next, rows_all, upto_long}
use Rattle.correction.proofs.window.Painting.{painted_row}
use Rattle.correction.proofs.window.Rows.{alone}
use Rattle.correction.proofs.window.protect_all.Goals as goal
use Rattle.correction.proofs.window.protect_all.Goals.{At-loop-y}
use Rattle.inputs.specs.Inner.{Stencilled}

pub loop-y-init : goal.loop-y-init
loop-y-init c = rows_none alone _ _

stencilled : (c : At-loop-y) → Stencilled c.args.b c.loop-y.stencil
stencilled c = still_stencilled _ c.requires _ (upto_long _ _ _ c.loop-y.invariant)

pub loop-y-preserved : goal.loop-y-preserved
loop-y-preserved c =
    rows_next alone _ _ c.loop-y.invariant c.requires c.loop-y-test.true
    (painted_row _ _ _ _ alone (stencilled (goal.at.loop-y-preserved c).At-loop-y) c.loop-y-test.true c.paint_row.ensures (λ x r l h. search (rules, tests)))

pub returns : goal.returns
returns c =
    let b = c.args.b in
    let n : ℕ = b.height * b.width in
    pasted_as 0 n (cell_shown b) (rows_all alone _ _ c.loop-y.invariant c.loop-y-test.false) (ap (λ (m : ℕ). tab m (λ k. 2)) (picked_length 0 n (cell_shown b) _))
