-- `correction::cells::window_of` meets its contract. Assumes nothing.
use Prim.Native.Nat.{◌+◌, ◌*◌, ◌<◌}
use native.Mathlib.Omega.{arith}
use Rattle.inputs.proofs.Laws.Places.{cell_small}
use Rattle.correction.proofs.cells.window_of.Goals as goal
use Rattle.correction.proofs.cells.window_of.Goals.{Start}

-- the area's first texel is one of the sheet's
small : (c : Start) → let a = c.args.a in a.y * c.args.b.width + a.x < 16777216
small c =
    let i = c.requires.0 in
    cell_small c.args.b.width c.args.b.height c.args.a.x c.args.a.y (omega (arith, i.any, i.wide)) (omega (arith, i.some, i.high)) c.requires.1 c.requires.2

pub overflow_mul-result : goal.overflow_mul-result
overflow_mul-result c = omega (arith, small c.before.before)

pub overflow_add-result : goal.overflow_add-result
overflow_add-result c = omega (arith, small c.before.before.before)
