-- `signs::rasterization::match_near` meets its contract. Assumes nothing.
use mathlib.Core.Path.{sym, ◌∙◌}
use Prim.Native.Nat.{◌-◌, ◌*◌, ◌<◌, ◌+◌}
use native.Mathlib.Omega.{arith}
use Rattle.inputs.proofs.Laws.Bounds.{Inside, inside}
use Rattle.inputs.proofs.Laws.Places.{cell_lt, cell_small}
use Rattle.signs.specs.Signs.{match_near}
use Rattle.signs.proofs.rasterization.Votes.{read_again}
use Rattle.signs.proofs.rasterization.match_near.Goals as goal
use Rattle.signs.proofs.rasterization.match_near.Goals.{Then-in_bounds}

-- the column and the row, where they are inside
at : (c : Then-in_bounds) → let s = c.before.before in Inside s.args.b.width s.args.b.height s.args.nx s.args.ny
at c = inside _ _ _ _ (sym c.in_bounds.ensures ∙ c.if-in_bounds.true)

-- the cell is one of the map's
small : (c : Then-in_bounds) → let s = c.before.before in (s.args.ny - 1) * s.args.b.width + (s.args.nx - 1) < 16777216
small c = let p = c.requires in cell_small _ _ _ _ (at c).column (at c).row p.wide p.high

pub overflow_mul-m : goal.overflow_mul-m
overflow_mul-m c = omega (arith, small c.before)

pub overflow_add-m : goal.overflow_add-m
overflow_add-m c = omega (arith, small c.before)

pub bounds-ms-ny : goal.bounds-ms-ny
bounds-ms-ny c =
    let t = c.before in
    rw t.requires.long (cell_lt _ _ _ _ (at t).column (at t).row)

pub returns-then-in_bounds : goal.returns-then-in_bounds
unfolding match_near
returns-then-in_bounds c =
    let b = c.before.before.before in
    simp (sym b.in_bounds.ensures ∙ c.if-in_bounds.true) (read_again _ (b.requires.held _))

pub returns : goal.returns
unfolding match_near
returns c = simp (sym c.in_bounds.ensures ∙ c.if-in_bounds.false)

pub overflow_sub-m : goal.overflow_sub-m
overflow_sub-m c = (at c).from_low

pub overflow_sub-m-then-in_bounds : goal.overflow_sub-m-then-in_bounds
overflow_sub-m-then-in_bounds c = (at c.before).from_left
