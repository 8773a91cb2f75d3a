-- `correction::edges::median_near` meets its contract. Assumes nothing.
use Prim.Native.Nat.{◌+◌, ◌<◌}
use native.Mathlib.Omega.{arith}
use lib.ListN.{length}
use Rattle.correction.proofs.edges.Room.{row_lies}
use Rattle.correction.proofs.edges.median_near.Goals as goal
use Rattle.correction.proofs.edges.median_near.Goals.{After-row_place}

-- the median is in the room
held : (c : After-row_place) → let a = c.args in c.row_place.result + a.x < length a.room.now
held c =
    rw c.row_place.ensures (row_lies c.args.b c.args.x c.args.v _ c.requires.x_lt_width.0 c.requires.sampled.1)

pub returns-then-v-y : goal.returns-then-v-y
returns-then-v-y c = rw (c.median-m.ensures, c.texel.ensures)

pub returns : goal.returns
returns c =
    rw c.row_place.ensures (c.requires.x_lt_width.2 (omega (arith, c.if-v-y.false)) _ c.requires.x_lt_width.0)

pub overflow_add-result : goal.overflow_add-result
overflow_add-result c = omega (arith, held c, c.well_formed)

pub offset_bounds-room-row_place : goal.offset_bounds-room-row_place
offset_bounds-room-row_place c = omega (arith, held c, c.well_formed)

pub bounds-room-row_place : goal.bounds-room-row_place
bounds-room-row_place c = held (goal.at.bounds-room-row_place c).After-row_place
