-- `correction::edges::write_medians` meets its contract. Assumes nothing.
use mathlib.Core.Path.{ap}
use Prim.Native.Nat.{ℕ, ◌+◌, ◌<◌}
use native.Mathlib.Nat.{lt_of_lt_of_le}
use native.Mathlib.Omega.{arith}
use lib.ListN.{length}
use Rattle.correction.proofs.edges.Room.{row_lies, written_none, written_more}
use Rattle.correction.proofs.edges.write_medians.Goals as goal
use Rattle.correction.proofs.edges.write_medians.Goals.{After-median-m}

pub loop-x-init : goal.loop-x-init
loop-x-init c = written_none _ _ _ _

pub texel-requires : goal.texel-requires
texel-requires c = record { sampled = c.requires.sampled.0; x_lt_width = (c.loop-x-test.true, c.requires.y_lt_height) }

-- the place is in the room
held : (c : After-median-m) → c.row_place-from.result + c.loop-x.x < length c.args.room.now
held c =
    rw c.row_place-from.ensures (row_lies c.args.b c.loop-x.x c.args.y _ c.loop-x-test.true c.requires.sampled.1)

pub bounds-room-from : goal.bounds-room-from
bounds-room-from c = omega (arith, held c, c.loop-x.invariant.long)

pub loop-x-preserved : goal.loop-x-preserved
loop-x-preserved c =
    written_more _ _ _ _ _ c.loop-x.invariant c.loop-x-test.true c.requires.sampled.1 (ap (λ (k : ℕ). k + c.loop-x.x) c.row_place-from.ensures) (rw (c.median-m.ensures, c.texel.ensures))

pub returns : goal.returns
returns c = record { here = λ x h. c.loop-x.invariant.done x (lt_of_lt_of_le h c.loop-x-test.false); there = c.loop-x.invariant.rest }

pub overflow_add-room : goal.overflow_add-room
overflow_add-room c = omega (arith, held c, c.well_formed)

pub offset_bounds-room-from : goal.offset_bounds-room-from
offset_bounds-room-from c = omega (arith, held c, c.well_formed)

pub shape_of-room : goal.shape_of-room
shape_of-room c = c.loop-x.invariant.long
