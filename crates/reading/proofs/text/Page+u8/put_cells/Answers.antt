-- `reading::text::Page::put_cells` meets its contract. Assumes nothing.
use Prim.Native.Nat.{◌+◌, ◌^◌, ◌≤◌, ◌<◌}
use native.Mathlib.Nat.{le_refl}
use native.Mathlib.Omega.{arith}
use lib.ListN.{length}
use Rattle.reading.proofs.page.Puts.{put_then, put_room}
use Rattle.reading.specs.Text.{cells_text}
use Rattle.reading.proofs.Laws.Decimal.{decimal_length_u64}
use Rattle.reading.proofs.text.Lengths.{numbered_length}
use Rattle.reading.proofs.text.Page+u8.put_cells.Goals as goal
use Rattle.reading.proofs.text.Page+u8.put_cells.Goals.{After-put_all, After-put_named, After-put_named-2, Start}

-- the counts fit a u64
fits : (c : Start) → (c.args.c.protected < 2 ^ 64) × (c.args.c.error < 2 ^ 64) × (c.args.c.corner < 2 ^ 64)
fits c = (omega arith, omega arith, omega arith)

-- the room after the first count, the second and the name of the third
room : (c : After-put_named) → c.put_named.new.self.at + 54 ≤ length c.put_named.new.self.out.now
room c = put_room 31 54 c.put_named.ensures (omega (arith, numbered_length c.args.c.protected 32 (fits (goal.at.After-put_named c).Start).0)) (omega arith)

room_2 : (c : After-put_named-2) → c.put_named-2.new.self.at + 27 ≤ length c.put_named-2.new.self.out.now
room_2 c =
    put_room 27 27 c.put_named-2.ensures (omega (arith, numbered_length c.args.c.error 32 (fits (goal.at.After-put_named-2 c).Start).1)) (omega (arith, room (goal.at.After-put_named-2 c).After-put_named))

room_3 : (c : After-put_all) → c.put_all.new.self.at + 20 ≤ length c.put_all.new.self.out.now
room_3 c = put_room 7 20 c.put_all.ensures (le_refl 7) (omega (arith, room_2 (goal.at.After-put_all c).After-put_named-2))

pub put_named-requires-2 : goal.put_named-requires-2
put_named-requires-2 c = omega (arith, room (goal.at.put_named-requires-2 c).After-put_named)

pub put_all-requires : goal.put_all-requires
put_all-requires c = omega (arith, room_2 (goal.at.put_all-requires c).After-put_named-2)

pub put_decimal-requires : goal.put_decimal-requires
put_decimal-requires c =
    omega (arith, room_3 (goal.at.put_decimal-requires c).After-put_all, decimal_length_u64 c.args.c.corner (fits (goal.at.put_decimal-requires c).Start).2)

pub returns : goal.returns
unfolding cells_text
returns c =
    put_then c.put_named.ensures (put_then c.put_named-2.ensures (put_then c.put_all.ensures c.put_decimal.ensures))
