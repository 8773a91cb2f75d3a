-- `reading::text::Page::put_texel` meets its contract: after each part there is room for the rest. Assumes nothing.
use Prim.Native.Nat.{◌+◌, ◌≤◌}
use native.Mathlib.Omega.{arith}
use lib.ListN.{length}
use mathlib.Core.Path.{ap}
use Rattle.reading.proofs.page.Puts.{put_then, put_as, put_room}
use Rattle.reading.specs.Text.{hex, texel_text}
use Rattle.reading.proofs.text.Lengths.{numbered_short, numbered_digit, hex_length}
use Rattle.reading.proofs.text.Page+u8.put_texel.Goals as goal
use Rattle.reading.proofs.text.Page+u8.put_texel.Goals.{After-put_all, After-put_hex, After-put_number, After-put_number-2}

-- ---- places of the code, each from the next

-- ---- the room after each part

column_room : (c : After-put_number) → c.put_number.new.self.at + 20 ≤ length c.put_number.new.self.out.now
column_room c = put_room 6 20 c.put_number.ensures (numbered_short c.args.x 32 c.requires.1) (omega arith)

row_room : (c : After-put_number-2) → c.put_number-2.new.self.at + 14 ≤ length c.put_number-2.new.self.out.now
row_room c = put_room 6 14 c.put_number-2.ensures (numbered_short c.args.y 32 c.requires.2) (omega (arith, column_room (goal.at.After-put_number-2 c).After-put_number))

bits_room : (c : After-put_hex) → c.put_hex.new.self.at + 6 ≤ length c.put_hex.new.self.out.now
bits_room c = put_room 8 6 c.put_hex.ensures (hex_length c.bits_of_float32.result) (omega (arith, row_room (goal.at.After-put_hex c).After-put_number-2))

name_room : (c : After-put_all) → c.put_all.new.self.at + 2 ≤ length c.put_all.new.self.out.now
name_room c = put_room 4 2 c.put_all.ensures (omega arith) (omega (arith, bits_room (goal.at.After-put_all c).After-put_hex))

-- ---- the needs

pub put_number-requires : goal.put_number-requires
put_number-requires c = omega (arith, numbered_short c.args.x 32 c.requires.1)

pub put_number-requires-2 : goal.put_number-requires-2
put_number-requires-2 c =
    omega (arith, column_room (goal.at.put_number-requires-2 c).After-put_number, numbered_short c.args.y 32 c.requires.2)

pub put_hex-requires : goal.put_hex-requires
put_hex-requires c = omega (arith, row_room (goal.at.put_hex-requires c).After-put_number-2)

pub put_all-requires : goal.put_all-requires
put_all-requires c = omega (arith, bits_room (goal.at.put_all-requires c).After-put_hex)

pub put_number-requires-3 : goal.put_number-requires-3
put_number-requires-3 c =
    omega (arith, name_room (goal.at.put_number-requires-3 c).After-put_all, numbered_digit c.args.m.channel 10 (omega (arith, c.requires.3)))

pub returns : goal.returns
unfolding texel_text
returns c =
    put_then c.put_number.ensures (put_then c.put_number-2.ensures (put_then (put_as _ (ap hex c.bits_of_float32.ensures) c.put_hex.ensures) (put_then c.put_all.ensures c.put_number-3.ensures)))
