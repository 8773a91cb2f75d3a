-- `reading::text::Page::put_hex` meets its contract. Assumes nothing.
use Prim.Native.Nat.{◌/◌}
use native.Mathlib.Omega.{arith}
use Rattle.reading.proofs.page.Puts.{put_then, put_room}
use Rattle.reading.specs.Text.{hex}
use Rattle.reading.proofs.text.Lengths.{hex_pair_length}
use Rattle.reading.proofs.text.Page+u8.put_hex.Goals as goal

pub put_hex_pair-requires-2 : goal.put_hex_pair-requires-2
put_hex_pair-requires-2 c =
    let r1 = put_room 2 6 c.put_hex_pair.ensures (hex_pair_length (c.args.v / 16777216)) (omega arith) in
    omega (arith, r1)

pub put_hex_pair-requires-3 : goal.put_hex_pair-requires-3
put_hex_pair-requires-3 c =
    let r1 = put_room 2 6 c.put_hex_pair.ensures (hex_pair_length (c.args.v / 16777216)) (omega arith) in
    let r2 = put_room 2 4 c.put_hex_pair-2.ensures (hex_pair_length (c.args.v / 65536)) (omega (arith, r1)) in
    omega (arith, r2)

pub put_hex_pair-requires-4 : goal.put_hex_pair-requires-4
put_hex_pair-requires-4 c =
    let r1 = put_room 2 6 c.put_hex_pair.ensures (hex_pair_length (c.args.v / 16777216)) (omega arith) in
    let r2 = put_room 2 4 c.put_hex_pair-2.ensures (hex_pair_length (c.args.v / 65536)) (omega (arith, r1)) in
    let r3 = put_room 2 2 c.put_hex_pair-3.ensures (hex_pair_length (c.args.v / 256)) (omega (arith, r2)) in
    omega (arith, r3)

pub returns : goal.returns
unfolding hex
returns c =
    put_then c.put_hex_pair.ensures (put_then c.put_hex_pair-2.ensures (put_then c.put_hex_pair-3.ensures c.put_hex_pair-4.ensures))
