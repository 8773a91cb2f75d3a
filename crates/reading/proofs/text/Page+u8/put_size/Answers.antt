-- `reading::text::Page::put_size` meets its contract. Assumes nothing.
use native.Mathlib.Omega.{arith}
use Rattle.reading.proofs.page.Puts.{put_then, put_room}
use Rattle.reading.specs.Text.{size_text}
use Rattle.reading.proofs.text.Lengths.{numbered_length}
use Rattle.reading.proofs.text.Page+u8.put_size.Goals as goal

pub put_number-requires : goal.put_number-requires
put_number-requires c =
    let b = c.args.b in
    let r = put_room 26 42 c.put_named.ensures (omega (arith, numbered_length b.width 32 (omega arith))) (omega arith) in
    omega (arith, r, numbered_length b.height 32 (omega arith))

pub put_number-requires-2 : goal.put_number-requires-2
put_number-requires-2 c =
    let b = c.args.b in
    let r1 = put_room 26 42 c.put_named.ensures (omega (arith, numbered_length b.width 32 (omega arith))) (omega arith) in
    let r2 = put_room 21 21 c.put_number.ensures (numbered_length b.height 32 (omega arith)) (omega (arith, r1)) in
    omega (arith, r2, numbered_length b.channels 10 (omega arith))

pub returns : goal.returns
unfolding size_text
returns c =
    put_then c.put_named.ensures (put_then c.put_number.ensures c.put_number-2.ensures)
