-- `reading::text::Page::put_named` meets its contract: a number with the byte after it has at most 21 bytes. Assumes nothing.
use native.Mathlib.Nat.{le_refl}
use native.Mathlib.Omega.{arith}
use Rattle.reading.proofs.page.Puts.{put_then, put_room}
use Rattle.reading.proofs.text.Lengths.{numbered_length}
use Rattle.reading.proofs.text.Page+u8.put_named.Goals as goal

pub put_number-requires : goal.put_number-requires
put_number-requires c =
    let r = put_room _ 21 c.put_all.ensures (le_refl _) c.requires in
    omega (arith, r, numbered_length c.args.n c.args.b (omega arith))

pub returns : goal.returns
returns c = put_then c.put_all.ensures c.put_number.ensures
