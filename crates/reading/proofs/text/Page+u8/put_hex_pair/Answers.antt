-- `reading::text::Page::put_hex_pair` meets its contract. Assumes nothing.
use Rattle.std.proofs.Common.{◌≡◌, [], ◌∷◌, arith}
use Rattle.reading.specs.Text.{hex_pair}
use Rattle.reading.proofs.page.Puts.{put_then, put_as, put_room}
use Rattle.reading.proofs.text.Page+u8.put_hex_pair.Goals as goal

pub put-requires-2 : goal.put-requires-2
put-requires-2 c = let r = put_room 1 1 c.put.ensures (omega arith) (omega arith) in omega (arith, r)

pub returns : goal.returns
unfolding hex_pair
returns c =
    let e : c.hex_digit.result ∷ c.hex_digit-2.result ∷ [] ≡ hex_pair c.args.v = rw (c.hex_digit.ensures, c.hex_digit-2.ensures) in
    put_as _ e (put_then c.put.ensures c.put-2.ensures)
