-- `reading::text::Page::put_number` meets its contract. Assumes nothing.
use mathlib.Core.List.{[], ◌∷◌}
use native.Mathlib.Omega.{arith}
use lib.ListN.{length, length-append}
use Rattle.reading.proofs.page.Puts.{put_then, put_room}
use Rattle.reading.specs.Decimal.{decimal}
use Rattle.reading.specs.Text.{numbered}
use Rattle.reading.proofs.text.Page+u8.put_number.Goals as goal

pub put_decimal-requires : goal.put_decimal-requires
unfolding numbered
put_decimal-requires c = let d = c.args in omega (arith, length-append (decimal d.n) (d.b ∷ []))

pub put-requires : goal.put-requires
unfolding numbered
put-requires c =
    let d = c.args in
    let r1 = put_room (length (decimal d.n)) 1 c.put_decimal.ensures (omega arith) (omega (arith, length-append (decimal d.n) (d.b ∷ []))) in
    omega (arith, r1)

pub returns : goal.returns
unfolding numbered
returns c = put_then c.put_decimal.ensures c.put.ensures
