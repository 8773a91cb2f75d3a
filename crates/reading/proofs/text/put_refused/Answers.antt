-- `reading::text::put_refused` meets its contract. Assumes nothing.
use native.Mathlib.Omega.{arith}
use Rattle.std.proofs.Common.{rules}
use Rattle.reading.proofs.page.Puts.{put_then, put_room, lent}
use Rattle.reading.specs.Text.{refused_text}
use Rattle.reading.proofs.text.Lengths.{numbered_length}
use Rattle.reading.proofs.text.put_refused.Goals as goal

pub put_number-requires : goal.put_number-requires
put_number-requires c =
    let d = c.args in
    let r = put_room 29 21 c.put_named.ensures (omega (arith, numbered_length d.n 32 (omega arith))) (omega arith) in
    omega (arith, r, numbered_length d.place 10 (omega arith))

pub returns : goal.returns
unfolding refused_text
returns c = lent (put_then c.put_named.ensures c.put_number.ensures) (λ e. search rules)
