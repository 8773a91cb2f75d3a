-- `reading::text::put_accepted` meets its contract: after each part there is room for the rest. Assumes nothing.
use Prim.Native.Nat.{◌+◌, ◌*◌, ◌≤◌}
use native.Mathlib.Nat.{mul_comm, mul-add}
use native.Mathlib.Omega.{arith}
use lib.ListN.{length}
use Rattle.ground.proofs.Laws.Write.{written_length}
use Rattle.std.proofs.Common.{rules}
use Rattle.reading.proofs.page.Puts.{put_then, put_room, lent}
use Rattle.reading.specs.Text.{accepted_with}
use Rattle.reading.proofs.text.Lengths.{size_length, rows_length}
use Rattle.reading.proofs.text.put_accepted.Goals as goal
use Rattle.reading.proofs.text.put_accepted.Goals.{After-put_counts, After-put_size}

-- ---- places of the code, each from the next

-- ---- the room after the size, and after the counts

size_room : (c : After-put_size) → c.put_size.new.self.at + 131004 ≤ length c.put_size.new.self.out.now
size_room c =
    let b = c.args.b in
    put_room 68 131004 c.put_size.ensures (size_length b.width b.height b.channels (omega arith) (omega arith) (omega arith)) (omega arith)

counts_room : (c : After-put_counts) → c.put_counts.new.self.at + 130891 ≤ length c.put_counts.new.self.out.now
counts_room c = omega (arith, c.put_counts.ensures.1, written_length c.put_counts.ensures.0.written, size_room (goal.at.After-put_counts c).After-put_size)

-- ---- the needs

pub put_rows-requires : goal.put_rows-requires
put_rows-requires c =
    let b = c.args.b in
    let q = mul_comm b.height b.width in
    (omega (arith, q, counts_room (goal.at.put_rows-requires c).After-put_counts, mul-add b.height b.width 1), omega (arith, q))

pub put_texels-requires : goal.put_texels-requires
put_texels-requires c =
    let b = c.args.b in
    let r = put_room (b.width * b.height + b.height) (26 * (b.width * b.height)) c.put_rows.ensures (rows_length b.width b.height c.args.st.now) (omega (arith, counts_room (goal.at.put_texels-requires c).After-put_counts)) in record { room = (r, c.requires.room.0); texels = (c.requires.room.1, c.requires.sizes.1, c.requires.sizes.0, omega arith) }

pub returns : goal.returns
unfolding accepted_with
returns c =
    lent (put_then c.put_size.ensures (put_then c.put_counts.ensures.0 (put_then c.put_rows.ensures c.put_texels.ensures))) (λ e. search rules)

pub put_counts-requires : goal.put_counts-requires
put_counts-requires c = omega (arith, size_room (goal.at.put_counts-requires c).After-put_size)
