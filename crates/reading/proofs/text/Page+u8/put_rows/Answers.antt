-- `reading::text::Page::put_rows` meets its contract: before row y those below it are written. Assumes nothing.
use Rattle.std.proofs.Common.{◌+◌, arith}
use native.Mathlib.Nat.{zero-mul}
use Rattle.ground.proofs.Laws.Write.{written_length}
use Rattle.reading.specs.Text.{row_text, rows_text}
use Rattle.reading.proofs.text.Lengths.{row_length}
use Rattle.reading.proofs.page.Puts.{joined_none, joined_more, joined_all}
use Rattle.reading.proofs.fields.Sizes.{next_row, row_within}
use Rattle.reading.proofs.text.Page+u8.put_rows.Goals as goal

pub loop-y-init : goal.loop-y-init
loop-y-init c = record { place = omega (arith, zero-mul (c.args.b.width + 1)); put = joined_none _ _ }

pub put_row-requires : goal.put_row-requires
put_row-requires c =
    let w = c.args.b.width in
    let i = c.loop-y.invariant in
    (omega (arith, row_within (w + 1) c.loop-y-test.true, i.place, written_length i.put.written), omega (arith, row_within w c.loop-y-test.true))

pub loop-y-preserved : goal.loop-y-preserved
loop-y-preserved c =
    let i = c.loop-y.invariant in
    let d = c.args in
    let y = c.loop-y.y in
    record {
      place = omega (arith, c.put_row.ensures.written.to, i.place, row_length d.b.width d.st.now y, next_row (d.b.width + 1) y);
      put = joined_more y (row_text d.b.width d.st.now) i.put c.put_row.ensures;
    }

pub returns : goal.returns
unfolding rows_text
returns c = joined_all _ _ c.loop-y.invariant.put (omega arith)
