-- `reading::text::Page::put_texels` meets its contract: before cell k those below it are written. Assumes nothing.
use Rattle.std.proofs.Common.{arith}
use Rattle.correction.specs.Bitmap.{cell_texel}
use Rattle.ground.proofs.Laws.Write.{written_length}
use Rattle.reading.proofs.text.Lengths.{flagged_length}
use Rattle.reading.proofs.page.Puts.{joined_none, joined_more, joined_all}
use Rattle.reading.proofs.fields.Sizes.{row_within}
use Rattle.reading.proofs.text.Page+u8.put_texels.Goals as goal

pub loop-k-init : goal.loop-k-init
loop-k-init c = record { place = omega arith; put = joined_none _ _ }

pub put_flagged-requires : goal.put_flagged-requires
put_flagged-requires c =
    let i = c.loop-k.invariant in
    record { room = (omega (arith, i.place, written_length i.put.written), omega arith); texels = (omega (arith, row_within c.args.b.channels c.loop-k-test.true), c.requires.texels.2, omega arith) }

pub loop-k-preserved : goal.loop-k-preserved
loop-k-preserved c =
    let i = c.loop-k.invariant in
    let d = c.args in
    let k = c.loop-k.k in
    record {
      place = omega (arith, c.put_flagged.ensures.written.to, i.place, flagged_length d.b.width d.st.now (cell_texel d.xs.now d.b.channels) k (omega arith));
      put = joined_more k _ i.put c.put_flagged.ensures;
    }

pub returns : goal.returns
returns c = joined_all _ _ c.loop-k.invariant.put (omega arith)
