-- `reading::text::Page::put_row` meets its contract: before cell x those below it are written. Assumes nothing.
use Rattle.std.proofs.Common.{◌≡◌, ◌*◌, arith}
use Rattle.ground.proofs.Laws.Fill.{tab_length}
use Rattle.ground.proofs.Laws.Write.{written_length}
use Rattle.reading.specs.Text.{marks_text, row_text}
use Rattle.reading.proofs.page.Puts.{put_none, put_more, put_all, put_then}
use Rattle.reading.proofs.text.Page+u8.put_row.Goals as goal
use Rattle.reading.proofs.text.Page+u8.put_row.Invariants.{cell}

pub loop-x-init : goal.loop-x-init
loop-x-init c = put_none _ _

pub put-requires : goal.put-requires
put-requires c = omega (arith, c.loop-x.invariant.written.to, written_length c.loop-x.invariant.written, tab_length c.loop-x.x (cell c.args.st.now (c.args.y * c.args.w)))

pub loop-x-preserved : goal.loop-x-preserved
loop-x-preserved c = put_more _ (cell c.args.st.now (c.args.y * c.args.w)) c.loop-x.invariant c.mark.ensures c.put.ensures

pub put-requires-2 : goal.put-requires-2
put-requires-2 c = omega (arith, c.loop-x.invariant.written.to, written_length c.loop-x.invariant.written, tab_length c.loop-x.x (cell c.args.st.now (c.args.y * c.args.w)))

pub returns : goal.returns
unfolding row_text marks_text
returns c =
    let z : c.loop-x.x ≡ c.args.w = omega arith in
    put_then (put_all _ (cell c.args.st.now (c.args.y * c.args.w)) c.loop-x.invariant z) c.put-2.ensures
