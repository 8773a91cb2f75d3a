-- `reading::decode::contour_coords` meets its contract: before segment j those below it are decoded. Assumes nothing.
use native.Mathlib.Omega.{arith}
use Rattle.ground.proofs.Laws.Write.{written_length}
use Rattle.reading.specs.Case.{contour_coords}
use Rattle.reading.proofs.page.Puts.{joined_none, joined_more, joined_all}
use Rattle.reading.proofs.decode.Decoded.{coords_length}
use Rattle.reading.proofs.decode.contour_coords.Goals as goal
use Rattle.reading.proofs.decode.contour_coords.Invariants.{pair}

pub loop-j-init : goal.loop-j-init
loop-j-init c = joined_none _ _

pub segment_coords-requires : goal.segment_coords-requires
unfolding contour_coords
segment_coords-requires c =
    let w = c.loop-j.invariant.written in
    (omega arith, omega (arith, w.to, written_length w, coords_length c.args.s.now c.args.from c.loop-j.j))

pub loop-j-preserved : goal.loop-j-preserved
loop-j-preserved c = joined_more _ (pair c.args.s.now c.args.from) c.loop-j.invariant c.segment_coords.ensures

pub returns : goal.returns
unfolding contour_coords
returns c = joined_all _ (pair _ _) c.loop-j.invariant (omega arith)
