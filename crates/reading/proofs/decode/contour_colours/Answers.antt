-- `reading::decode::contour_colours` meets its contract: before segment j those below it are decoded. Assumes nothing.
use mathlib.Core.Path.{◌≡◌, refl}
use native.Mathlib.Omega.{arith}
use Rattle.ground.proofs.Laws.Fill.{tab_length}
use Rattle.ground.proofs.Laws.Write.{written_length}
use Rattle.reading.specs.Case.{contour_colours}
use Rattle.reading.proofs.page.Puts.{put_none, put_more, put_all}
use Rattle.reading.proofs.decode.contour_colours.Goals as goal
use Rattle.reading.proofs.decode.contour_colours.Invariants.{colour}

pub loop-j-init : goal.loop-j-init
loop-j-init c = put_none _ _

pub put-requires : goal.put-requires
put-requires c = let w = c.loop-j.invariant.written in omega (arith, w.to, written_length w, tab_length c.loop-j.j (colour c.args.s.now c.args.from))

pub loop-j-preserved : goal.loop-j-preserved
loop-j-preserved c = put_more _ (colour c.args.s.now c.args.from) c.loop-j.invariant refl c.put.ensures

pub returns : goal.returns
unfolding contour_colours
returns c = let z : c.loop-j.j ≡ c.args.n = omega arith in put_all _ (colour c.args.s.now c.args.from) c.loop-j.invariant z
