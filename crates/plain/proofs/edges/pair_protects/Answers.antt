-- `plain::edges::pair_protects` meets its contract. Assumes nothing.
use Rattle.ground.specs.Lists.{any}
use Rattle.detectors.specs.Edge.{near, pair_protects}
use Rattle.plain.proofs.edges.pair_protects.Goals as goal

pub returns : goal.returns
unfolding any near pair_protects
returns c =
    let g = c.before in
    let r = g.before in
    let e = r.before in
    let d = e.before in
    let m = d.before in
    let b = m.before in
    rw (c.is_extreme-blue.ensures, g.is_extreme-green.ensures, r.is_extreme-red.ensures, e.abs32-2.ensures, d.abs32.ensures, m.median-m.ensures, b.median-bm.ensures, b.median-am.ensures)
