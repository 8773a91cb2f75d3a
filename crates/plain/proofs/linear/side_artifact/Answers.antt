-- `plain::linear::side_artifact` meets its contract. Assumes nothing.
use Rattle.ground.specs.Lists.{any}
use Rattle.detectors.specs.Pairs.{next, difference}
use Rattle.detectors.specs.Linear.{linear_pair, linear_pairs, has_linear_artifact}
use Rattle.plain.proofs.linear.side_artifact.Goals as goal

pub returns : goal.returns
unfolding any next difference linear_pair linear_pairs has_linear_artifact
returns c =
    let r = c.before in
    let q = r.before in
    let p = q.before in
    let b = p.before in
    rw (c.is_tested.ensures, r.pair_artifact-r.ensures, q.pair_artifact-q.ensures, p.pair_artifact-p.ensures, b.median-bm.ensures, b.median-am.ensures)
