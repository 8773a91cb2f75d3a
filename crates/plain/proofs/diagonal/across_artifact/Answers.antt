-- `plain::diagonal::across_artifact` meets its contract. Assumes nothing.
use Rattle.ground.specs.Lists.{any}
use Rattle.detectors.specs.Pairs.{next}
use Rattle.detectors.specs.Diagonal.{diagonal_pairs, has_diagonal_artifact}
use Rattle.std.proofs.Common.{rules}
use Rattle.plain.proofs.diagonal.across_artifact.Goals as goal

pub pair_artifact-p-requires : goal.pair_artifact-p-requires
unfolding next
pair_artifact-p-requires c = search rules

pub pair_artifact-q-requires : goal.pair_artifact-q-requires
unfolding next
pair_artifact-q-requires c = search rules

pub pair_artifact-r-requires : goal.pair_artifact-r-requires
unfolding next
pair_artifact-r-requires c = search rules

pub returns : goal.returns
unfolding any diagonal_pairs has_diagonal_artifact
returns c =
    let r = c.before in
    let q = r.before.before in
    let p = q.before.before in
    let d = p.before.before in
    rw (c.is_tested.ensures, r.pair_artifact-r.ensures, q.pair_artifact-q.ensures, p.pair_artifact-p.ensures, d.median-dm.ensures, d.median-am.ensures)
