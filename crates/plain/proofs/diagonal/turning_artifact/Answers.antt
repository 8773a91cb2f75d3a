-- `plain::diagonal::turning_artifact` meets its contract. Assumes nothing.
use Rattle.plain.proofs.diagonal.Chosen.{moved}
use Rattle.plain.proofs.diagonal.turning_artifact.Goals as goal

pub returns : goal.returns
returns c =
    let u = c.before in
    moved _ _ _ _ _ _ _ _ u.median_at-em.ensures u.range_test-upper.ensures c.range_test-lower.ensures
