-- `detectors::pairs::interpolated_median_linear` meets its contract. Assumes nothing.
use Rattle.detectors.specs.Pairs.{mixed_median}
use Rattle.detectors.proofs.pairs.interpolated_median_linear.Goals as goal

pub returns : goal.returns
unfolding mixed_median
returns c =
    let z = c.before in
    let y = z.before in
    rw (c.median_value.ensures, z.mixed_channel-z.ensures, y.mixed_channel-y.ensures, y.before.mixed_channel-x.ensures)
