-- `detectors::diagonal::interpolated_median_quad` meets its contract. Assumes nothing.
use Rattle.detectors.specs.Diagonal.{curve_median}
use Rattle.detectors.proofs.diagonal.interpolated_median_quad.Goals as goal

pub returns : goal.returns
unfolding curve_median
returns c =
    let z = c.before in
    let y = z.before in
    rw (c.median_value.ensures, z.curve_channel-z.ensures, y.curve_channel-y.ensures, y.before.curve_channel-x.ensures)
