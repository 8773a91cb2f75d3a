-- `plain::diagonal::median_at` meets its contract. Assumes nothing.
use Rattle.detectors.specs.Diagonal.{curve_median}
use Rattle.plain.proofs.diagonal.median_at.Goals as goal

pub returns : goal.returns
unfolding curve_median
returns c =
    let z = c.before in
    let y = z.before in
    rw (c.median_value.ensures, z.channel_at-z.ensures, y.channel_at-y.ensures, y.channel_at-x.ensures)
