-- `detectors::diagonal::curve_channel` meets its contract. Assumes nothing.
use Rattle.detectors.specs.Diagonal.{curve_channel}
use Rattle.detectors.proofs.diagonal.curve_channel.Goals as goal

pub returns : goal.returns
unfolding curve_channel
returns c = rw (c.curve.ensures, c.before.square_term.ensures, c.before.before.linear_term.ensures)
