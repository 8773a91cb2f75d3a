-- `detectors::edge::radius` meets its contract. Assumes nothing.
use Rattle.ranges.specs.Config.{radius}
use Rattle.detectors.proofs.edge.radius.Goals as goal

pub returns : goal.returns
unfolding radius
returns c = c.narrow.ensures
