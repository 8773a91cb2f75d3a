-- `plain::edges::radius` meets its contract. Assumes nothing.
use Rattle.ranges.specs.Config.{radius}
use Rattle.plain.proofs.edges.radius.Goals as goal

pub returns : goal.returns
unfolding radius
returns c = c.narrow.ensures
