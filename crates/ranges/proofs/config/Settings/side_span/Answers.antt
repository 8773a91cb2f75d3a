-- `ranges::config::Settings::side_span` meets its contract. Assumes nothing.
use Rattle.ranges.specs.Config.{side_span}
use Rattle.ranges.proofs.config.Settings.side_span.Goals as goal

pub returns-then-upright : goal.returns-then-upright
unfolding side_span
returns-then-upright c = simp c.if-upright.true

pub returns-else-upright : goal.returns-else-upright
unfolding side_span
returns-else-upright c = simp c.if-upright.false
