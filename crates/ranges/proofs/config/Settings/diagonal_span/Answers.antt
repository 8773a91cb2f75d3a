-- `ranges::config::Settings::diagonal_span` meets its contract. Assumes nothing.
use Rattle.std.proofs.Common.{refl}
use Rattle.ranges.specs.Config.{diagonal_span}
use Rattle.ranges.proofs.config.Settings.diagonal_span.Goals as goal

pub returns : goal.returns
unfolding diagonal_span
returns c = refl
