-- `detectors::texel::median` meets its contract. Assumes nothing.
use Rattle.detectors.specs.Texel.{texel_middle}
use Rattle.detectors.proofs.texel.median.Goals as goal

pub returns : goal.returns
unfolding texel_middle
returns c = c.median.ensures
