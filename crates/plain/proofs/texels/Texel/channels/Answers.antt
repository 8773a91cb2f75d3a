-- `plain::texels::Texel::channels` meets its contract: the three places are the first and those one and two on. Assumes nothing.
use Rattle.std.proofs.Common.{add-zero}
use Rattle.correction.specs.Bitmap.{texel}
use Rattle.plain.proofs.texels.Texel.channels.Goals as goal

pub returns : goal.returns
unfolding texel
returns c = rw add-zero
