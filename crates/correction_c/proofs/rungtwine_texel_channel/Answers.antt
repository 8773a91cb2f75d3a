-- `correction_c::rungtwine_texel_channel` meets its contract. Assumes nothing.
use mathlib.Core.Path.{ap}
use Rattle.numbers.specs.declared.scalar.Middle.{Middle}
use Rattle.correction_c.proofs.rungtwine_texel_channel.Goals as goal

pub returns : goal.returns
returns c = ap (λ (m : Middle). m.channel) c.median-m.ensures
