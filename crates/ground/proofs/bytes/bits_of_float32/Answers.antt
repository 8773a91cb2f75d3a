-- `ground::bytes::bits_of_float32` meets its contract. Assumes nothing.
use mathlib.Core.Path.{sym, ◌∙◌}
use lib.Ieee.{to_bits}
use Rattle.ground.proofs.Laws.Nan.{ne_self, is_nan_law}
use Rattle.ground.proofs.bytes.bits_of_float32.Goals as goal

pub returns-then-is_nan : goal.returns-then-is_nan
unfolding to_bits
returns-then-is_nan c = rw (is_nan_law c.args.x (ne_self c.args.x ∙ sym c.is_nan.ensures.value ∙ c.if-is_nan.true))
