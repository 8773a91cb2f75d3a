-- `numbers::scalar::abs32` meets its contract (`floats/Signs.antt`). Assumes nothing.
use Rattle.std.proofs.Common.{sym, ◌∙◌}
use lib.Ieee.{binary32}
use Rattle.numbers.specs.Scalar.{abs_of}
use Rattle.ground.proofs.Laws.Nan.{ne_self, is_nan_law}
use Rattle.numbers.proofs.floats.Signs.{read_abs}
use Rattle.numbers.proofs.scalar.abs32.Goals as goal

pub returns-then-is_nan : goal.returns-then-is_nan
unfolding abs_of
returns-then-is_nan c = rw (is_nan_law c.args.x (ne_self c.args.x ∙ sym c.is_nan.ensures.value ∙ c.if-is_nan.true))

pub float_from_bits-result : goal.float_from_bits-result
float_from_bits-result c = (read_abs binary32 c.args.x c.well_formed.0.1 c.if-is_nan.ensures.not_nan).1

pub returns : goal.returns
returns c = (read_abs binary32 c.args.x c.well_formed.0.1 c.if-is_nan.ensures.not_nan).0
