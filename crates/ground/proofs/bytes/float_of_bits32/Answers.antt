-- `ground::bytes::float_of_bits32` meets its contract: a NaN's pattern is one above infinity's, the sign aside. Assumes nothing.
use mathlib.Core.Path.{sym, ◌∙◌}
use lib.Ieee.{binary32}
use Rattle.ground.proofs.Laws.Nan.{zero_by_zero, nan_bits_law, no_nan_bits}
use Rattle.ground.proofs.bytes.float_of_bits32.Goals as goal

pub returns-then-n-gt2139095040 : goal.returns-then-n-gt2139095040
returns-then-n-gt2139095040 c = zero_by_zero binary32 ∙ sym (nan_bits_law binary32 c.before.args.n c.if-n-gt2139095040.true)

pub float_from_bits-result : goal.float_from_bits-result
float_from_bits-result c = no_nan_bits binary32 c.before.args.n c.if-n-gt2139095040.false
