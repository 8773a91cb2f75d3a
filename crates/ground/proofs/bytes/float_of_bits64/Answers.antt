-- `ground::bytes::float_of_bits64` meets its contract: a NaN's pattern is one above infinity's, the sign aside. Assumes nothing.
use mathlib.Core.Path.{sym, ◌∙◌}
use lib.Ieee.{binary64}
use Rattle.ground.proofs.Laws.Nan.{zero_by_zero, nan_bits_law, no_nan_bits}
use Rattle.ground.proofs.bytes.float_of_bits64.Goals as goal

pub returns-then-n-gt9218868437227405312 : goal.returns-then-n-gt9218868437227405312
returns-then-n-gt9218868437227405312 c = zero_by_zero binary64 ∙ sym (nan_bits_law binary64 c.before.args.n c.if-n-gt9218868437227405312.true)

pub float_from_bits-result : goal.float_from_bits-result
float_from_bits-result c = no_nan_bits binary64 c.before.args.n c.if-n-gt9218868437227405312.false
