-- `numbers::rounding::scale` meets its contract (`Flooring.antt`). Assumes nothing.
use Rattle.std.proofs.Common.{arith}
use Rattle.numbers.proofs.rounding.Flooring.{scaled_none, scaled_down, scaled_up}
use Rattle.numbers.proofs.rounding.scale.Goals as goal

pub returns-then-e-lt1023 : goal.returns-then-e-lt1023
returns-then-e-lt1023 c = scaled_none c.before.args.m c.before.args.e c.before.requires.0 c.if-e-lt1023.true

pub returns-then-e-lt1075 : goal.returns-then-e-lt1075
returns-then-e-lt1075 c = scaled_down c.before.before.args.m c.before.before.args.e (omega arith)

pub returns : goal.returns
returns c = scaled_up c.before.before.args.m c.before.before.args.e c.before.before.requires.0 c.if-e-lt1075.false c.before.before.requires.1
