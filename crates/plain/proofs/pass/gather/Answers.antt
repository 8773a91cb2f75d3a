-- `plain::pass::gather` meets its contract, by the laws of a loop that fills: a cell is read before it is written. Assumes nothing.
use Rattle.std.proofs.Common.{arith}
use Rattle.ground.proofs.Laws.Fill.{filled_all}
use Rattle.plain.proofs.pass.gather.Goals as goal

pub returns : goal.returns
returns c = filled_all 0 _ _ c.loop-k.invariant (omega (arith, c.loop-k.invariant.len))
