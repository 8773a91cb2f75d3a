-- `signs::rasterization::flip_texels` meets its contract: the texels that turn are flipped in the rows below y, and in row y before column x. Assumes nothing.
use Prim.Native.Nat.{◌+◌, ◌*◌}
use Rattle.signs.specs.Inner.{turns_at}
use Rattle.signs.proofs.rasterization.Steps.{Flipping}
use Rattle.signs.proofs.rasterization.flip_texels.Given as goal

abbrev pub invariant-loop-y : goal.invariant-loop-y
invariant-loop-y l = Flipping l.zero (turns_at l.b.width l.b.height l.b.channels l.ms) l.fn.xs (l.y * l.b.width * l.b.channels) l.xs

abbrev pub invariant-loop-x : goal.invariant-loop-x
invariant-loop-x l = Flipping l.zero (turns_at l.b.width l.b.height l.b.channels l.ms) l.fn.xs ((l.y * l.b.width + l.x) * l.b.channels) l.xs
