-- `ground::bytes::f32_at` meets its contract. Assumes nothing.
use Rattle.ground.specs.Bytes.{f32_at}
use Rattle.ground.proofs.bytes.f32_at.Goals as goal

pub returns : goal.returns
unfolding f32_at
returns c = rw (c.float_of_bits32.ensures, c.before.be32.ensures)
