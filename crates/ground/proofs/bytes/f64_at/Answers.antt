-- `ground::bytes::f64_at` meets its contract. Assumes nothing.
use Rattle.ground.specs.Bytes.{f64_at}
use Rattle.ground.proofs.bytes.f64_at.Goals as goal

pub returns : goal.returns
unfolding f64_at
returns c = rw (c.float_of_bits64.ensures, c.before.be64.ensures)
