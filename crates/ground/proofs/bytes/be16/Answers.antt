-- `ground::bytes::be16` meets its contract. Assumes nothing.
use Rattle.std.proofs.Common.{lit<, add-zero, arith}
use Rattle.ground.specs.Bytes.{be16}
use Rattle.ground.proofs.bytes.be16.Goals as goal

pub returns : goal.returns
unfolding be16
returns c =
    let e0 = rw add-zero at (c.bytes_at.ensures 0 (lit< tt)) in
    let e1 = c.bytes_at.ensures 1 (lit< tt) in
    (omega (arith, c.from.ensures, c.from_be_bytes.ensures, e0, e1), omega (arith, c.from.ensures, c.from_be_bytes.type_inv))
