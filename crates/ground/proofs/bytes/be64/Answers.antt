-- `ground::bytes::be64` meets its contract. Assumes nothing.
use Rattle.std.proofs.Common.{lit<, add-zero, add_assoc, arith}
use Rattle.ground.specs.Bytes.{be64, be32, be16}
use Rattle.ground.proofs.bytes.be64.Goals as goal

pub returns : goal.returns
unfolding be64 be32 be16
returns c =
    let e0 = rw add-zero at (c.bytes_at.ensures 0 (lit< tt)) in
    let e1 = c.bytes_at.ensures 1 (lit< tt) in
    let e2 = c.bytes_at.ensures 2 (lit< tt) in
    let e3 = c.bytes_at.ensures 3 (lit< tt) in
    let e4 = c.bytes_at.ensures 4 (lit< tt) in
    let e5 = c.bytes_at.ensures 5 (lit< tt) in
    let e6 = c.bytes_at.ensures 6 (lit< tt) in
    let e7 = c.bytes_at.ensures 7 (lit< tt) in
    rw (add_assoc c.args.at 2 1, add_assoc c.args.at 4 1, add_assoc c.args.at 4 2, add_assoc c.args.at 6 1) (omega (arith, c.from_be_bytes.ensures, e0, e1, e2, e3, e4, e5, e6, e7))
