-- `plain::pass::byte` meets its contract. Assumes nothing.
use Rattle.inputs.specs.Stencil.{stencil_byte}
use Rattle.plain.proofs.pass.byte.Goals as goal

pub returns : goal.returns
unfolding stencil_byte
returns c =
    let p = c.before in
    rw (c.bit-3.ensures.0, p.bit-2.ensures.0, p.bit.ensures.0)
