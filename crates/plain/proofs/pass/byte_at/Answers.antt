-- `plain::pass::byte_at` meets its contract. Assumes nothing.
use Rattle.plain.specs.Inner.{protected_by, byte_by}
use Rattle.plain.proofs.pass.byte_at.Goals as goal

pub returns : goal.returns
unfolding protected_by byte_by
returns c =
    rw (c.byte.ensures, c.has_artifact-artifact.ensures, c.is_at_edge-edge.ensures)
