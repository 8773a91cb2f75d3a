-- `signs::rasterization::flip_three` meets its contract. Assumes nothing.
use Rattle.signs.specs.Inner.{flipped_at}
use Rattle.signs.proofs.rasterization.flip_three.Goals as goal

pub returns : goal.returns
unfolding flipped_at
returns c =
    rw (c.flip.ensures, c.flip-2.ensures, c.flip-3.ensures)
