-- `correction::bitmap::neighbour` meets its contract. Assumes nothing.
use Rattle.inputs.proofs.Laws.Bounds.{Inside, inside}
use Rattle.correction.proofs.bitmap.neighbour.Goals as goal
use Rattle.correction.proofs.bitmap.neighbour.Goals.{Start}

at : (c : Start) → Inside c.args.b.width c.args.b.height c.args.nx c.args.ny
at c = inside _ _ _ _ c.requires.ny_value

pub texel-requires : goal.texel-requires
texel-requires c = record { sampled = c.requires.sampled; x_lt_width = ((at (goal.at.texel-requires c).Start).column, (at (goal.at.texel-requires c).Start).row) }

pub overflow_sub-nx : goal.overflow_sub-nx
overflow_sub-nx c = (at (goal.at.overflow_sub-nx c).Start).from_left

pub overflow_sub-ny : goal.overflow_sub-ny
overflow_sub-ny c = (at (goal.at.overflow_sub-ny c).Start).from_low

pub returns : goal.returns
returns c = c.texel.ensures
