-- `plain::pass::correct` meets its contract: the stages put together. Assumes nothing.
use Rattle.std.proofs.Common.{◌∙◌}
use Rattle.inputs.specs.Checks.{Input, input}
use Rattle.inputs.proofs.Laws.Filled.{replicate_tab}
use Rattle.plain.proofs.pass.Whole.{done}
use Rattle.plain.proofs.pass.correct.Goals as goal
use Rattle.plain.proofs.pass.correct.Goals.{Start}

-- the input
abbrev given : Start → Input
given c = let a = c.args in input a.b.width a.b.height a.b.channels a.xs.now a.stencil.now a.room.now a.mode a.s a.colours.now a.coords.now a.ends.now

pub returns : goal.returns
returns c =
    let d = done (given (goal.at.returns c).Start) c.requires.sized c.requires.stencil_len _ _ c.mark.ensures c.gather.ensures _ c.collapse.ensures in record { leaves = d.0; writes = d.1; clears = c.fill.ensures.after (λ y e. e) ∙ replicate_tab _ _ }
