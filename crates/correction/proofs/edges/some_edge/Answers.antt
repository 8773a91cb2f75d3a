-- `correction::edges::some_edge` meets its contract. Assumes nothing.
use mathlib.Core.Path.{sym, ap, ◌∙◌}
use native.Mathlib.Omega.{arith}
use borrow.Author.Tests.{not-true}
use Rattle.ground.proofs.Laws.Bools.{or_taken, or_left}
use Rattle.detectors.specs.Texel.{texel_median}
use Rattle.correction.specs.Edges.{some_edge}
use Rattle.correction.proofs.edges.Far.{distance, lower_half, upper_half, far_edge}
use Rattle.correction.proofs.edges.some_edge.Goals as goal

pub returns-then-not-reaches : goal.returns-then-not-reaches
returns-then-not-reaches c =
    let m = c.requires.x_lt_width.2 in
    sym (far_edge _ _ _ _ _ _ _ _ _ (c.away.ensures ∙ ap distance m) (sym c.reaches.ensures ∙ not-true _ c.if-not-reaches.true-raw))

pub some_of-requires : goal.some_of-requires
some_of-requires c =
    let p = c.requires in
    let e = c.texel.ensures in record { sampled = p.sampled; centred = record { column = p.x_lt_width.0; row = p.x_lt_width.1; samples = e; median = p.x_lt_width.2 ∙ ap texel_median (sym e) }; rows = (p.rows, omega arith) }

pub some_of-requires-else-some_of : goal.some_of-requires-else-some_of
some_of-requires-else-some_of c =
    let p = c.requires in
    let e = c.texel.ensures in record { sampled = p.sampled; centred = record { column = p.x_lt_width.0; row = p.x_lt_width.1; samples = e; median = p.x_lt_width.2 ∙ ap texel_median (sym e) }; rows = (p.rows, omega arith) }

pub returns-then-some_of : goal.returns-then-some_of
unfolding some_edge
returns-then-some_of c = or_taken _ (c.some_of.ensures ∙ lower_half _ _ _ _ _ _ _ _) c.if-some_of.true

pub returns-else-some_of : goal.returns-else-some_of
unfolding some_edge
returns-else-some_of c = or_left (c.some_of.ensures ∙ lower_half _ _ _ _ _ _ _ _) c.if-some_of.false (c.some_of-else-some_of.ensures ∙ upper_half _ _ _ _ _ _ _ _)
