-- `correction::edges::as_either` meets its contract. Assumes nothing.
use mathlib.Core.Path.{sym, ◌∙◌}
use native.Mathlib.Omega.{arith}
use Rattle.ground.proofs.Laws.Bools.{and_taken, and_left}
use Rattle.correction.specs.Inner.{as_either}
use Rattle.inputs.proofs.Laws.Bounds.{Inside, inside}
use Rattle.correction.proofs.edges.Far.{no_pair}
use Rattle.correction.proofs.edges.Room.{rows_near}
use Rattle.correction.proofs.edges.as_either.Goals as goal
use Rattle.correction.proofs.edges.as_either.Goals.{Then-in_bounds}

pub neighbour-requires : goal.neighbour-requires
neighbour-requires c = record { sampled = c.requires.sampled.0; ny_value = sym c.in_bounds.ensures ∙ c.if-in_bounds.true }

-- where the neighbour lies
at : (c : Then-in_bounds) → let a = c.args in Inside a.b.width a.b.height a.nx a.ny
at c = inside _ _ _ _ (sym c.in_bounds.ensures ∙ c.if-in_bounds.true)

pub median_near-requires : goal.median_near-requires
median_near-requires c =
    let i = at (goal.at.median_near-requires c).Then-in_bounds in record { sampled = c.requires.sampled; x_lt_width = (i.column, i.row, rows_near _ _ _ _ _ c.requires.rows.0 i.row (omega (arith, c.requires.rows.1))) }

pub protects-requires : goal.protects-requires
protects-requires c =
    (c.requires.centred.median, rw c.neighbour.ensures c.median_near.ensures)

pub returns-then-in_bounds : goal.returns-then-in_bounds
unfolding as_either
returns-then-in_bounds c =
    and_taken c.in_bounds.ensures c.if-in_bounds.true (rw (c.neighbour.ensures, c.requires.centred.samples) at c.protects.ensures)

pub returns-else-in_bounds : goal.returns-else-in_bounds
unfolding as_either
returns-else-in_bounds c = and_left _ c.in_bounds.ensures c.if-in_bounds.false

pub returns-else-away-r : goal.returns-else-away-r
returns-else-away-r c =
    c.if-away-r.false ∙ sym (no_pair _ _ _ _ _ _ _ _ _ (rw (c.away.ensures, c.requires.centred.median, c.requires.centred.samples) at c.if-away-r.false))

pub overflow_sub-nx : goal.overflow_sub-nx
overflow_sub-nx c = (at (goal.at.overflow_sub-nx c).Then-in_bounds).from_left

pub overflow_sub-ny : goal.overflow_sub-ny
overflow_sub-ny c = (at (goal.at.overflow_sub-ny c).Then-in_bounds).from_low
