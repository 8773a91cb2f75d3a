-- `reading::text::Page::put_counts` meets its contract: each arm is given whether the tests are counted. Assumes nothing.
use Rattle.std.specs.Prelude.{Option}
use mathlib.Core.Path.{◌≡◌}
use Prim.Native.Nat.{ℕ, ◌+◌, ◌≤◌}
use native.Mathlib.Omega.{arith}
use lib.ListN.{length}
use Rattle.reading.specs.declared.page.Page.{Page}
use Rattle.reading.specs.Inner.{Put}
use Rattle.reading.proofs.page.Puts.{put_then, put_room}
use Rattle.inputs.specs.declared.stencil.Counts.{Counts}
use Rattle.reading.specs.Inner.{counts_line}
use Rattle.reading.specs.Text.{numbered, cells_text, tests_text, counts_text, counts_plainly}
use Rattle.reading.proofs.text.Lengths.{cells_length, counted_length, uncounted_length}
use Rattle.reading.proofs.text.Page+u8.put_counts.Goals as goal
use Rattle.reading.proofs.text.Page+u8.put_counts.Goals.{After-put_cells}

-- the counts have at most 85 bytes, and there is room for the rest
short : (c : After-put_cells) → length (cells_text c.args.c) ≤ 85
short c = cells_length c.args.c (omega arith) (omega arith) (omega arith)

room : (c : After-put_cells) → c.put_cells.new.self.at + 28 ≤ length c.put_cells.new.self.out.now
room c = put_room 85 28 c.put_cells.ensures (short c) (omega arith)

-- the line, by what is known of the tests
line : {p q : Page ℕ} (c : Counts) (t u : Option ℕ) → t ≡ u → length (counts_line c u) ≤ 113 → Put p (counts_line c u) q → Put p (counts_line c t) q × (q.at ≤ p.at + 113)
line c t u e l p = rw e (p, omega (arith, p.written.to))

pub put_named-requires : goal.put_named-requires
put_named-requires c = omega (arith, room (goal.at.put_named-requires c).After-put_cells)

pub put-requires : goal.put-requires
put-requires c = omega (arith, room (goal.at.put-requires c).After-put_cells)

pub returns-in-Some : goal.returns-in-Some
unfolding counts_line counts_text tests_text numbered
returns-in-Some c =
    line _ _ _ c.in-Some.is (counted_length _ _ (short (goal.at.returns-in-Some c).After-put_cells) (omega arith)) (put_then c.put_cells.ensures c.put_named.ensures)

pub returns-in-None : goal.returns-in-None
unfolding counts_line counts_plainly
returns-in-None c =
    line _ _ _ c.in-None.is (uncounted_length _ (short (goal.at.returns-in-None c).After-put_cells)) (put_then c.put_cells.ensures c.put.ensures)
