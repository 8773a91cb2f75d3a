-- `reading::text::Page::put_row` meets its contract: before cell x those below it are written. Assumes nothing.
use Rattle.std.proofs.Common.{ℕ, ◌+◌, ◌*◌, List, get_or}
use Rattle.ground.specs.Lists.{tab}
use Rattle.reading.specs.Inner.{Put}
use Rattle.reading.specs.Text.{mark}
use Rattle.reading.proofs.text.Page+u8.put_row.Given as goal

-- the mark of cell x
abbrev pub cell : List ℕ → ℕ → ℕ → ℕ
cell st from x = mark (get_or st (from + x) 0)

abbrev pub invariant-loop-x : goal.invariant-loop-x
invariant-loop-x l = Put l.initial.self (tab l.x (cell l.st (l.y * l.w))) l.self
