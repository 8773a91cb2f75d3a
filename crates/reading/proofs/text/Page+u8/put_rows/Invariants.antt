-- `reading::text::Page::put_rows` meets its contract: before row y those below it are written. Assumes nothing.
use Rattle.std.proofs.Common.{◌≡◌, ◌+◌, ◌*◌}
use Rattle.ground.specs.Lists.{joined}
use Rattle.reading.specs.Inner.{Put}
use Rattle.reading.specs.Text.{row_text}
use Rattle.reading.proofs.text.Page+u8.put_rows.Given as goal

abbrev pub invariant-loop-y : goal.invariant-loop-y
invariant-loop-y l = record {
  place : l.self.at ≡ l.initial.self.at + l.y * (l.b.width + 1);
  put : Put l.initial.self (joined l.y (row_text l.b.width l.st)) l.self;
}
