-- `reading::text::Page::put_texels` meets its contract: before cell k those below it are written. Assumes nothing.
use Rattle.std.proofs.Common.{◌+◌, ◌*◌, ◌≤◌}
use Rattle.ground.specs.Lists.{joined}
use Rattle.correction.specs.Bitmap.{cell_texel}
use Rattle.reading.specs.Inner.{Put}
use Rattle.reading.specs.Text.{flagged_text}
use Rattle.reading.proofs.text.Page+u8.put_texels.Given as goal

abbrev pub invariant-loop-k : goal.invariant-loop-k
invariant-loop-k l = record {
  place : l.self.at ≤ l.initial.self.at + 26 * l.k;
  put : Put l.initial.self (joined l.k (flagged_text l.b.width l.st (cell_texel l.xs l.b.channels))) l.self;
}
