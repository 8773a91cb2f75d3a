-- `reading::page::Page::put_all` meets its contract. Assumes nothing.
use Rattle.std.proofs.Common.{refl, arith}
use Rattle.reading.proofs.Copied.{copied}
use Rattle.reading.proofs.page.Page.put_all.Goals as goal

pub returns : goal.returns
returns c d = record { same = refl; written = copied _ _ _ _ _ d.copy_from_slice.ensures.after (omega arith) d.requires refl }
