-- `reading::run::keep` meets its contract. Assumes nothing.
use Rattle.std.proofs.Common.{length, refl, arith}
use Rattle.reading.proofs.Copied.{copied}
use Rattle.reading.proofs.run.keep.Goals as goal

pub returns : goal.returns
returns c = copied _ 0 (length c.args.xs.now) _ _ c.copy_from_slice.ensures.after refl (omega arith) (omega arith)
