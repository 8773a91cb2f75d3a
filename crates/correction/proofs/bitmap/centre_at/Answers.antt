-- `correction::bitmap::centre_at` meets its contract. Assumes nothing.
use Rattle.correction.proofs.bitmap.centre_at.Goals as goal

pub returns : goal.returns
returns c = rw (c.median-m.ensures, c.texel-a.ensures)
