-- `correction::errors::alike` meets its contract. Assumes nothing.
use Rattle.correction.proofs.errors.alike.Goals as goal

pub returns : goal.returns
returns c = rw c.order_at.ensures
