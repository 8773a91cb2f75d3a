-- `correction::errors::doubt_towards` meets its contract. Assumes nothing.
use Rattle.correction.proofs.errors.doubt_towards.Goals as goal

pub returns : goal.returns
returns c = rw (c.order_at.ensures, c.order_at-2.ensures, c.order_at-3.ensures) at c.doubt.ensures.0
