-- `detectors::orders::moderate` meets its contract: a parameter of the type f32 fits binary32. Assumes nothing.
use lib.Ieee.{of_bits}
use Rattle.detectors.specs.Orders.{moderate}
use Rattle.detectors.proofs.orders.moderate.Goals as goal

pub returns : goal.returns
unfolding moderate of_bits
returns c = rw c.well_formed.0.1
