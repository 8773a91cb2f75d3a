-- `detectors::orders::clear` meets its contract. Assumes nothing.
use Rattle.std.proofs.Common.{refl}
use lib.Ieee.{of_bits}
use Rattle.detectors.specs.Orders.{clear}
use Rattle.detectors.proofs.orders.clear.Goals as goal

pub returns : goal.returns
unfolding clear of_bits
returns c = refl
