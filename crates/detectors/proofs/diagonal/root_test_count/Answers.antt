-- `detectors::diagonal::root_test_count` meets its contract. Assumes nothing.
use Rattle.std.proofs.Common.{arith}
use Rattle.detectors.proofs.diagonal.root_test_count.Goals as goal

pub returns : goal.returns
returns c = (omega (arith, c.added-2.ensures.0), omega arith)
