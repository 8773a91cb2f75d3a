-- `numbers::square_root::root54` meets its contract: the guess as it was tested, or the root digit by digit. Assumes nothing.
use Rattle.std.proofs.Common.{le_of_lt, mul-le-mul, arith}
use Rattle.numbers.proofs.square_root.root54.Goals as goal

pub overflow_mul-p : goal.overflow_mul-p
overflow_mul-p c = omega (arith, mul-le-mul (le_of_lt c.guess-s.ensures) (le_of_lt c.guess-s.ensures))
