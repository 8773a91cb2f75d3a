-- `plain::diagonal::curve_of` meets its contract. Assumes nothing.
use Rattle.std.proofs.Common.{refl}
use Rattle.detectors.specs.Diagonal.{abc, linear_term, square_term}
use Rattle.plain.proofs.diagonal.curve_of.Goals as goal

pub returns : goal.returns
unfolding abc linear_term square_term
returns c = (refl, refl, refl)
