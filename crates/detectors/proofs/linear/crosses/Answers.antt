-- `detectors::linear::crosses` meets its contract. Assumes nothing.
use Rattle.std.proofs.Common.{T, sym, subst}
use Rattle.detectors.proofs.linear.Signs.{crossing_same_sign}
use Rattle.detectors.proofs.linear.crosses.Goals as goal

pub returns : goal.returns
returns c = λ h. crossing_same_sign _ _ (subst T (sym c.well_formed.0.1) tt) h
