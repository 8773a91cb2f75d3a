-- `correction::bitmap::place` meets its contract. Assumes nothing.
use native.Mathlib.Nat.{mul-le-mul_left}
use native.Mathlib.Omega.{arith}
use Rattle.inputs.proofs.Laws.Windows.{near_small}
use Rattle.correction.proofs.bitmap.place.Goals as goal

pub overflow_mul-result : goal.overflow_mul-result
overflow_mul-result c =
    let d = c.before in
    let s = d.before in
    let p = s.requires.x_lt_width in
    omega (arith, d.cell.ensures, s.requires.fits.near, near_small _ s.requires.fits _ _ p.0 p.1, mul-le-mul_left d.cell.result p.2)

pub returns : goal.returns
returns c = rw c.cell.ensures
