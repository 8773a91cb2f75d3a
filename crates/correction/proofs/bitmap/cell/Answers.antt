-- `correction::bitmap::cell` meets its contract: the numbers of cells are small. Assumes nothing.
use mathlib.Core.Path.{refl}
use Prim.Native.Nat.{◌+◌, ◌*◌, ◌<◌}
use native.Mathlib.Omega.{arith}
use Rattle.inputs.proofs.Laws.Windows.{near_small}
use Rattle.correction.proofs.bitmap.cell.Goals as goal
use Rattle.correction.proofs.bitmap.cell.Goals.{Start}

small : (c : Start) → c.args.y * c.args.b.stride + c.args.x < 16777216
small c = near_small _ c.requires.fits _ _ c.requires.x_lt_width.0 c.requires.x_lt_width.1

pub overflow_add-result-2 : goal.overflow_add-result-2
overflow_add-result-2 c = let s = c.before.before in omega (arith, small s, s.requires.fits.near)

pub overflow_mul-result : goal.overflow_mul-result
overflow_mul-result c = omega (arith, small c.before)

pub overflow_add-result : goal.overflow_add-result
overflow_add-result c = omega (arith, small c.before)

pub returns : goal.returns
returns c = refl
