-- `correction::edges::row_place` meets its contract: the place is a width at most. Assumes nothing.
use Prim.Native.Nat.{◌%◌, ◌≤◌}
use native.Mathlib.Nat.{mul-le-mul_right}
use native.Mathlib.Omega.{arith}
use Rattle.correction.proofs.edges.row_place.Goals as goal

pub overflow_mul-result : goal.overflow_mul-result
overflow_mul-result c =
    let s = c.before in
    let h : s.args.y % 2 ≤ 1 = omega arith in
    omega (arith, s.requires.wide, s.requires.broad, mul-le-mul_right s.args.b.width h)
