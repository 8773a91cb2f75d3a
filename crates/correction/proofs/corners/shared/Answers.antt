-- `correction::corners::shared` meets its contract: a product of two bits is at most 1. Assumes nothing.
use mathlib.Core.Path.{refl}
use Prim.Native.Nat.{ℕ, ◌*◌, ◌/◌, ◌%◌, ◌≤◌}
use native.Mathlib.Nat.{mul-le-mul}
use native.Mathlib.Omega.{arith}
use Rattle.correction.specs.Corners.{shared}
use Rattle.correction.proofs.corners.shared.Goals as goal

bits : (a b : ℕ) → a % 2 * (b % 2) ≤ 1
bits a b = let p : a % 2 ≤ 1 = omega arith in let q : b % 2 ≤ 1 = omega arith in mul-le-mul p q

pub overflow_mul-result : goal.overflow_mul-result
unfolding shared
overflow_mul-result c = let g = c.args in omega (arith, bits g.a g.b)

pub overflow_mul-result-2 : goal.overflow_mul-result-2
unfolding shared
overflow_mul-result-2 c = let g = c.args in omega (arith, bits (g.a / 2) (g.b / 2))

pub overflow_add-result : goal.overflow_add-result
unfolding shared
overflow_add-result c = let g = c.args in omega (arith, bits g.a g.b, bits (g.a / 2) (g.b / 2))

pub overflow_mul-result-3 : goal.overflow_mul-result-3
unfolding shared
overflow_mul-result-3 c = let g = c.args in omega (arith, bits (g.a / 4) (g.b / 4))

pub overflow_add-result-2 : goal.overflow_add-result-2
unfolding shared
overflow_add-result-2 c = let g = c.args in omega (arith, bits g.a g.b, bits (g.a / 2) (g.b / 2), bits (g.a / 4) (g.b / 4))

pub returns : goal.returns
unfolding shared
returns c = refl
