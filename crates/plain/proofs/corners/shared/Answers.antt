-- `plain::corners::shared` meets its contract: a product of two bits is at most 1. Assumes nothing.
use Rattle.std.proofs.Common.{ℕ, ◌*◌, ◌%◌, ◌≤◌, refl, mul-le-mul, arith}
use Rattle.correction.specs.Corners.{shared}
use Rattle.plain.proofs.corners.shared.Goals as goal

bits : (a b : ℕ) → a % 2 * (b % 2) ≤ 1
bits a b = let p : a % 2 ≤ 1 = omega arith in let q : b % 2 ≤ 1 = omega arith in mul-le-mul p q

pub returns : goal.returns
unfolding shared
returns c = refl
