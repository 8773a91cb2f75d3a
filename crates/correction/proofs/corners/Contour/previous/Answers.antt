-- `correction::corners::Contour::previous` meets its contract. Assumes nothing.
use native.Mathlib.Omega.{arith}
use borrow.Author.Tests.{eq-eqb, ne_eqb}
use Rattle.correction.proofs.corners.Contour.previous.Goals as goal

pub returns-then-i-self : goal.returns-then-i-self
returns-then-i-self c = (simp (eq-eqb _ _ c.if-i-self.true), omega arith)

pub returns-else-i-self : goal.returns-else-i-self
returns-else-i-self c = (simp (ne_eqb _ _ c.if-i-self.false), omega arith)
