-- `reading::fields::check_body` meets its contract. Assumes nothing.
use Prim.Native.Nat.{◌+◌}
use native.Mathlib.Omega.{arith}
use lib.ListN.{length}
use borrow.Author.Tests.{lt-ltb, le-ltb}
use Rattle.reading.specs.Grammar.{body_breach}
use Rattle.reading.proofs.fields.check_body.Goals as goal

pub returns-then-s-f : goal.returns-then-s-f
unfolding body_breach
returns-then-s-f c = let d = c.args in (simp (lt-ltb (length d.s.now) (d.f.at + 3 + d.f.len) (omega arith)), λ z. omega arith)

pub returns : goal.returns
unfolding body_breach
returns c = let d = c.args in simp (le-ltb (length d.s.now) (d.f.at + 3 + d.f.len) (omega arith))
