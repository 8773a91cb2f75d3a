-- `reading::fields::check_head` meets its contract. Assumes nothing.
use mathlib.Core.Path.{sym, ◌∙◌}
use Prim.Native.Nat.{◌+◌}
use native.Mathlib.Omega.{arith}
use lib.ListN.{length}
use borrow.Author.Tests.{lt-ltb, le-ltb, le-leb, lt-leb, eq-eqb, ne_eqb}
use Rattle.reading.specs.Grammar.{head_breach}
use Rattle.reading.proofs.fields.check_head.Goals as goal

pub returns-then-s-f : goal.returns-then-s-f
unfolding head_breach
returns-then-s-f c = (simp (le-leb _ _ c.if-s-f.true), λ z. omega arith)

pub returns-then-f-tag : goal.returns-then-f-tag
unfolding head_breach
returns-then-f-tag c = (simp (lt-leb _ _ c.if-s-f.false, ne_eqb _ _ (λ z. c.if-f-tag.true (c.requires.0.tagged c.if-s-f.false ∙ z))), λ z. omega arith)

pub returns-then-s-f-lt3 : goal.returns-then-s-f-lt3
unfolding head_breach
returns-then-s-f-lt3 c =
    (simp (lt-leb _ _ c.if-s-f.false, eq-eqb _ _ (sym (c.requires.0.tagged c.if-s-f.false) ∙ c.if-f-tag.false), lt-ltb (length c.args.s.now) (c.args.f.at + 3) (omega arith)), λ z. omega arith)

pub returns : goal.returns
unfolding head_breach
returns c =
    simp (lt-leb _ _ c.if-s-f.false, eq-eqb _ _ (sym (c.requires.0.tagged c.if-s-f.false) ∙ c.if-f-tag.false), le-ltb (length c.args.s.now) (c.args.f.at + 3) (omega arith))
