-- `reading::fields::size` meets its contract. Assumes nothing.
use Rattle.std.proofs.Common.{sym, ◌∙◌, arith}
use Rattle.std.proofs.lemmas.Result.{err_from_is_err_and}
use borrow.Author.Tests.{lt-ltb, le-ltb}
use Rattle.reading.specs.Grammar.{size_breach}
use Rattle.reading.proofs.fields.Breaches.{found_at, passed, field_fine}
use Rattle.reading.proofs.fields.size.Goals as goal

pub returns-in_err-check_field : goal.returns-in_err-check_field
unfolding size_breach
returns-in_err-check_field c =
    let p = err_from_is_err_and c.from_residual.result c.from_residual.ensures.1 in
    rw (p.1, p.2) (found_at _ (rw c.requires.2 at c.in_err-check_field.ensures))

pub bounds-s-7 : goal.bounds-s-7
bounds-s-7 c = omega (arith, field_fine _ c.requires.1 _ 1 5 (omega arith) c.in_ok-check_field.ensures)

pub returns-then-w-h-gt12288 : goal.returns-then-w-h-gt12288
unfolding size_breach
returns-then-w-h-gt12288 c =
    let fine = rw c.requires.2 at c.in_ok-check_field.ensures in
    (sym (passed _ _ fine ∙ simp (lt-ltb _ _ (rw (c.be16-w.ensures.0, c.be16-h.ensures.0) at c.if-w-h-gt12288.true))), λ z. omega arith)

pub bounds-s-7-2 : goal.bounds-s-7-2
bounds-s-7-2 c = omega (arith, field_fine _ c.requires.1 _ 1 5 (omega arith) c.in_ok-check_field.ensures)

pub returns : goal.returns
unfolding size_breach
returns c =
    let fine = rw c.requires.2 at c.in_ok-check_field.ensures in
    (passed _ _ fine ∙ simp (le-ltb _ _ (rw (c.be16-w.ensures.0, c.be16-h.ensures.0) at c.if-w-h-gt12288.false)), (c.be16-h.ensures.0, rw c.be16-w.ensures.0))
