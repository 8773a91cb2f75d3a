-- `reading::fields::end` meets its contract. Assumes nothing.
use Rattle.std.proofs.Common.{sym, ◌∙◌, arith}
use Rattle.std.proofs.lemmas.Result.{err_from_is_err_and}
use borrow.Author.Tests.{lt-ltb, le-ltb}
use Rattle.reading.specs.Grammar.{end_breach}
use Rattle.reading.proofs.fields.Breaches.{found_at, passed}
use Rattle.reading.proofs.fields.end.Goals as goal

pub returns-in_err-check_field : goal.returns-in_err-check_field
unfolding end_breach
returns-in_err-check_field c =
    let p = err_from_is_err_and c.from_residual.result c.from_residual.ensures.1 in
    rw (p.1, p.2) (found_at _ c.in_err-check_field.ensures)

pub returns-then-f-s : goal.returns-then-f-s
unfolding end_breach
returns-then-f-s c = (sym (passed _ _ c.in_ok-check_field.ensures ∙ simp (lt-ltb _ _ c.if-f-s.true)), λ z. omega arith)

pub returns : goal.returns
unfolding end_breach
returns c = passed _ _ c.in_ok-check_field.ensures ∙ simp (le-ltb _ _ c.if-f-s.false)
