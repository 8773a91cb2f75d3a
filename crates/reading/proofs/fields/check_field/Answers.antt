-- `reading::fields::check_field` meets its contract. Assumes nothing.
use Rattle.std.proofs.Common.{◌≡◌, sym, ap, subst, ◌∙◌, arith}
use Rattle.std.proofs.lemmas.Result.{err_from_is_err_and}
use borrow.Author.Tests.{eq-eqb, ne_eqb}
use Rattle.reading.specs.Grammar.{body_breach, field_breach}
use Rattle.reading.specs.Inner.{Checked}
use Rattle.reading.proofs.fields.Breaches.{found_at, passed, head_fine}
use Rattle.reading.proofs.fields.check_field.Goals as goal

pub returns-in_err-check_head : goal.returns-in_err-check_head
unfolding field_breach
returns-in_err-check_head c =
    let p = err_from_is_err_and c.from_residual.result c.from_residual.ensures.1 in
    rw (p.1, p.2) (found_at _ c.in_err-check_head.ensures)

pub returns-then-f-len : goal.returns-then-f-len
unfolding field_breach
returns-then-f-len c =
    let fine = c.in_ok-check_head.ensures in
    let there = (head_fine _ c.requires.1 _ _ c.requires.2 fine).1 in
    (sym (passed _ _ fine ∙ simp (ne_eqb _ _ (λ z. c.if-f-len.true (c.requires.0.sized there ∙ z)))), λ z. omega arith)

pub check_body-requires : goal.check_body-requires
check_body-requires c = ((head_fine _ c.requires.1 _ _ c.requires.2 c.in_ok-check_head.ensures).1, c.requires.1)

pub returns : goal.returns
unfolding field_breach
returns c =
    let d = c.args in
    let fine = c.in_ok-check_head.ensures in
    let there = (head_fine _ c.requires.1 _ _ c.requires.2 fine).1 in
    let e : field_breach d.s.now d.f.at d.tag d.len ≡ body_breach d.s.now d.f.at d.f.len = passed _ _ fine ∙ (simp (eq-eqb _ _ (sym (c.requires.0.sized there) ∙ c.if-f-len.false))) ∙ ap (body_breach d.s.now d.f.at) (sym c.if-f-len.false) in
    subst (λ n. Checked n c.check_body.result) (sym e) c.check_body.ensures
