-- `reading::fields::check_contour` meets its contract. Assumes nothing.
use Rattle.std.proofs.Common.{◌≡◌, sym, subst, ◌∙◌, arith}
use Rattle.std.proofs.lemmas.Result.{err_from_is_err_and}
use borrow.Author.Tests.{lt-ltb, le-ltb, le-leb, lt-leb, eq-eqb, ne_eqb}
use Rattle.reading.specs.Grammar.{body_breach, contour_breach}
use Rattle.reading.specs.Inner.{Checked}
use Rattle.reading.proofs.fields.Breaches.{found_at, passed, head_fine}
use Rattle.reading.proofs.fields.check_contour.Goals as goal

pub returns-in_err-check_head : goal.returns-in_err-check_head
unfolding contour_breach
returns-in_err-check_head c =
    let p = err_from_is_err_and c.from_residual.result c.from_residual.ensures.1 in
    rw (p.1, p.2) (found_at _ c.in_err-check_head.ensures)

pub returns-then-f-ne0 : goal.returns-then-f-ne0
unfolding contour_breach
returns-then-f-ne0 c =
    let fine = c.in_ok-check_head.ensures in
    let there = (head_fine _ c.requires.1 _ _ c.requires.2 fine).1 in
    (sym (passed _ _ fine ∙ rw (← c.requires.0.sized there) (simp (ne_eqb _ _ c.if-f-ne0.true))), λ z. omega arith)

pub returns-then-k-ge64 : goal.returns-then-k-ge64
unfolding contour_breach
returns-then-k-ge64 c =
    let fine = c.in_ok-check_head.ensures in
    let there = (head_fine _ c.requires.1 _ _ c.requires.2 fine).1 in
    (sym (passed _ _ fine ∙ rw (← c.requires.0.sized there) (simp (eq-eqb _ _ c.if-f-ne0.false, le-leb _ _ c.if-k-ge64.true))), λ z. omega arith)

pub returns-then-n-f-gt256 : goal.returns-then-n-f-gt256
unfolding contour_breach
returns-then-n-f-gt256 c =
    let fine = c.in_ok-check_head.ensures in
    let there = (head_fine _ c.requires.1 _ _ c.requires.2 fine).1 in
    (sym (passed _ _ fine ∙ rw (← c.requires.0.sized there) (simp (eq-eqb _ _ c.if-f-ne0.false, lt-leb _ _ c.if-k-ge64.false, lt-ltb _ _ c.if-n-f-gt256.true))), λ z. omega arith)

pub check_body-requires : goal.check_body-requires
check_body-requires c = ((head_fine _ c.requires.1 _ _ c.requires.2 c.in_ok-check_head.ensures).1, c.requires.1)

pub returns : goal.returns
unfolding contour_breach
returns c =
    let d = c.args in
    let fine = c.in_ok-check_head.ensures in
    let there = (head_fine _ c.requires.1 _ _ c.requires.2 fine).1 in
    let e : contour_breach d.s.now d.f.at d.k d.n ≡ body_breach d.s.now d.f.at d.f.len = passed _ _ fine ∙ rw (← c.requires.0.sized there) (simp (eq-eqb _ _ c.if-f-ne0.false, lt-leb _ _ c.if-k-ge64.false, le-ltb _ _ c.if-n-f-gt256.false)) in
    subst (λ n. Checked n c.check_body.result) (sym e) c.check_body.ensures
