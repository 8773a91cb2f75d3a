-- `reading::text::mark` meets its contract. Assumes nothing.
use mathlib.Core.Path.{sym, ◌∙◌}
use Rattle.reading.specs.Text.{mark as mark_of}
use Rattle.reading.proofs.text.mark.Goals as goal

pub returns-then-is_error : goal.returns-then-is_error
unfolding mark_of
returns-then-is_error c = let q = c.before.before in simp (sym q.has_corner.ensures ∙ q.if-has_corner.true, sym c.is_error.ensures ∙ c.if-is_error.true)

pub returns-then-has_corner : goal.returns-then-has_corner
unfolding mark_of
returns-then-has_corner c = let q = c.before.before in simp (sym q.has_corner.ensures ∙ q.if-has_corner.true, sym c.is_error.ensures ∙ c.if-is_error.false)

pub returns-then-is_error-2 : goal.returns-then-is_error-2
unfolding mark_of
returns-then-is_error-2 c =
    let p = c.before.before in
    let q = p.before.before in
    simp (sym q.has_corner.ensures ∙ q.if-has_corner.false, sym p.is_protected.ensures ∙ p.if-is_protected.true, sym c.is_error-then-is_protected.ensures ∙ c.if-is_error-2.true)

pub returns-then-is_protected : goal.returns-then-is_protected
unfolding mark_of
returns-then-is_protected c =
    let p = c.before.before in
    let q = p.before.before in
    simp (sym q.has_corner.ensures ∙ q.if-has_corner.false, sym p.is_protected.ensures ∙ p.if-is_protected.true, sym c.is_error-then-is_protected.ensures ∙ c.if-is_error-2.false)

pub returns-then-is_error-3 : goal.returns-then-is_error-3
unfolding mark_of
returns-then-is_error-3 c =
    let p = c.before.before in
    let q = p.before.before in
    simp (sym q.has_corner.ensures ∙ q.if-has_corner.false, sym p.is_protected.ensures ∙ p.if-is_protected.false, sym c.is_error-2.ensures ∙ c.if-is_error-3.true)

pub returns : goal.returns
unfolding mark_of
returns c =
    let p = c.before.before in
    let q = p.before.before in
    simp (sym q.has_corner.ensures ∙ q.if-has_corner.false, sym p.is_protected.ensures ∙ p.if-is_protected.false, sym c.is_error-2.ensures ∙ c.if-is_error-3.false)
