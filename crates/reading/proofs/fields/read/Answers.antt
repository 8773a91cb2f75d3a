-- `reading::fields::read` meets its contract: what is known behind each field, and which of them has the breach. Assumes nothing.
use Rattle.std.proofs.Common.{◌≡◌, ◌+◌, ◌-◌, ◌≤◌, length, sym, refl, ap, ◌∙◌, arith}
use Rattle.std.proofs.lemmas.Result.{err_from_is_err_and}
use Rattle.reading.specs.Inner.{Told}
use Rattle.reading.proofs.fields.Breaches.{contour_fine}
use Rattle.reading.proofs.fields.Layouts.{breach_long, breach_size, breach_settings, breach_outline}
use Rattle.reading.proofs.fields.Outlines.{reached_none, reached_more, outlined_broken}
use Rattle.reading.proofs.fields.Stages.{told_here, next_field, after_size, next_contour, told_contour, told_other, rowing_first, row_broken, rowing_more, end_decides, whole_read}
use Rattle.reading.proofs.fields.read.Goals as goal
use Rattle.reading.proofs.fields.read.Goals.{After-field-set, After-field-f}

-- ---- the size and the settings

second : (c : After-field-set) → Told c.args.s.now c.field-set.result.at c.field-set.result × (c.field-set.result.at ≡ 8) × (8 ≤ length c.args.s.now)
second c =
    let short = c.if-s-gt65536.false in
    let src = ap (λ b. b.now) c.new-r.ensures.0 in
    let at : c.field-head.result.at ≡ 0 = c.field-head.ensures.place ∙ c.new-r.ensures.1 in
    let e = after_size _ short _ (told_here c.field-head.ensures src) (omega arith) at c.in_ok-rows.ensures.0 in
    (told_here c.field-set.ensures (ap (λ b. b.now) c.behind-r.ensures.0 ∙ src), c.field-set.ensures.place ∙ c.behind-r.ensures.1 ∙ e.0, e.1)

pub returns-then-s-gt65536 : goal.returns-then-s-gt65536
returns-then-s-gt65536 c = (sym (breach_long _ c.if-s-gt65536.true), λ z. omega arith)

pub returns-in_err-rows : goal.returns-in_err-rows
returns-in_err-rows c =
    let p = err_from_is_err_and c.from_residual.result c.from_residual.ensures.1 in
    let q = c.in_err-rows.ensures in
    rw (p.1, p.2) (q.0 ∙ sym (breach_size _ c.if-s-gt65536.false (λ z. q.1 (q.0 ∙ z))), q.1)

pub check_field-requires : goal.check_field-requires
check_field-requires c =
    let w = second (goal.at.check_field-requires c).After-field-set in
    (w.0, c.if-s-gt65536.false, omega (arith, w.1))

pub returns-in_err-check_field : goal.returns-in_err-check_field
returns-in_err-check_field c =
    let p = err_from_is_err_and c.from_residual-in_err-check_field.result c.from_residual-in_err-check_field.ensures.1 in
    let w = second (goal.at.returns-in_err-check_field c).After-field-set in
    let q = rw w.1 at c.in_err-check_field.ensures in
    rw (p.1, p.2) (q.0 ∙ sym (breach_settings _ c.if-s-gt65536.false c.in_ok-rows.ensures.0 (λ z. q.1 (q.0 ∙ z))), q.1)

pub contours-init : goal.contours-init
contours-init c =
    let short = c.if-s-gt65536.false in
    let w = second (goal.at.contours-init c).After-field-set in
    let n = next_field _ short _ w.0 (omega (arith, w.1)) 2 33 c.in_ok-check_field.ensures in
    let src = ap (λ b. b.now) (c.behind-r-2.ensures.0 ∙ c.behind-r.ensures.0 ∙ c.new-r.ensures.0) in
    let at : c.field-f.result.at ≡ 44 = omega (arith, c.field-f.ensures.place, c.behind-r-2.ensures.1, n.0, w.1) in
    record {
      src = src;
      told = told_here c.field-f.ensures src;
      outlining =
          record {
            measured = record { short = short; sized = c.in_ok-rows.ensures.0; wide = c.in_ok-rows.ensures.1.1 };
            all = c.in_ok-rows.ensures.1.0;
            set = rw w.1 at c.in_ok-check_field.ensures;
            reached = reached_none _ at (omega (arith, n.1, w.1));
            place = refl;
          };
    }

-- ---- the contours

pub returns-in_err-check_contour : goal.returns-in_err-check_contour
returns-in_err-check_contour c =
    let p = err_from_is_err_and c.from_residual-in_err-check_contour.result c.from_residual-in_err-check_contour.ensures.1 in
    let q = c.in_err-check_contour.ensures in
    let i = c.contours.invariant in
    let o = i.outlining in
    let m = o.measured in
    let here = told_contour _ m.short _ i.told (omega (arith, o.reached.inside, m.short)) c.contours-test.true in
    let b = q.0 ∙ sym (outlined_broken _ m.short _ _ _ o.reached here (λ z. q.1 (q.0 ∙ z))) in
    rw (p.1, p.2) (b ∙ sym (breach_outline _ m.short m.sized o.set (λ z. q.1 (b ∙ z))), q.1)

pub contours-smaller : goal.contours-smaller
contours-smaller c =
    let o = c.contours.invariant.outlining in
    omega (arith, (contour_fine _ o.measured.short _ _ _ (omega (arith, o.reached.inside, o.measured.short)) c.in_ok-check_contour.ensures).room)

pub contours-preserved : goal.contours-preserved
contours-preserved c =
    let i = c.contours.invariant in
    let o = i.outlining in
    let short = o.measured.short in
    let fine = c.in_ok-check_contour.ensures in
    let n = next_contour _ short _ i.told (omega (arith, o.reached.inside, short)) _ _ fine in
    let src = ap (λ b. b.now) c.behind-r-in-contours.ensures.0 ∙ i.src in
    let at : c.field-f-in-contours.result.at ≡ c.contours.f.next = c.field-f-in-contours.ensures.place ∙ c.behind-r-in-contours.ensures.1 in
    record {
      src = src;
      told = told_here c.field-f-in-contours.ensures src;
      outlining =
          record {
            measured = o.measured;
            all = o.all;
            set = o.set;
            reached = rw (at, n.0, n.1) (reached_more _ short _ _ _ o.reached fine);
            place = sym at;
          };
    }

-- ---- the rows and the end

pub rows-init : goal.rows-init
rows-init c =
    let i = c.contours.invariant in
    let o = i.outlining in
    let all : c.in_ok-rows.rows.count - 0 ≡ c.in_ok-rows.rows.count = omega arith in
    record {
      src = i.src;
      told = i.told;
      rowing = rw all (rowing_first _ (told_other _ o.measured.short _ i.told (omega (arith, o.reached.inside, o.measured.short)) c.contours-test.false) o);
    }

pub returns-in_err-check_field-2 : goal.returns-in_err-check_field-2
returns-in_err-check_field-2 c =
    let p = err_from_is_err_and c.from_residual-in_err-check_field-2.result c.from_residual-in_err-check_field-2.ensures.1 in
    let q = c.in_err-check_field-2.ensures in
    rw (p.1, p.2) (row_broken _ c.rows.invariant.rowing (omega arith) q.0 q.1, q.1)

pub rows-preserved : goal.rows-preserved
rows-preserved c =
    let i = c.rows.invariant in
    let g = i.rowing in
    let short = g.measured.short in
    let fine = c.in_ok-check_field-2.ensures in
    let n = next_field _ short _ i.told (omega (arith, g.inside, short)) _ _ fine in
    let src = ap (λ b. b.now) c.behind-r-in-rows.ensures.0 ∙ i.src in
    let at : c.field-f-in-rows.result.at ≡ c.rows.f.next = c.field-f-in-rows.ensures.place ∙ c.behind-r-in-rows.ensures.1 in
    let one : c.in_ok-rows.rows.count - (c.rows._y + 1) ≡ c.in_ok-rows.rows.count - c.rows._y - 1 = omega arith in
    record {
      src = src;
      told = told_here c.field-f-in-rows.ensures src;
      rowing = rw one (rowing_more _ g (omega arith) fine (at ∙ n.0) (omega (arith, at, n.0, n.1)));
    }

pub returns-in_err-end : goal.returns-in_err-end
returns-in_err-end c =
    let p = err_from_is_err_and c.from_residual-in_err-end.result c.from_residual-in_err-end.ensures.1 in
    let q = c.in_err-end.ensures in
    rw (p.1, p.2) (q.0 ∙ sym (end_decides _ c.rows.invariant.rowing (omega arith)), q.1)

pub returns : goal.returns
returns c =
    let g = c.rows.invariant.rowing in
    (end_decides _ g (omega arith) ∙ c.in_ok-end.ensures, whole_read _ g (omega arith))
