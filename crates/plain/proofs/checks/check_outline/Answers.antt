-- `plain::checks::check_outline` meets its contract. Assumes nothing.
use Rattle.std.proofs.Common.{◌≡◌, false, length, sym, refl, ◌∙◌}
use Rattle.ground.specs.Refuse.{first_failing}
use Rattle.inputs.specs.Checks.{bad_outlines, outline_refusal, outline_place}
use Rattle.inputs.proofs.Laws.Checks.{good_outlines}
use Rattle.plain.proofs.checks.Chosen.{outline_told}
use Rattle.plain.proofs.checks.check_outline.Goals as goal
use Rattle.plain.proofs.checks.check_outline.Goals.{Else-bad_outlines}

-- check 7, where it has passed
ok : (c : Else-bad_outlines) → let a = c.args in bad_outlines (length a.colours.now) (length a.coords.now) ≡ false
ok c = sym c.bad_outlines.ensures ∙ c.if-bad_outlines.false

pub returns-then-bad_outlines : goal.returns-then-bad_outlines
unfolding outline_refusal outline_place first_failing
returns-then-bad_outlines c = record { numbers = simp (sym c.bad_outlines.ensures ∙ c.if-bad_outlines.true); places = refl }

pub check_segments-segments-requires : goal.check_segments-segments-requires
check_segments-segments-requires c = let g = good_outlines _ _ (ok (goal.at.check_segments-segments-requires c).Else-bad_outlines) in (g.1, g.0)

pub returns : goal.returns
returns c =
    let a = c.args in
    let e = c.check_ends.ensures in
    let all = outline_told a.colours.now a.coords.now a.ends.now c.check_segments-segments.result c.check_ends.result (ok (goal.at.returns c).Else-bad_outlines) c.check_segments-segments.ensures e.numbers e.places in
    record { numbers = all.0; places = all.1 }
