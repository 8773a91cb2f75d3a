-- `inputs::checks::check_outline` meets its contract. Assumes nothing.
use mathlib.Core.Path.{◌≡◌, refl, sym, ◌∙◌, ap}
use mathlib.Core.Bool.{Bool, true, false, cond}
use mathlib.Core.List.{List}
use Prim.Native.Nat.{ℕ}
use lib.Ieee.{Float}
use lib.ListN.{length}
use Rattle.std.proofs.lemmas.Result.{err_from_is_err_and}
use Rattle.ground.specs.Refuse.{first_failing}
use Rattle.inputs.specs.declared.refusal.ContentRefusal.{ContentRefusal}
use Rattle.inputs.specs.Checks.{bad_outlines, bad_ends, ends_place, segments_place, outline_refusal, outline_place}
use Rattle.inputs.specs.Refusal.{content_number, content_place}
use Rattle.inputs.proofs.checks.Passed.{good_outlines}
use Rattle.inputs.proofs.Laws.Refusal.{refused_by, passed_by}
use Rattle.inputs.proofs.checks.check_outline.Goals as goal

module _ (colours : List ℕ) (coords : List Float) (ends : List ℕ) where
  -- where check 7 passes and check 8 refuses with r
  by_ends : (r : ContentRefusal) → bad_outlines (length colours) (length coords) ≡ false → content_number r ≡ cond (bad_ends ends (length colours)) 8 0
      → content_place r ≡ cond (bad_ends ends (length colours)) (ends_place ends (length colours)) 0
      → (content_number r ≡ outline_refusal colours coords ends) × (content_place r ≡ outline_place colours coords ends (content_number r))
  unfolding outline_refusal outline_place first_failing
  by_ends r a n p =
      let b = refused_by _ 8 r n in
      let e : content_number r ≡ 8 = n ∙ rw b in
      (simp (a, b) e, rw e (p ∙ rw b))

  -- the place of check 9
  by_segments : (b : Bool) → outline_place colours coords ends (cond b 9 0) ≡ cond b (segments_place colours coords) 0
  unfolding outline_place
  by_segments true = refl
  by_segments false = refl

pub returns-then-bad_outlines : goal.returns-then-bad_outlines
unfolding outline_refusal outline_place first_failing
returns-then-bad_outlines c = record { numbers = simp (sym c.bad_outlines.ensures ∙ c.if-bad_outlines.true); places = refl }

pub returns-in_err-check_ends : goal.returns-in_err-check_ends
returns-in_err-check_ends c =
    let a = c.args in
    let h = c.in_err-check_ends.ensures in
    let p = err_from_is_err_and c.from_residual.result c.from_residual.ensures.1 in
    let all = by_ends a.colours.now a.coords.now a.ends.now _ (sym c.bad_outlines.ensures ∙ c.if-bad_outlines.false) h.numbers h.places in
    record { numbers = rw (p.1, p.2) all.0; places = rw (p.1, p.2) all.1 }

pub check_segments-requires : goal.check_segments-requires
check_segments-requires c = (good_outlines _ _ (sym c.bad_outlines.ensures ∙ c.if-bad_outlines.false)).1

pub returns : goal.returns
unfolding outline_refusal first_failing
returns c =
    let a = c.args in
    let h = c.check_segments.ensures in
    let b = passed_by _ 8 (λ z. cc) c.in_ok-check_ends.ensures.numbers in
    record {
      numbers = simp (sym c.bad_outlines.ensures ∙ c.if-bad_outlines.false, b) h.numbers;
      places = h.places ∙ sym (by_segments a.colours.now a.coords.now a.ends.now _) ∙ ap (outline_place a.colours.now a.coords.now a.ends.now) (sym h.numbers);
    }
