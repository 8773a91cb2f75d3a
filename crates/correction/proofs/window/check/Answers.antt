-- `correction::window::check` meets its contract: which of checks 5 to 9 answers. Assumes nothing.
use mathlib.Core.Path.{◌≡◌, refl, sym, ◌∙◌, subst}
use Prim.Native.Nat.{ℕ, ◌*◌, ◌<◌}
use lib.ListN.{length}
use lib.Ieee.{nan}
use Rattle.std.proofs.lemmas.Result.{err_from_is_err_and}
use Rattle.ground.proofs.Laws.Picked.{picked_length}
use Rattle.inputs.specs.Checks.{samples_place, outline_refusal, outline_place, content_refusal, place_of}
use mathlib.Core.List.{[]}
use Rattle.inputs.proofs.Laws.Checks.{settings_refuse, settings_pass, samples_refuse, outline_refuses}
use Rattle.inputs.specs.Checks.{Input, input}
use Rattle.inputs.specs.Window.{cut_samples}
use Rattle.correction.proofs.window.check.Goals as goal
use Rattle.correction.proofs.window.check.Goals.{Start, In_default}

-- the window as a bitmap alone
abbrev given : Start → Input
given c = let a = c.args in input a.b.width a.b.height a.b.channels (cut_samples a.b a.xs.now) [] [] a.mode a.s.now a.o.now.colours.now a.o.now.coords.now a.o.now.ends.now

-- what is cut out has as many samples as the window
full : (c : Start) {k : ℕ} → let b = c.args.b in k ≡ b.height * b.width * b.channels → k ≡ length (given c).samples
full c {k} e = e ∙ sym (picked_length nan _ _ _)

few : (c : Start) {p : ℕ} → let b = c.args.b in (p ≡ samples_place (given c).samples) × (p < b.height * b.width * b.channels) → (p ≡ samples_place (given c).samples) × (p < length (given c).samples)
few c {p} e = (e.0, subst (λ (n : ℕ). p < n) (full c refl) e.1)

pub returns-in_err-m-clause-numbers : goal.returns-in_err-m-clause-numbers
returns-in_err-m-clause-numbers c =
    let p = err_from_is_err_and c.from_residual.result c.from_residual.ensures.1 in
    let e = c.in_err-m.ensures in
    rw (p.1, p.2) (settings_refuse (given (goal.at.returns-in_err-m-clause-numbers c).Start) _ e.numbers e.places).0

pub returns-in_err-m-clause-places : goal.returns-in_err-m-clause-places
returns-in_err-m-clause-places c =
    let p = err_from_is_err_and c.from_residual.result c.from_residual.ensures.1 in
    let e = c.in_err-m.ensures in
    rw (p.1, p.2) (settings_refuse (given (goal.at.returns-in_err-m-clause-places c).Start) _ e.numbers e.places).1

pub returns-in-Some-clause-numbers : goal.returns-in-Some-clause-numbers
returns-in-Some-clause-numbers c = (samples_refuse (given (goal.at.returns-in-Some-clause-numbers c).Start) (settings_pass _ c.in_ok-m.ensures.numbers) (few (goal.at.returns-in-Some-clause-numbers c).Start c.in-Some.ensures)).0

pub returns-in-Some-clause-places : goal.returns-in-Some-clause-places
returns-in-Some-clause-places c = (samples_refuse (given (goal.at.returns-in-Some-clause-places c).Start) (settings_pass _ c.in_ok-m.ensures.numbers) (few (goal.at.returns-in-Some-clause-places c).Start c.in-Some.ensures)).1

-- what checks 7 to 9 answer is what all of them do
outlined : (c : In_default) {r o : ℕ} → let a = c.args in r ≡ outline_refusal a.o.now.colours.now a.o.now.coords.now a.o.now.ends.now → o ≡ outline_place a.o.now.colours.now a.o.now.coords.now a.o.now.ends.now r
    → (r ≡ content_refusal (given (goal.at.In_default c).Start)) × (o ≡ place_of (given (goal.at.In_default c).Start) r)
outlined c = outline_refuses (given (goal.at.In_default c).Start) (settings_pass _ c.in_ok-m.ensures.numbers) (full (goal.at.In_default c).Start c.in_default.ensures)

pub returns-in_err-contours-clause-numbers : goal.returns-in_err-contours-clause-numbers
returns-in_err-contours-clause-numbers c =
    let p = err_from_is_err_and c.from_residual-in_err-contours.result c.from_residual-in_err-contours.ensures.1 in
    let e = c.in_err-contours.ensures in
    rw (p.1, p.2) (outlined (goal.at.returns-in_err-contours-clause-numbers c).In_default e.numbers e.places).0

pub returns-in_err-contours-clause-places : goal.returns-in_err-contours-clause-places
returns-in_err-contours-clause-places c =
    let p = err_from_is_err_and c.from_residual-in_err-contours.result c.from_residual-in_err-contours.ensures.1 in
    let e = c.in_err-contours.ensures in
    rw (p.1, p.2) (outlined (goal.at.returns-in_err-contours-clause-places c).In_default e.numbers e.places).1

pub returns-clause-numbers : goal.returns-clause-numbers
returns-clause-numbers c = (outlined (goal.at.returns-clause-numbers c).In_default c.in_ok-contours.ensures.numbers c.in_ok-contours.ensures.places).0

pub returns-clause-places : goal.returns-clause-places
returns-clause-places c = (outlined (goal.at.returns-clause-places c).In_default c.in_ok-contours.ensures.numbers c.in_ok-contours.ensures.places).1
