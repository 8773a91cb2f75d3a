-- `signs::checks::check` meets its contract: each check by what has passed before it. Assumes nothing.
use mathlib.Core.Path.{refl, sym, ◌∙◌}
use native.Mathlib.Nat.{le_refl}
use native.Mathlib.Omega.{arith}
use borrow.Author.Tests.{eq-eqb, ne_eqb}
use Rattle.std.proofs.lemmas.Result.{err_from_is_err_and}
use Rattle.inputs.proofs.Laws.Checks.{area_fits}
use Rattle.signs.specs.Checks.{Input, input, bad_zero, bad_matches}
use Rattle.signs.proofs.Laws.Refusal.{refuses}
use Rattle.signs.proofs.checks.Passed.{sizes}
use Rattle.signs.proofs.checks.Refusals.{by_sizes_law, by_samples, by_zero, by_filled, by_matches, by_none}
use Rattle.signs.proofs.checks.check.Goals as goal
use Rattle.signs.proofs.checks.check.Goals.{Start}

-- all that comes in
abbrev given : Start → Input
given s = input s.args.b.width s.args.b.height s.args.b.channels s.args.samples.now s.args.zero s.args.filled.now s.args.matches.now

pub returns-in_err-check_size : goal.returns-in_err-check_size
returns-in_err-check_size c =
    let h = c.in_err-check_size.ensures in
    let p = err_from_is_err_and c.from_residual.result c.from_residual.ensures.1 in
    let all = by_sizes_law (given (goal.at.returns-in_err-check_size c).Start) h.numbers (refuses _) in
    record { numbers = rw (p.1, p.2) all.0; places = rw (p.1, p.2) (h.places ∙ all.1) }

pub returns-in-Some : goal.returns-in-Some
returns-in-Some c =
    let all = by_samples (given (goal.at.returns-in-Some c).Start) c.in_ok-check_size.ensures.numbers refl c.in-Some.ensures.0 c.in-Some.ensures.1 in
    record { numbers = all.0; places = all.1 }

pub overflow_mul-area : goal.overflow_mul-area
overflow_mul-area c =
    let p = sizes _ _ _ _ (sym c.in_ok-check_size.ensures.numbers) in
    omega (arith, area_fits _ _ p.wide.1 p.high.1)

pub returns-then-bad_sample : goal.returns-then-bad_sample
unfolding bad_zero
returns-then-bad_sample c =
    let all = by_zero (given (goal.at.returns-then-bad_sample c).Start) c.in_ok-check_size.ensures.numbers refl (sym c.in_default.ensures) (le_refl _) (sym c.bad_sample.ensures ∙ c.if-bad_sample.true) in
    record { numbers = all.0; places = all.1 }

pub returns-then-bad_filled : goal.returns-then-bad_filled
unfolding bad_zero
returns-then-bad_filled c =
    let all = by_filled (given (goal.at.returns-then-bad_filled c).Start) c.in_ok-check_size.ensures.numbers refl (sym c.in_default.ensures) (le_refl _) (sym c.bad_sample.ensures ∙ c.if-bad_sample.false) (sym c.bad_filled.ensures ∙ c.if-bad_filled.true) in
    record { numbers = all.0; places = all.1 }

pub returns-then-matches-area : goal.returns-then-matches-area
unfolding bad_zero bad_matches
returns-then-matches-area c =
    let all = by_matches (given (goal.at.returns-then-matches-area c).Start) c.in_ok-check_size.ensures.numbers refl (sym c.in_default.ensures) (le_refl _) (sym c.bad_sample.ensures ∙ c.if-bad_sample.false) (sym c.bad_filled.ensures ∙ c.if-bad_filled.false) (simp (ne_eqb _ _ c.if-matches-area.true)) in
    record { numbers = all.0; places = all.1 }

pub returns : goal.returns
unfolding bad_zero bad_matches
returns c =
    let all = by_none (given (goal.at.returns c).Start) c.in_ok-check_size.ensures.numbers refl (sym c.in_default.ensures) (le_refl _) (sym c.bad_sample.ensures ∙ c.if-bad_sample.false) (sym c.bad_filled.ensures ∙ c.if-bad_filled.false) (simp (eq-eqb _ _ c.if-matches-area.false)) in
    record { numbers = all.0; places = all.1 }
