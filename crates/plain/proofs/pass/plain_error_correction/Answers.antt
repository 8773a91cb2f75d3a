-- `plain::pass::plain_error_correction` meets its contract: the checks, then the stages. Assumes nothing.
use Rattle.std.specs.Prelude.{Err}
use Rattle.std.proofs.Common.{sym, ap, ◌∙◌}
use Rattle.std.proofs.lemmas.Result.{err_from_is_err_and}
use Rattle.inputs.specs.Checks.{Input, input}
use Rattle.inputs.proofs.Laws.Checks.{ready}
use Rattle.plain.proofs.pass.Whole.{refused, answered}
use Rattle.plain.proofs.pass.plain_error_correction.Goals as goal
use Rattle.plain.proofs.pass.plain_error_correction.Goals.{Start}

-- the input
abbrev given : Start → Input
given c = let a = c.args in input a.width a.height a.channels a.samples.now a.stencil.now a.room.now a.mode a.settings a.colours.now a.coords.now a.ends.now

pub returns-in_err-check : goal.returns-in_err-check
returns-in_err-check c =
    let p = err_from_is_err_and c.from_residual.result c.from_residual.ensures.1 in
    let e = c.in_err-check.ensures in
    let all = refused (given (goal.at.returns-in_err-check c).Start) _ _ (p.1 ∙ ap Err p.2) e.numbers e.places in record { answers = all.0; leaves = all.1.0; writes = all.1.1.0; clears = all.1.1.1 }

pub correct-requires : goal.correct-requires
correct-requires c = let all = ready (given (goal.at.correct-requires c).Start) (sym c.in_ok-check.ensures.numbers) in record { sized = all.0; stencil_len = all.1.0; outlined = all.1.1 }

pub returns : goal.returns
returns c = let all = answered (given (goal.at.returns c).Start) _ _ _ _ (sym c.in_ok-check.ensures.numbers) c.correct.ensures.leaves c.correct.ensures.writes c.correct.ensures.clears c.count.ensures in record { answers = all.0; leaves = all.1.0; writes = all.1.1.0; clears = all.1.1.1 }
