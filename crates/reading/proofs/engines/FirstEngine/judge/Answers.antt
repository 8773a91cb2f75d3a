-- The first engine judges as it promises: what the pass answers is fixed by its own promise. Assumes nothing.
use mathlib.Core.Path.{ap, ◌∙◌}
use Rattle.std.specs.Prelude.{Ok, Err}
use Rattle.std.proofs.lemmas.Result.{err_from_is_err_and}
use Rattle.inputs.specs.Checks.{input}
use Rattle.correction.proofs.Laws.Answer.{answers_fix}
use Rattle.reading.specs.Inner.{of_pass, judged}
use Rattle.reading.proofs.engines.FirstEngine.judge.Goals as goal

pub returns-clause-answers : goal.returns-clause-answers
unfolding judged of_pass
returns-clause-answers c =
    let a = c.args in
    let i = input a.b.width a.b.height a.b.channels a.samples.now a.stencil.now a.room.now a.mode a.s a.colours.now a.coords.now a.ends.now in
    ap Ok c.from.ensures ∙ ap of_pass (answers_fix i _ c.in_ok-msdf_error_correction.ensures.answers)

pub returns-in_err-msdf_error_correction-clause-answers : goal.returns-in_err-msdf_error_correction-clause-answers
unfolding judged of_pass
returns-in_err-msdf_error_correction-clause-answers c =
    let a = c.args in
    let i = input a.b.width a.b.height a.b.channels a.samples.now a.stencil.now a.room.now a.mode a.s a.colours.now a.coords.now a.ends.now in
    let p = err_from_is_err_and c.from_residual.result c.from_residual.ensures.1 in
    p.1 ∙ ap Err p.2 ∙ ap of_pass (answers_fix i _ c.in_err-msdf_error_correction.ensures.answers)
