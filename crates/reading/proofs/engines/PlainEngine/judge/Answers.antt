-- The plain engine judges as it promises. Assumes nothing.
use mathlib.Core.Path.{ap, ◌∙◌}
use Rattle.std.specs.Prelude.{Ok, Err}
use Rattle.std.proofs.lemmas.Result.{err_from_is_err_and}
use Rattle.reading.specs.Inner.{of_plain, judged}
use Rattle.reading.proofs.engines.PlainEngine.judge.Goals as goal

pub returns-clause-answers : goal.returns-clause-answers
unfolding judged of_plain
returns-clause-answers c = ap Ok c.from.ensures ∙ ap of_plain c.in_ok-plain_error_correction.ensures.answers

pub returns-in_err-plain_error_correction-clause-answers : goal.returns-in_err-plain_error_correction-clause-answers
unfolding judged of_plain
returns-in_err-plain_error_correction-clause-answers c =
    let p = err_from_is_err_and c.from_residual.result c.from_residual.ensures.1 in
    p.1 ∙ ap Err p.2 ∙ ap of_plain c.in_err-plain_error_correction.ensures.answers
