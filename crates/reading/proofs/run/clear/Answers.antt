-- `reading::run::clear` meets its contract: what fills the front is n zeros. Assumes nothing.
use Rattle.std.proofs.Common.{◌≡◌, ◌∙◌, length, replicate, refl, sym, ap, arith}
use Rattle.std.proofs.lemmas.List.{length-take-le}
use Rattle.ground.specs.Lists.{tab}
use Rattle.ground.proofs.Laws.Fill.{tab_length}
use Rattle.reading.proofs.Copied.{copied, repeated}
use Rattle.reading.proofs.run.clear.Goals as goal

pub returns : goal.returns
returns c =
    let n = c.args.n in
    let long : length (tab n (λ k. 0)) ≡ n = tab_length n (λ k. 0) in
    (copied _ 0 n _ _ (c.fill.ensures.after (λ y e. e) ∙ ap (λ m. replicate m 0) (length-take-le n c.args.out.now c.requires) ∙ repeated n 0) (sym long) (omega (arith, long)) (omega (arith, long)), refl)
