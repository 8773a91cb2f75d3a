-- `correction::cells::first_bad_run` meets its contract: the search answers the first cell with a run outside its list. Assumes nothing.
use Rattle.std.proofs.Common.{◌≡◌, true, false, length, rules, tests}
use Rattle.std.proofs.lemmas.Iterator.{first_from_Range}
use Rattle.correction.specs.Sheet.{bad_runs, first_bad_run}
use Rattle.correction.proofs.cells.Searches.{found_first}
use Rattle.correction.proofs.cells.first_bad_run.Goals as goal

pub returns : goal.returns
unfolding first_bad_run
returns c =
    let a = c.args in
    let f = bad_runs a.cells.now (length a.all.colours.now) (length a.all.coords.now) (length a.all.ends.now) in
    found_first f a.n c.find.result (first_from_Range _ _ _ c.find.result (λ k. f k ≡ true) (λ k. f k ≡ false) c.find.ensures.ran (λ k q h. search (rules, tests)) (λ k q h. search (rules, tests)))
