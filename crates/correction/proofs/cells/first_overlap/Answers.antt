-- `correction::cells::first_overlap` meets its contract: the search answers the first cell that overlaps an earlier one. Assumes nothing.
use Rattle.std.proofs.Common.{◌≡◌, true, false, rules, tests}
use Rattle.std.proofs.lemmas.Iterator.{first_from_Range}
use Rattle.correction.specs.Sheet.{overlaps_earlier, first_overlap}
use Rattle.correction.proofs.cells.Searches.{found_first}
use Rattle.correction.proofs.cells.first_overlap.Goals as goal

pub returns : goal.returns
unfolding first_overlap
returns c =
    let a = c.args in
    let f = overlaps_earlier a.cells.now in
    found_first f a.n c.find.result (first_from_Range _ _ _ c.find.result (λ k. f k ≡ true) (λ k. f k ≡ false) c.find.ensures.ran (λ k q h. search (rules, tests)) (λ k q h. search (rules, tests)))
