-- `correction::cells::first_outside` meets its contract: the search answers the first cell outside. Assumes nothing.
use Rattle.std.proofs.Common.{◌≡◌, ℕ, true, false, rules, tests}
use Rattle.std.proofs.lemmas.Iterator.{first_from_Range}
use Rattle.correction.specs.Sheet.{area_at, bad_area, first_outside}
use Rattle.correction.proofs.cells.Searches.{found_first}
use Rattle.correction.proofs.cells.first_outside.Goals as goal

pub returns : goal.returns
unfolding first_outside
returns c =
    let a = c.args in
    let f = λ (k : ℕ). bad_area a.b.width a.b.height (area_at a.cells.now k) in
    found_first f a.n c.find.result (first_from_Range _ _ _ c.find.result (λ k. f k ≡ true) (λ k. f k ≡ false) c.find.ensures.ran (λ k q h. search (rules, tests)) (λ k q h. search (rules, tests)))
