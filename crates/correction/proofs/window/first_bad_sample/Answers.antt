-- `correction::window::first_bad_sample` meets its contract: no sample of a row before the loop's is bad. Assumes nothing.
use mathlib.Core.Path.{refl, sym, subst}
use native.Mathlib.Nat.{zero-mul}
use Rattle.ground.proofs.Laws.Search.{Searched, search_none}
use Rattle.correction.proofs.window.Rows.{sample_row, row_searched, row_found_law, rows_searched}
use Rattle.correction.proofs.window.first_bad_sample.Goals as goal

pub loop-y-init : goal.loop-y-init
loop-y-init c = subst (Searched _ _) (sym (zero-mul _)) (search_none _ _)

pub slice_bounds-first_bad_sample-end : goal.slice_bounds-first_bad_sample-end
slice_bounds-first_bad_sample-end c = let p = c.requires in (sample_row _ p c.loop-y-test.true c.place-from.ensures).last

pub returns-in-Some : goal.returns-in-Some
returns-in-Some c = let e = c.in-Some.ensures in row_found_law _ c.requires c.loop-y-test.true c.place-from.ensures e.0 c.loop-y.invariant e.1

pub loop-y-preserved : goal.loop-y-preserved
loop-y-preserved c = row_searched _ c.requires c.loop-y-test.true c.place-from.ensures refl c.loop-y.invariant c.in_default.ensures

pub returns : goal.returns
returns c = rows_searched _ _ _ c.loop-y.invariant c.loop-y-test.false c.loop-y.auto.y-end
