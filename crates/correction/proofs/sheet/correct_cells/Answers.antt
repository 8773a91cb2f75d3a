-- `correction::sheet::correct_cells` meets its contract: the cells before the loop's are corrected, and counted. Assumes nothing.
use mathlib.Core.Path.{refl, ◌∙◌}
use mathlib.Core.List.{[]}
use Prim.Native.Nat.{◌<◌}
use native.Mathlib.Nat.{mul_comm}
use native.Mathlib.Omega.{arith}
use Rattle.correction.specs.Sheet.{Sheet, sheet}
use Rattle.correction.proofs.sheet.Laid.{laid_with}
use Rattle.correction.proofs.sheet.Corrected.{ended, corrected_none, all_cells, all_samples}
use Rattle.correction.proofs.sheet.Summed.{corrected_step, same_tally, summed_none, summed_step, summed_all, summed_small, tally_small}
use Rattle.correction.proofs.sheet.correct_cells.Goals as goal
use Rattle.correction.proofs.sheet.correct_cells.Goals.{Start}

abbrev given : Start → Sheet
given c =
    let a = c.args in
    sheet a.b.width a.b.height a.b.channels a.xs.now a.stencil.now [] a.cells.now a.modes.now a.settings.now a.outline.colours.now a.outline.coords.now a.outline.ends.now

pub loop-c-init : goal.loop-c-init
loop-c-init c = (corrected_none (given (goal.at.loop-c-init c).Start) c.requires.ready c.requires.stencil_value, summed_none (given (goal.at.loop-c-init c).Start), omega arith, refl)

pub correct_cell-n-requires : goal.correct_cell-n-requires
correct_cell-n-requires c =
    let i = c.loop-c.invariant.0 in
    let r = c.requires.ready in
    let b = c.loop-c-test.true in record { laid = (laid_with (given (goal.at.correct_cell-n-requires c).Start) _ _ [] i.many r.laid, b, r.outlined _ b); stencil_len = i.long ∙ r.long; cleared = (i.rest _ (omega arith) b).0; width_in_bounds = omega (arith, c.loop-c.invariant.3, c.requires.width_in_bounds); mode = c.requires.modes _ b }

pub plus-sum-requires : goal.plus-sum-requires
plus-sum-requires c =
    let s = given (goal.at.plus-sum-requires c).Start in
    let r = c.requires.ready in
    let i = c.loop-c.invariant in
    let l = c.loop-c-test.true in
    let few : c.loop-c.c < 4096 = omega (arith, l, r.laid.few) in
    let own = tally_small s r _ _ l (same_tally s r _ l i.0 c.correct_cell-n.ensures.counts) in
    let sums = summed_small s r _ _ i.1 l in
    record { counts = (omega (arith, sums.0, own.0, few), omega (arith, sums.1, own.1, few), omega (arith, sums.2, own.2, few)); tests = omega (arith, sums.3, own.3, few) }

pub loop-c-preserved : goal.loop-c-preserved
loop-c-preserved c =
    let i = c.loop-c.invariant in
    let b = c.loop-c-test.true in
    let e = c.correct_cell-n.ensures in
    (corrected_step (given (goal.at.loop-c-preserved c).Start) c.requires.ready _ b i.0 e.leaves e.writes, rw c.plus-sum.ensures (summed_step (given (goal.at.loop-c-preserved c).Start) _ _ _ i.1 (same_tally (given (goal.at.loop-c-preserved c).Start) c.requires.ready _ b i.0 e.counts)), omega arith, c.correct_cell-n.auto.room ∙ i.3)

pub returns : goal.returns
returns c =
    let i = c.loop-c.invariant in
    let r = c.requires.ready in
    let m = c.loop-c-test.false in
    let j = ended (given (goal.at.returns c).Start) _ _ _ i.0 i.2 m in record { counts = summed_all (given (goal.at.returns c).Start) _ _ i.1 i.2 m; leaves = all_cells (given (goal.at.returns c).Start) r j (r.long ∙ mul_comm _ _); writes = all_samples (given (goal.at.returns c).Start) r j }

pub shape_of-stencil : goal.shape_of-stencil
shape_of-stencil c = c.loop-c.invariant.0.long

pub shape_of-xs : goal.shape_of-xs
shape_of-xs c = c.loop-c.invariant.0.many

pub shape_of-room : goal.shape_of-room
shape_of-room c = c.loop-c.invariant.3
