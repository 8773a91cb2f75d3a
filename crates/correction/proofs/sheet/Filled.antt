-- A sheet whose stencil is filled with zeros before its cells are corrected, without its room. Assumes nothing.
--     filled_zeros    a filled stencil by its own length
--     ready_filled    the sheet is as ready as it was
--     left_filled     what is counted and left of it rests neither on the stencil nor on the room
use mathlib.Core.Path.{◌≡◌, refl, sym, ◌∙◌, ap}
use mathlib.Core.List.{List, []}
use Prim.Native.Nat.{ℕ}
use lib.ListN.{length}
use Rattle.ground.specs.Lists.{tab}
use Rattle.ground.proofs.Laws.Fill.{tab_length}
use Rattle.correction.specs.Pass.{texels, cornered, edge_priority_protects, protects, flags, tests_at, byte_at, pass_stencil, pass_samples, pass_tests}
use Rattle.correction.specs.Sheet.{Sheet, with, alone, holder, within, sheet_byte, sheet_stencil, sheet_sample, sheet_samples, over_cells, sheet_counts, sheet_tests}
use Rattle.correction.specs.Cells.{Ready, tallies}
use Rattle.correction.proofs.sheet.Laid.{laid_with}

pub filled_zeros : (n : ℕ) (st : List ℕ) → st ≡ tab n (λ k. 0) → st ≡ tab (length st) (λ k. 0)
filled_zeros n st e = e ∙ ap (λ (m : ℕ). tab m (λ k. 0)) (sym (ap length e ∙ tab_length n (λ k. 0)))

pub ready_filled : (s : Sheet) (st : List ℕ) → length st ≡ length s.stencil → Ready s → Ready (with s s.samples st [])
ready_filled s st e r = record { laid = laid_with s s.samples st [] refl r.laid; long = e ∙ r.long; apart = r.apart; outlined = r.outlined }

pub left_filled : (s : Sheet) (st : List ℕ) → (tallies (with s s.samples st []) ≡ tallies s) × ((sheet_stencil (with s s.samples st []) ≡ sheet_stencil s) × (sheet_samples (with s s.samples st []) ≡ sheet_samples s))
unfolding sheet_counts sheet_tests over_cells sheet_stencil sheet_byte sheet_samples sheet_sample holder within alone pass_stencil pass_samples pass_tests byte_at tests_at flags protects cornered edge_priority_protects texels
left_filled s st = (refl, (refl, refl))
