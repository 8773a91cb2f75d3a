-- What a sheet's call answers and leaves, of a refusal and of an accepted sheet. Assumes nothing.
use mathlib.Core.Path.{◌≡◌, sym, ◌∙◌, ap}
use mathlib.Core.Bool.{true, false}
use mathlib.Core.List.{List}
use Prim.Native.Nat.{ℕ}
use lib.Dec.{eqb}
use lib.ListN.{length}
use lib.Ieee.{Float, binary32}
use borrow.Author.Tests.{eq-eqb, ne_eqb}
use Rattle.numbers.specs.Constants.{zero_of}
use Rattle.ground.specs.Lists.{tab}
use Rattle.std.specs.Prelude.{Ok, Err}
use Rattle.correction.specs.declared.refusal.Refusal.{Refusal}
use Rattle.correction.proofs.Laws.Failure.{saying_told, told_not_0}
use Rattle.correction.specs.Sheet.{Failure}
use Rattle.correction.specs.declared.pass.Corrected.{Corrected}
use Rattle.correction.specs.Sheet.{Sheet, failure, sheet_accepted, sheet_stencil, sheet_samples, told, saying, Answer, sheet_answer, sheet_stencil_after, sheet_samples_after, sheet_room_after}
use Rattle.correction.specs.Cells.{tallies}

pub refused : (s : Sheet) (r : Refusal) → told r ≡ failure s → (Err r ≡ sheet_answer s) × ((s.stencil ≡ sheet_stencil_after s) × ((s.samples ≡ sheet_samples_after s) × (s.room ≡ sheet_room_after s)))
unfolding sheet_answer sheet_stencil_after sheet_samples_after sheet_room_after sheet_accepted
refused s r e =
    let t : eqb (failure s).number 0 ≡ false = ne_eqb _ 0 (λ q. told_not_0 r (ap (λ (f : Failure). f.number) e ∙ q)) in
    (simp t (ap Err (sym (saying_told r) ∙ ap saying e)), (simp t, (simp t, simp t)))

pub refused_as : (s : Sheet) (z : Answer) (r : Refusal) → z ≡ Err r → told r ≡ failure s → (z ≡ sheet_answer s) × ((s.stencil ≡ sheet_stencil_after s) × ((s.samples ≡ sheet_samples_after s) × (s.room ≡ sheet_room_after s)))
refused_as s z r e t = let h = refused s r t in (e ∙ h.0, h.1)

pub answered : (s : Sheet) (n : Corrected) (st : List ℕ) (xs room : List Float) → (failure s).number ≡ 0 → n ≡ tallies s → st ≡ sheet_stencil s → xs ≡ sheet_samples s → room ≡ tab (length s.room) (λ k. zero_of binary32) →
    (Ok n ≡ sheet_answer s) × ((st ≡ sheet_stencil_after s) × ((xs ≡ sheet_samples_after s) × (room ≡ sheet_room_after s)))
unfolding sheet_answer sheet_stencil_after sheet_samples_after sheet_room_after sheet_accepted
answered s n st xs room h a b c d =
    let t : eqb (failure s).number 0 ≡ true = eq-eqb _ 0 h in
    (simp (a, t), (simp t b, (simp t c, simp t d)))
