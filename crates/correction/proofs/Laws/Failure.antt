-- Where no check of a sheet fails no cell and no place are named. Assumes nothing.
--     no_failure    a sheet's failure with the number 0 is zeros throughout
--     saying_told   the refusal that says what a refusal says is that refusal
--     told_failure  a sheet's failure with another number is said by a refusal
use mathlib.Core.Path.{◌≡◌, refl}
use mathlib.Core.Bool.{Bool, true, false, cond, not, true≢false}
use native.Mathlib.Omega.{arith}
use lib.Dec.{eqb, ltb}
use lib.ListN.{length}
use borrow.Author.Tests.{eqb-false, ltb-true, not-true}
use Rattle.ground.proofs.Laws.Search.{first_holds}
use Rattle.inputs.specs.Checks.{bad_channels, bad_room, content_refusal}
use Prim.Native.Nat.{ℕ}
use borrow.Author.Tests.{eq-eqb}
use Rattle.std.specs.Prelude.{◌⊎◌, Result, Ok, Err}
use Rattle.std.proofs.Common.{sym, ◌∙◌, ap, inl, inr}
use Rattle.ground.specs.Refuse.{first_failing}
use Rattle.inputs.specs.Checks.{Input, place_of, outline_place}
use Rattle.inputs.specs.declared.refusal.ContentRefusal.TheVariants.{Setting, Sample, OutlineLengths, End, Segment}
use Rattle.inputs.proofs.Laws.Refusal.{content_not_0}
use Rattle.correction.specs.declared.refusal.Refusal.{Refusal}
use Rattle.correction.specs.declared.refusal.Refusal.TheVariants.{Channels, Sheet as Whole, Room, Outside, Overlap, Run, Cell}
use Rattle.correction.specs.Sheet.{Failure}
use Rattle.correction.specs.Sheet.{Sheet, cells_of, alone, bad_sheet, first_outside, first_overlap, first_bad_run, first_bad, of_sheet, of_cell, in_cell, content_failure, failure, sheet_accepted, told, saying, failure_in}

-- a check whose own failure has another number
past : (b : Bool) (f g : Failure) → (b ≡ true → f.number ≡ 0 → ⊥) → (g.number ≡ 0 → g ≡ of_sheet 0) → (cond b f g).number ≡ 0 → cond b f g ≡ of_sheet 0
past true f g h k e = absurd (h refl e)
past false f g h k e = k e

-- the first cell that fails a check of its own does not pass it
bad_cell : (s : Sheet) → ltb (first_bad s) (cells_of s) ≡ true → content_refusal (alone s (first_bad s)) ≡ 0 → ⊥
unfolding first_bad
bad_cell s t = eqb-false _ 0 (not-true _ (first_holds (λ c. not (eqb (content_refusal (alone s c)) 0)) (cells_of s) (ltb-true _ _ t)))

content_zeros : (s : Sheet) → (content_failure s).number ≡ 0 → content_failure s ≡ of_sheet 0
unfolding content_failure
content_zeros s = past (ltb (first_bad s) (cells_of s)) (in_cell s (first_bad s)) (of_sheet 0) (bad_cell s) (λ e. refl)

pub no_failure : (s : Sheet) → (failure s).number ≡ 0 → failure s ≡ of_sheet 0
unfolding failure
no_failure s =
    past (bad_channels s.channels) (of_sheet 1) _ (λ t z. absurd (omega arith))
    (past (bad_sheet s.width s.height s.channels (length s.samples) (length s.stencil) (length s.cells) (cells_of s) (length s.settings)) (of_sheet 50) _ (λ t z. absurd (omega arith))
    (past (bad_room s.width (length s.room)) (of_sheet 60) _ (λ t z. absurd (omega arith))
    (past (ltb (first_outside s.width s.height s.cells (cells_of s)) (cells_of s)) (of_cell 51 _) _ (λ t z. absurd (omega arith))
    (past (ltb (first_overlap s.cells (cells_of s)) (cells_of s)) (of_cell 52 _) _ (λ t z. absurd (omega arith))
    (past (ltb (first_bad_run s.cells (cells_of s) (length s.colours) (length s.coords) (length s.ends)) (cells_of s)) (of_cell 53 _) _ (λ t z. absurd (omega arith))
    (content_zeros s))))))

pub saying_told : (r : Refusal) → saying (told r) ≡ r
saying_told Channels = refl
saying_told Whole = refl
saying_told Room = refl
saying_told (Outside c) = refl
saying_told (Overlap c) = refl
saying_told (Run c) = refl
saying_told (Cell c (Setting p)) = refl
saying_told (Cell c (Sample p)) = refl
saying_told (Cell c OutlineLengths) = refl
saying_told (Cell c (End p)) = refl
saying_told (Cell c (Segment p)) = refl

-- no refusal has the number 0
pub told_not_0 : (r : Refusal) → (told r).number ≡ 0 → ⊥
told_not_0 Channels e = cc
told_not_0 Whole e = cc
told_not_0 Room e = cc
told_not_0 (Outside c) e = cc
told_not_0 (Overlap c) e = cc
told_not_0 (Run c) e = cc
told_not_0 (Cell c r) e = content_not_0 r e

-- two results without a value that say the same are the same
pub results_alike : (r s : Result Unit Refusal) → failure_in r ≡ failure_in s → r ≡ s
results_alike (Ok a) (Ok b) e = refl
results_alike (Ok a) (Err s) e = absurd (told_not_0 s (sym (ap (λ (f : Failure). f.number) e)))
results_alike (Err r) (Ok b) e = absurd (told_not_0 r (ap (λ (f : Failure). f.number) e))
results_alike (Err r) (Err s) e = ap Err (sym (saying_told r) ∙ ap saying e ∙ saying_told s)

-- ---- what a sheet's failure says

-- a failure is none, or a refusal says it
abbrev Said : Failure → Type 0
Said f = (f.number ≡ 0) ⊎ (told (saying f) ≡ f)

either : (b : Bool) (f g : Failure) → Said f → Said g → Said (cond b f g)
either true f g p q = p
either false f g p q = q

-- that of check n of cell c
abbrev in_content : Input → ℕ → ℕ → Failure
in_content i c n = record { number = n; cell = c; place = place_of i n }

either_content : (i : Input) (c : ℕ) (b : Bool) (n m : ℕ) → Said (in_content i c n) → Said (in_content i c m) → Said (in_content i c (cond b n m))
either_content i c true n m p q = p
either_content i c false n m p q = q

content_said : (i : Input) (c : ℕ) → Said (in_content i c (content_refusal i))
unfolding content_refusal first_failing place_of outline_place
content_said i c =
    either_content i c _ 5 _ (inr refl)
    (either_content i c _ 6 _ (inr refl)
    (either_content i c _ 7 _ (inr refl)
    (either_content i c _ 8 _ (inr refl)
    (either_content i c _ 9 _ (inr refl)
    (inl refl)))))

contents_said : (s : Sheet) → Said (content_failure s)
unfolding content_failure
contents_said s = either (ltb (first_bad s) (cells_of s)) (in_cell s (first_bad s)) (of_sheet 0) (content_said (alone s (first_bad s)) (first_bad s)) (inl refl)

failure_said : (s : Sheet) → Said (failure s)
unfolding failure
failure_said s =
    either (bad_channels s.channels) (of_sheet 1) _ (inr refl)
    (either (bad_sheet s.width s.height s.channels (length s.samples) (length s.stencil) (length s.cells) (cells_of s) (length s.settings)) (of_sheet 50) _ (inr refl)
    (either (bad_room s.width (length s.room)) (of_sheet 60) _ (inr refl)
    (either (ltb (first_outside s.width s.height s.cells (cells_of s)) (cells_of s)) (of_cell 51 _) _ (inr refl)
    (either (ltb (first_overlap s.cells (cells_of s)) (cells_of s)) (of_cell 52 _) _ (inr refl)
    (either (ltb (first_bad_run s.cells (cells_of s) (length s.colours) (length s.coords) (length s.ends)) (cells_of s)) (of_cell 53 _) _ (inr refl)
    (contents_said s))))))

pub told_failure : (s : Sheet) → sheet_accepted s ≡ false → told (saying (failure s)) ≡ failure s
unfolding sheet_accepted
told_failure s e = elim (failure_said s) [ inl z ↦ absurd (true≢false (sym (eq-eqb _ _ z) ∙ e)) | inr h ↦ h ]
