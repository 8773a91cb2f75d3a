-- `correction_c::rungtwine_sheet_error_correction` meets its contract: each arm is given which answer the sheet got, and the promise of the pass on its cells says what that is. Assumes nothing.
use mathlib.Core.Path.{◌≡◌, refl, sym, ◌∙◌, ap, subst}
use mathlib.Core.Bool.{Bool, true, false, cond}
use Prim.Native.Nat.{ℕ}
use borrow.Author.Tests.{eqb-true}
use Rattle.std.specs.Prelude.{Ok, Err}
use Rattle.correction.specs.Sheet.{Failure, Answer, told, saying, Sheet, failure, sheet_accepted, sheet_counts, sheet_tests, sheet_answer}
use Rattle.correction.proofs.Laws.Failure.{no_failure, told_failure}
use Rattle.correction_c.specs.Call.{sheet_protected, sheet_errors, sheet_corners, sheet_test_count}
use Rattle.correction_c.proofs.rungtwine_sheet_error_correction.Goals as goal

-- number, cell, place, counts and tests are those of the sheet
abbrev Parts : Sheet → ℕ → ℕ → ℕ → ℕ → ℕ → ℕ → ℕ → Type 0
Parts s n c p protected error corner tests =
    (n ≡ (failure s).number) × ((c ≡ (failure s).cell) × ((p ≡ (failure s).place) × ((protected ≡ sheet_protected s) × ((error ≡ sheet_errors s) × ((corner ≡ sheet_corners s) × (tests ≡ sheet_test_count s))))))

-- what is written of an answer is so
unfoldable Told : Sheet → Answer → Type 0
Told s (Ok c) = Parts s 0 0 0 c.counts.protected c.counts.error c.counts.corner c.tests
Told s (Err r) = Parts s (told r).number (told r).cell (told r).place 0 0 0 0

-- a count, by whether the sheet is accepted
counted : (b b' : Bool) (n : ℕ) → b ≡ b' → cond b' n 0 ≡ cond b n 0
counted b b' n e = ap (λ (b : Bool). cond b n 0) (sym e)

by_case : (s : Sheet) (b : Bool) → sheet_accepted s ≡ b → Told s (cond b (Ok (record { counts = sheet_counts s; tests = sheet_tests s })) (Err (saying (failure s))))
unfolding Told sheet_accepted sheet_protected sheet_errors sheet_corners sheet_test_count
by_case s true p =
    let z = sym (no_failure s (eqb-true (failure s).number 0 p)) in
    (ap (λ (f : Failure). f.number) z, (ap (λ (f : Failure). f.cell) z, (ap (λ (f : Failure). f.place) z, (counted _ true _ p, (counted _ true _ p, (counted _ true _ p, counted _ true _ p))))))
by_case s false p =
    let f = told_failure s p in
    (ap (λ (f : Failure). f.number) f, (ap (λ (f : Failure). f.cell) f, (ap (λ (f : Failure). f.place) f, (counted _ false _ p, (counted _ false _ p, (counted _ false _ p, counted _ false _ p))))))

-- so of the answer that the sheet gets
answered : (s : Sheet) (r r' : Answer) → r ≡ r' → r ≡ sheet_answer s → Told s r'
unfolding sheet_answer
answered s r r' e a = subst (Told s) (sym a ∙ e) (by_case s (sheet_accepted s) refl)

pub returns-in-Ok : goal.returns-in-Ok
unfolding Told
returns-in-Ok c =
    let p = c.msdf_sheet_error_correction.ensures in
    let e = answered _ _ _ refl c.in-Ok.ensures.answers in
    record { numbers = e.0; names = e.1.0; places = e.1.1.0; protects = e.1.1.1.0; flags = e.1.1.1.1.0; corners = e.1.1.1.1.1.0; tests = e.1.1.1.1.1.1; leaves = p.leaves; writes = p.writes; clears = p.clears }

pub returns-in-Err : goal.returns-in-Err
unfolding Told
returns-in-Err c =
    let p = c.msdf_sheet_error_correction.ensures in
    let e = answered _ _ _ refl c.in-Err.ensures.answers in
    record { numbers = c.number.ensures ∙ e.0; names = c.cell.ensures ∙ e.1.0; places = c.place.ensures ∙ e.1.1.0; protects = e.1.1.1.0; flags = e.1.1.1.1.0; corners = e.1.1.1.1.1.0; tests = e.1.1.1.1.1.1; leaves = p.leaves; writes = p.writes; clears = p.clears }
