-- What holds of runs of the public functions, by their promises as they are read from the source: of the arguments a, the answer z and the arguments at exit e, of which the samples are the fourth, the stencil the fifth and the room the sixth. Assumes nothing.
--     given             the sheet that comes in with a run's arguments
--     zero_accepts      an answer with the number 0 accepts
--     promise_cells     demand 2, cell by cell: a cell of a sheet is left as the pass leaves the same cell as a bitmap alone
--     promise_outside_cells, promise_outside_samples   outside every cell stencil bytes are zero, and samples stay
--     promise_cells_monotony      demand 3, cell by cell
--     promise_cells_independent   other samples in one cell change nothing of another
--     promise_order     cells in another order: the same answer, stencil, samples and room
use mathlib.Core.Path.{◌≡◌, refl, sym, ◌∙◌, ap}
use mathlib.Core.Bool.{Bool, true, false, cond}
use mathlib.Core.List.{List}
use Prim.Native.Nat.{ℕ, ◌*◌, ◌/◌, ◌%◌, ◌<◌}
use lib.ListN.{length, get_or}
use lib.Ieee.{Float, nan}
use contract.Lifetimes.{Lfts}
use borrow.Fn.Kinds.{Dens}
use borrow.Author.Tests.{eq-eqb}
use Rattle.inputs.specs.Stencil.{is_error}
use Rattle.inputs.specs.Window.{cell_in, cut_cells, cut_samples}
use Rattle.std.specs.Prelude.{Ok, Err}
use Rattle.correction.specs.Pass.{stencil_after, samples_after}
use Rattle.correction.specs.Stricter.{Stricter}
use Rattle.correction.specs.Sheet.{Answer, saying, Sheet, sheet, with, cells_of, area_at, window_at, alone, covers, Outside, failure, sheet_accepted, sheet_counts, sheet_tests, sheet_answer, sheet_stencil_after, sheet_samples_after, number_in}
use Rattle.correction.specs.Reordered.{Reordered}
use Rattle.correction.proofs.pass.msdf_error_correction.Kinds as entry_kinds
use Rattle.correction.proofs.pass.msdf_error_correction.Reads as entry
use Rattle.correction.proofs.sheet.msdf_sheet_error_correction.Kinds.{ps}
use Rattle.correction.proofs.sheet.msdf_sheet_error_correction.Reads as run
use Rattle.correction.proofs.Laws.Failure.{told_not_0}
use Rattle.correction.proofs.Laws.Leaves as Leaves
use Rattle.correction.proofs.Laws.Sheets.{cell_stencil, cell_samples, outside_stencil, outside_samples}
use Rattle.correction.proofs.Laws.Cells.{sheet_monotony, cells_independent}
use Rattle.correction.proofs.Laws.Order.{reordered_accepted, reordered_stencil, reordered_samples, reordered_room, reordered_counts, reordered_tests}

-- the sheet that comes in with a run's arguments
abbrev pub given : (κs : Lfts 9) → Dens κs ps → Sheet
given κs a =
    sheet a.0 a.1.0 a.1.1.0 a.1.1.1.0.now a.1.1.1.1.0.now a.1.1.1.1.1.0.now a.1.1.1.1.1.1.0.now a.1.1.1.1.1.1.1.0.now a.1.1.1.1.1.1.1.1.0.now a.1.1.1.1.1.1.1.1.1.0.now a.1.1.1.1.1.1.1.1.1.1.0.now a.1.1.1.1.1.1.1.1.1.1.1.0.now

accepts : (s : Sheet) → (failure s).number ≡ 0 → sheet_accepted s ≡ true
unfolding sheet_accepted
accepts s h = eq-eqb (failure s).number 0 h

pub zero_accepts : (s : Sheet) (z : Answer) → z ≡ sheet_answer s → number_in z ≡ 0 → sheet_accepted s ≡ true
unfolding sheet_answer number_in
zero_accepts s z e n = go (sheet_accepted s) refl (sym (ap number_in e) ∙ n)
  where
    go : (b : Bool) → sheet_accepted s ≡ b → number_in (cond b (Ok (record { counts = sheet_counts s; tests = sheet_tests s })) (Err (saying (failure s)))) ≡ 0 → b ≡ true
    go true q h = refl
    go false q h = absurd (told_not_0 (saying (failure s)) h)

answer_moved : (s t : Sheet) (to from : ℕ → ℕ) → Reordered s t to from → sheet_accepted s ≡ true → sheet_answer s ≡ sheet_answer t
unfolding sheet_answer
answer_moved s t to from r y = simp (y, reordered_accepted s t to from r y) (λ i. Ok (record { counts = reordered_counts s t to from r i; tests = reordered_tests s t to from r i }))

-- a run that accepts
module _ (κs : Lfts 9) (a : Dens κs ps) (z e : _) (p : run.Post κs a z e) (n : number_in z ≡ 0) where
  yes : sheet_accepted (given κs a) ≡ true
  yes = zero_accepts (given κs a) z p.0 n

  -- a run of the pass on cell c as a bitmap alone leaves what the sheet's run leaves of the cell
  pub promise_cells : (κs' : Lfts 6) (a' : Dens κs' entry_kinds.ps) (z' e' : _) → entry.Post κs' a' z' e' → (c : ℕ) → c < cells_of (given κs a) → Leaves.given κs' a' ≡ alone (given κs a) c →
      (cut_cells (window_at (given κs a) c) e.1.1.1.1.0.now ≡ e'.1.1.1.1.0.now) × (cut_samples (window_at (given κs a) c) e.1.1.1.0.now ≡ e'.1.1.1.0.now)
  promise_cells κs' a' z' e' p' c l i =
      let s = given κs a in (
        ap (cut_cells (window_at s c)) p.1.0 ∙ cell_stencil s yes c l ∙ sym (p'.1.0 ∙ ap stencil_after i),
        ap (cut_samples (window_at s c)) p.1.1.0 ∙ cell_samples s yes c l ∙ sym (p'.1.1.0 ∙ ap samples_after i),
      )

  pub promise_outside_cells : (k : ℕ) → k < (given κs a).width * (given κs a).height → Outside (given κs a) k → get_or e.1.1.1.1.0.now k 0 ≡ 0
  promise_outside_cells k l o = ap (λ (st : List ℕ). get_or st k 0) p.1.0 ∙ outside_stencil (given κs a) yes k l o

  pub promise_outside_samples : (j : ℕ) → j < length (given κs a).samples → Outside (given κs a) (j / (given κs a).channels) → get_or e.1.1.1.0.now j nan ≡ get_or (given κs a).samples j nan
  promise_outside_samples j l o = ap (λ (xs : List Float). get_or xs j nan) p.1.1.0 ∙ outside_samples (given κs a) yes j l o

-- two runs
module _ (κs κs' : Lfts 9) (a : Dens κs ps) (a' : Dens κs' ps) (z z' e e' : _) (p : run.Post κs a z e) (p' : run.Post κs' a' z' e') where
  -- both accept
  module _ (n : number_in z ≡ 0) (n' : number_in z' ≡ 0) where
    pub promise_cells_monotony : (c d : ℕ) → c < cells_of (given κs a) → d < cells_of (given κs' a') → Stricter (alone (given κs a) c) (alone (given κs' a') d) → (x y : ℕ) → x < (area_at (given κs a).cells c).width → y < (area_at (given κs a).cells c).height →
        is_error (get_or e'.1.1.1.1.0.now (cell_in (window_at (given κs' a') d) x y) 0) ≡ true → is_error (get_or e.1.1.1.1.0.now (cell_in (window_at (given κs a) c) x y) 0) ≡ true
    promise_cells_monotony c d l m r x y u v h =
        let s = given κs a in
        let t = given κs' a' in
        ap (λ (st : List ℕ). is_error (get_or st (cell_in (window_at s c) x y) 0)) p.1.0
        ∙ sheet_monotony s t (yes κs a z e p n) (yes κs' a' z' e' p' n') c d l m r x y u v (sym (ap (λ (st : List ℕ). is_error (get_or st (cell_in (window_at t d) x y) 0)) p'.1.0) ∙ h)

    -- the second sheet is the first with other samples, which differ in cell d alone
    pub promise_cells_independent : (s : Sheet) → s ≡ given κs a → (xs : List Float) (st : List ℕ) (room : List Float) → with s xs st room ≡ given κs' a' → (c d : ℕ) → c < cells_of s → d < cells_of s → (c ≡ d → ⊥) →
        ((j : ℕ) → covers (area_at s.cells d) (j / s.channels % s.width) (j / s.channels / s.width) ≡ false → get_or xs j nan ≡ get_or s.samples j nan) →
        (cut_cells (window_at s c) e'.1.1.1.1.0.now ≡ cut_cells (window_at s c) e.1.1.1.1.0.now) × (cut_samples (window_at s c) e'.1.1.1.0.now ≡ cut_samples (window_at s c) e.1.1.1.0.now)
    promise_cells_independent s i xs st room j c d l m h same =
        let q = cells_independent s xs st room (ap sheet_accepted i ∙ yes κs a z e p n) (ap sheet_accepted j ∙ yes κs' a' z' e' p' n') c d l m h same in (
          ap (cut_cells (window_at s c)) (p'.1.0 ∙ sym (ap sheet_stencil_after j)) ∙ q.0 ∙ sym (ap (cut_cells (window_at s c)) (p.1.0 ∙ sym (ap sheet_stencil_after i))),
          ap (cut_samples (window_at s c)) (p'.1.1.0 ∙ sym (ap sheet_samples_after j)) ∙ q.1 ∙ sym (ap (cut_samples (window_at s c)) (p.1.1.0 ∙ sym (ap sheet_samples_after i))),
        )

  -- the same cells in another order, where the first run accepts
  pub promise_order : (to from : ℕ → ℕ) → Reordered (given κs a) (given κs' a') to from → number_in z ≡ 0 → (z ≡ z') × (e.1.1.1.1.0.now ≡ e'.1.1.1.1.0.now) × (e.1.1.1.0.now ≡ e'.1.1.1.0.now) × (e.1.1.1.1.1.0.now ≡ e'.1.1.1.1.1.0.now)
  promise_order to from r n =
      let s = given κs a in
      let t = given κs' a' in
      let y = yes κs a z e p n in (
        p.0 ∙ answer_moved s t to from r y ∙ sym p'.0,
        p.1.0 ∙ reordered_stencil s t to from r y ∙ sym p'.1.0,
        p.1.1.0 ∙ reordered_samples s t to from r y ∙ sym p'.1.1.0,
        p.1.1.1 ∙ reordered_room s t to from r y ∙ sym p'.1.1.1,
      )
