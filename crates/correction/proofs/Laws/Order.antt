-- Cells in another order give the same sheet, stencil, counts and tests. Assumes nothing.
--     alone_moved          a cell as a bitmap alone is the same
--     reordered_accepted   the second sheet is accepted where the first is
--     reordered_stencil, reordered_samples, reordered_room, reordered_counts, reordered_tests   and leaves and answers the same
use mathlib.Core.Path.{◌≡◌, refl, sym, ◌∙◌, ap, subst}
use mathlib.Core.Bool.{Bool, true, false, cond, ◌||◌, true≢false}
use mathlib.Core.List.{List}
use mathlib.Core.Logic.{dite}
use Prim.Native.Nat.{ℕ, ◌+◌, ◌-◌, ◌*◌, ◌/◌, ◌%◌, ◌<◌, ◌≤◌}
use native.Mathlib.Decide.{dec_lt}
use native.Mathlib.Omega.{arith}
use lib.Dec.{ltb}
use lib.ListN.{length, get_or}
use lib.Ieee.{Float, binary32, nan}
use borrow.Author.Tests.{lt-ltb, le-ltb}
use Rattle.numbers.specs.Constants.{zero_of}
use Rattle.ground.specs.Lists.{tab, first, total}
use Rattle.ground.proofs.Laws.Fill.{tab_same}
use Rattle.ground.proofs.Laws.Search.{first_is, first_is_end, first_past, first_holds}
use Rattle.ground.proofs.Laws.Spent.{total_same}
use Rattle.ground.proofs.Laws.Sums.{total_reordered}
use Rattle.ranges.specs.declared.config.Settings.{Settings}
use Rattle.inputs.specs.Checks.{Input, input, bad_channels, bad_room, content_refusal}
use Rattle.inputs.specs.Window.{cut_cells, cut_samples}
use Rattle.correction.specs.declared.cells.Area.{Area}
use Rattle.correction.specs.declared.cells.Run.{Run}
use Rattle.inputs.specs.Stencil.{protected_count, error_count, corner_count}
use Rattle.correction.specs.Pass.{byte_at, pass_stencil, pass_samples, pass_tests}
use Rattle.correction.specs.Sheet.{Sheet, cells_of, area_at, window_of, taken, alone, bad_sheet, bad_area, bad_run, bad_runs, overlap, sheet_accepted, covers, holder, within, sheet_byte, sheet_stencil, sheet_sample, sheet_samples, sheet_stencil_after, sheet_samples_after, sheet_room_after, over_cells, sheet_counts, sheet_tests}
use Rattle.correction.specs.Reordered.{Reordered}
use Rattle.correction.proofs.Laws.Sheets.{AllPass, all_pass, passes_all}
use Rattle.correction.proofs.sheet.Places.{both_covered}

-- a cell as a bitmap alone, by all that it is made of
abbrev made : ℕ → ℕ → List Float → List ℕ → List Float → List ℕ → List Float → List ℕ → Area → ℕ → Settings → Run → Run → Run → Input
made w ch xs st room colours coords ends a mode s p q r =
    let g = window_of w ch a in
    input g.width g.height g.channels (cut_samples g xs) (cut_cells g st) room mode s (taken p colours) (taken q coords) (taken r ends)

module _ (s t : Sheet) (to from : ℕ → ℕ) (r : Reordered s t to from) where
  pub alone_moved : (c : ℕ) → c < cells_of s → alone s c ≡ alone t (to c)
  unfolding alone
  alone_moved c l i =
      made (r.width i) (r.channels i) (r.samples i) (r.stencil i) (r.room i) (r.colours i) (r.coords i) (r.ends i) (r.areas c l i) (r.mode c l i) (r.setting c l i) (r.colours_run_law c l i) (r.coords_run_law c l i) (r.ends_run_law c l i)

  -- what holds of each cell of the first, in its place in the second, holds of each cell of the second
  each : (P : ℕ → Type 0) → ((c : ℕ) → c < cells_of s → P (to c)) → (d : ℕ) → d < cells_of t → P d
  each P h d l =
      let m : d < cells_of s = subst (λ (n : ℕ). d < n) (sym r.modes) l in
      subst P (r.back_there d m) (h (from d) (r.back d m))

  runs_same : (c : ℕ) → c < cells_of s → bad_runs s.cells (length s.colours) (length s.coords) (length s.ends) c ≡ bad_runs t.cells (length t.colours) (length t.coords) (length t.ends) (to c)
  unfolding bad_runs
  runs_same c l i = bad_run (r.colours_run_law c l i) (length (r.colours i)) || (bad_run (r.coords_run_law c l i) (length (r.coords i)) || bad_run (r.ends_run_law c l i) (length (r.ends i)))

  pass_moved : AllPass s → AllPass t
  pass_moved p =
      let n : cells_of s ≡ cells_of t = r.modes in
      let lengths : bad_sheet s.width s.height s.channels (length s.samples) (length s.stencil) (length s.cells) (cells_of s) (length s.settings) ≡ bad_sheet t.width t.height t.channels (length t.samples) (length t.stencil) (length t.cells) (cells_of t) (length t.settings) =
      λ i. bad_sheet (r.width i) (r.height i) (r.channels i) (length (r.samples i)) (length (r.stencil i)) (r.numbers i) (r.modes i) (r.settings i) in
      record {
        channels = sym (ap bad_channels r.channels) ∙ p.channels;
        lengths = sym lengths ∙ p.lengths;
        room = sym (λ i. bad_room (r.width i) (length (r.room i))) ∙ p.room;
        areas = each (λ d. bad_area t.width t.height (area_at t.cells d) ≡ false) (λ c l. area_moved c l ∙ p.areas c l);
        apart = λ c d l m h. each (λ d. (c ≡ d → ⊥) → overlap (area_at t.cells c) (area_at t.cells d) ≡ false) (λ d b h. each (λ c. (c ≡ to d → ⊥) → overlap (area_at t.cells c) (area_at t.cells (to d)) ≡ false) (λ c a h. pair_moved c d a b ∙ p.apart c d a b (λ e. h (ap to e))) c l h) d m h;
        runs = each (λ d. bad_runs t.cells (length t.colours) (length t.coords) (length t.ends) d ≡ false) (λ c l. runs_moved c l ∙ p.runs c l);
        contents = each (λ d. content_refusal (alone t d) ≡ 0) (λ c l. sym (ap content_refusal (alone_moved c l)) ∙ p.contents c l);
      }
    where
      area_moved : (c : ℕ) (l : c < cells_of s) → bad_area t.width t.height (area_at t.cells (to c)) ≡ bad_area s.width s.height (area_at s.cells c)
      area_moved c l = sym (λ i. bad_area (r.width i) (r.height i) (r.areas c l i))

      pair_moved : (c d : ℕ) (a : c < cells_of s) (b : d < cells_of s) → overlap (area_at t.cells (to c)) (area_at t.cells (to d)) ≡ overlap (area_at s.cells c) (area_at s.cells d)
      pair_moved c d a b = sym (λ i. overlap (r.areas c a i) (r.areas d b i))

      runs_moved : (c : ℕ) (l : c < cells_of s) → bad_runs t.cells (length t.colours) (length t.coords) (length t.ends) (to c) ≡ bad_runs s.cells (length s.colours) (length s.coords) (length s.ends) c
      runs_moved c l = sym (runs_same c l)

  pub reordered_accepted : sheet_accepted s ≡ true → sheet_accepted t ≡ true
  reordered_accepted e = passes_all t (pass_moved (all_pass s e))

  module _ (e : sheet_accepted s ≡ true) where
    -- ---- where a texel p of the sheet lies

    abbrev inside : Sheet → ℕ → ℕ → Bool
    inside u p c = covers (area_at u.cells c) (p % u.width) (p / u.width)

    inside_moved : (p c : ℕ) (l : c < cells_of s) → inside s p c ≡ inside t p (to c)
    inside_moved p c l i = covers (r.areas c l i) (p % r.width i) (p / r.width i)

    -- in no second cell
    alone_in : (p c d : ℕ) → c < cells_of t → d < cells_of t → (d ≡ c → ⊥) → inside t p c ≡ true → inside t p d ≡ false
    alone_in p c d l m n h = go (inside t p d) refl
      where
        go : (b : Bool) → inside t p d ≡ b → b ≡ false
        go true q = absurd (true≢false (sym (both_covered (area_at t.cells d) (area_at t.cells c) _ _ q h) ∙ (pass_moved (all_pass s e)).apart d c m l n))
        go false q = refl

    in_second : (c : ℕ) → c < cells_of s → to c < cells_of t
    in_second c l = subst (λ (n : ℕ). to c < n) r.modes (r.there c l)

    holder_moved : (p : ℕ) → holder s p < cells_of s → holder t p ≡ to (holder s p)
    unfolding holder
    holder_moved p l =
        let c : ℕ = first (cells_of s) (inside s p) in
        let h : inside t p (to c) ≡ true = sym (inside_moved p c l) ∙ first_holds (inside s p) (cells_of s) l in
        first_is (inside t p) (cells_of t) (to c) (λ d m. alone_in p (to c) d (in_second c l) (omega (arith, in_second c l)) (λ q. absurd (omega arith)) h) (in_second c l) h

    holder_none : (p : ℕ) → cells_of s ≤ holder s p → holder t p ≡ cells_of t
    unfolding holder
    holder_none p l = first_is_end (inside t p) (cells_of t) (each (λ d. inside t p d ≡ false) (λ c m. sym (inside_moved p c m) ∙ first_past (inside s p) (cells_of s) l c m))

    -- ---- what is left

    byte_moved : (p : ℕ) → sheet_byte s p ≡ sheet_byte t p
    unfolding sheet_byte within
    byte_moved p =
        let c : ℕ = holder s p in
        dite (dec_lt c (cells_of s))
        (λ l.
        let q : byte_at (alone s c) (within s c p) ≡ byte_at (alone t (to c)) (within t (to c) p) = λ i. byte_at (alone_moved c l i) ((p / r.width i - (r.areas c l i).y) * (r.areas c l i).width + (p % r.width i - (r.areas c l i).x)) in
        simp (lt-ltb c (cells_of s) l, holder_moved p l, lt-ltb (to c) (cells_of t) (in_second c l)) q)
        (λ l. simp (le-ltb c (cells_of s) (omega arith), holder_none p (omega arith), le-ltb (cells_of t) (cells_of t) (omega arith)))

    pub reordered_stencil : sheet_stencil_after s ≡ sheet_stencil_after t
    unfolding sheet_stencil_after sheet_stencil
    reordered_stencil =
        simp (e, reordered_accepted e) (tab_same (s.width * s.height) (sheet_byte s) (sheet_byte t) (λ p l. byte_moved p) ∙ (λ i. tab (r.width i * r.height i) (sheet_byte t)))

    sample_moved : (j : ℕ) → sheet_sample s j ≡ sheet_sample t j
    unfolding sheet_sample within
    sample_moved j =
        let p : ℕ = j / s.channels in
        let c : ℕ = holder s p in
        let f : ℕ → Float = λ ch. let d = holder t (j / ch) in cond (ltb d (cells_of t)) (get_or (pass_samples (alone t d)) (within t d (j / ch) * ch + j % ch) nan) (get_or t.samples j nan) in
        dite (dec_lt c (cells_of s))
        (λ l.
        let q : get_or (pass_samples (alone s c)) (within s c p * s.channels + j % s.channels) nan ≡ get_or (pass_samples (alone t (to c))) (within t (to c) p * s.channels + j % s.channels) nan =
        λ i. get_or (pass_samples (alone_moved c l i)) (((p / r.width i - (r.areas c l i).y) * (r.areas c l i).width + (p % r.width i - (r.areas c l i).x)) * s.channels + j % s.channels) nan in
        let a : sheet_sample s j ≡ get_or (pass_samples (alone s c)) (within s c p * s.channels + j % s.channels) nan = simp (lt-ltb c (cells_of s) l) in
        let b : f s.channels ≡ get_or (pass_samples (alone t (to c))) (within t (to c) p * s.channels + j % s.channels) nan = simp (holder_moved p l, lt-ltb (to c) (cells_of t) (in_second c l)) in
        a ∙ q ∙ sym b ∙ ap f r.channels)
        (λ l.
        let a : sheet_sample s j ≡ get_or s.samples j nan = simp (le-ltb c (cells_of s) (omega arith)) in
        let b : f s.channels ≡ get_or t.samples j nan = simp (holder_none p (omega arith), le-ltb (cells_of t) (cells_of t) (omega arith)) in
        a ∙ ap (λ (xs : List Float). get_or xs j nan) r.samples ∙ sym b ∙ ap f r.channels)

    pub reordered_samples : sheet_samples_after s ≡ sheet_samples_after t
    unfolding sheet_samples_after sheet_samples
    reordered_samples =
        simp (e, reordered_accepted e) (tab_same (length s.samples) (sheet_sample s) (sheet_sample t) (λ j l. sample_moved j) ∙ (λ i. tab (length (r.samples i)) (sheet_sample t)))

    pub reordered_room : sheet_room_after s ≡ sheet_room_after t
    unfolding sheet_room_after
    reordered_room = simp (e, reordered_accepted e) (λ i. tab (length (r.room i)) (λ k. zero_of binary32))

  -- ---- the sums

  over_moved : (f : Input → ℕ) → over_cells s f ≡ over_cells t f
  unfolding over_cells
  over_moved f =
      total_same (cells_of s) (λ c. f (alone s c)) (λ c. f (alone t (to c))) (λ c l. ap f (alone_moved c l))
      ∙ total_reordered (cells_of s) to from (λ d. f (alone t d)) r.there r.back r.there_back r.back_there
      ∙ ap (λ (n : ℕ). total n (λ d. f (alone t d))) r.modes

  pub reordered_counts : sheet_counts s ≡ sheet_counts t
  unfolding sheet_counts
  reordered_counts = rw (over_moved (λ i. protected_count (pass_stencil i)), over_moved (λ i. error_count (pass_stencil i)), over_moved (λ i. corner_count (pass_stencil i)))

  pub reordered_tests : sheet_tests s ≡ sheet_tests t
  unfolding sheet_tests
  reordered_tests = over_moved pass_tests
