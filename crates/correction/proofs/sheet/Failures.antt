-- Which check of a sheet answers, by what the code has found: z is the answer of checks 1, 50 and 60, a, b and c are the cells of checks 51, 52 and 53, where there are some. Assumes nothing.
--     by_sheet       check 1, 50 or 60 fails
--     sheet_passes   all three pass
--     by_outside     and check 51 fails
--     all_inside     it passes
--     by_overlap     and check 52 fails
--     by_run         that passes, and check 53 fails
--     all_laid       checks 1, 50, 60, 51 and 53 pass
--     by_cells       and 52: each cell's own checks answer
use mathlib.Core.Path.{◌≡◌, refl, sym, ◌∙◌, ap}
use mathlib.Core.Bool.{Bool, true, false, cond}
use mathlib.Core.List.{[]}
use Prim.Native.Nat.{ℕ, suc, ◌<◌}
use native.Mathlib.Nat.{le_of_eq}
use lib.Dec.{ltb}
use lib.ListN.{length}
use Rattle.inputs.specs.Checks.{bad_channels, bad_room}
use Rattle.inputs.proofs.Laws.Checks.{below, not_below}
use Rattle.correction.specs.Sheet.{Failure}
use Rattle.correction.specs.Sheet.{Sheet, sheet, cells_of, bad_sheet, first_outside, first_overlap, first_bad_run, of_sheet, content_failure, failure}
use Rattle.correction.specs.Cells.{AreasInside, Laid}
use Rattle.correction.proofs.cells.Areas.{Measured, measured, areas_inside, areas_wider}
use Rattle.correction.proofs.sheet.Laid.{laid, laid_with}
use Rattle.correction.proofs.sheet.Contents.{content_same}

abbrev failed : ℕ → ℕ → Failure
failed n c = record { number = n; cell = c; place = 0 }

-- the first of three checks that fails, where the code knows no more than what it says
one_fails : (p q t : Bool) (r : Failure) {f : Failure} → f ≡ cond p (of_sheet 1) (cond q (of_sheet 50) (cond t (of_sheet 60) (of_sheet 0))) → (f.number ≡ 0 → ⊥) → f ≡ cond p (failed 1 0) (cond q (failed 50 0) (cond t (failed 60 0) r))
one_fails true q t r e h = e
one_fails false true t r e h = e
one_fails false false true r e h = e
one_fails false false false r e h = absurd (h (ap (λ (f : Failure). f.number) e))

-- a number is not another
numbered : {n : ℕ} {f : Failure} → f ≡ of_sheet (suc n) → f.number ≡ 0 → ⊥
numbered e h = let z : suc _ ≡ 0 = sym (ap (λ (f : Failure). f.number) e) ∙ h in cc

none_fails : (p q t : Bool) {f : Failure} → f ≡ cond p (of_sheet 1) (cond q (of_sheet 50) (cond t (of_sheet 60) (of_sheet 0))) → f.number ≡ 0 → (p ≡ false) × (q ≡ false) × (t ≡ false)
none_fails true q t e h = absurd (numbered e h)
none_fails false true t e h = absurd (numbered e h)
none_fails false false true e h = absurd (numbered e h)
none_fails false false false e h = (refl, refl, refl)

module _ (s : Sheet) where
  abbrev n : ℕ
  n = cells_of s

  abbrev unfit : Bool
  unfit = bad_sheet s.width s.height s.channels (length s.samples) (length s.stencil) (length s.cells) n (length s.settings)

  -- a search that has none
  past : {m : ℕ} → m ≡ n → ltb m n ≡ false
  past e = not_below n refl (le_of_eq (sym e))

  abbrev short : Bool
  short = bad_room s.width (length s.room)

  module _ {z : Failure} (e : z ≡ cond (bad_channels s.channels) (of_sheet 1) (cond unfit (of_sheet 50) (cond short (of_sheet 60) (of_sheet 0)))) where
    pub by_sheet : (z.number ≡ 0 → ⊥) → z ≡ failure s
    unfolding failure
    by_sheet h = one_fails (bad_channels s.channels) unfit short _ e h

    module _ (h : z.number ≡ 0) where
      three : (bad_channels s.channels ≡ false) × (unfit ≡ false) × (short ≡ false)
      three = none_fails (bad_channels s.channels) unfit short e h

      pub sheet_passes : Measured s.width s.height s.channels (length s.samples) (length s.stencil) (length s.cells) n (length s.settings)
      sheet_passes = measured _ _ _ _ _ _ _ _ three.1

      pub by_outside : {a : ℕ} → (a ≡ first_outside s.width s.height s.cells n) × (a < n) → failed 51 a ≡ failure s
      unfolding failure
      by_outside f = rw (three.0, three.1, three.2, below n f.0 f.1, f.0)

      module _ (u : first_outside s.width s.height s.cells n ≡ n) where
        pub all_inside : AreasInside 4096 4096 s.cells n
        all_inside =
            let m = sheet_passes in
            areas_wider s.width s.height 4096 4096 s.cells n m.wide.1 m.high.1 (areas_inside s.width s.height s.cells n (past u))

        pub by_overlap : {b : ℕ} → (b ≡ first_overlap s.cells n) × (b < n) → failed 52 b ≡ failure s
        unfolding failure
        by_overlap g = rw (three.0, three.1, three.2, past u, below n g.0 g.1, g.0)

        module _ (v : first_overlap s.cells n ≡ n) where
          pub by_run : {c : ℕ} → (c ≡ first_bad_run s.cells n (length s.colours) (length s.coords) (length s.ends)) × (c < n) → failed 53 c ≡ failure s
          unfolding failure
          by_run k = rw (three.0, three.1, three.2, past u, past v, below n k.0 k.1, k.0)

          module _ (w : first_bad_run s.cells n (length s.colours) (length s.coords) (length s.ends) ≡ n) where
            -- the sheet without its stencil and its room
            abbrev bare : Sheet
            bare = sheet s.width s.height s.channels s.samples [] [] s.cells s.modes s.settings s.colours s.coords s.ends

            pub all_laid : Laid bare
            all_laid = laid_with s s.samples [] [] refl (laid s three.0 three.1 (past u) (past w))

            pub by_cells : {r : Failure} → r ≡ content_failure bare → r ≡ failure s
            unfolding failure
            by_cells i = i ∙ rw (content_same s [] [], three.0, three.1, three.2, past u, past v, past w)
