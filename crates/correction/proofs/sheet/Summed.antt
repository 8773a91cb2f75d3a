-- What is counted while the cells of a sheet are corrected one after the other. Assumes nothing.
--     corrected_step  one more cell, of the sheet as it stands then
--     Summed          the sums over the first c cells
--     summed_none     before the first
--     summed_step     after one more
--     tally_small, summed_small   one cell's counts and the sums are small
--     summed_all      after the last they are the sheet's
use mathlib.Core.Path.{◌≡◌, sym, ◌∙◌, ap, subst}
use mathlib.Core.List.{List}
use Prim.Native.Nat.{ℕ, ◌+◌, ◌*◌, ◌<◌, ◌≤◌}
use native.Mathlib.Nat.{le_trans, mul-le-mul, le_antisymm}
use native.Mathlib.Omega.{arith}
use lib.ListN.{length}
use lib.Ieee.{Float, nan}
use Rattle.ground.specs.Lists.{total}
use Rattle.ground.proofs.Laws.Fill.{tab_length}
use Rattle.ground.proofs.Laws.Count.{count_small}
use Rattle.ground.proofs.Laws.Spent.{total_none, total_more, total_small}
use Rattle.ground.proofs.Laws.Sums.{total_most}
use Rattle.ground.proofs.Laws.Picked.{pasted_as}
use Rattle.inputs.specs.Stencil.{protected_count, error_count, corner_count}
use Rattle.inputs.specs.Window.{cell_shown, sample_shown, CellsPasted, SamplesPasted}
use Rattle.correction.specs.declared.pass.Corrected.{Corrected as Tally}
use Rattle.correction.specs.Pass.{byte_at, pass_stencil, pass_samples, pass_tests}
use Rattle.correction.specs.Sheet.{Sheet, with, cells_of, area_at, window_at, alone, over_cells, sheet_counts, sheet_tests}
use Rattle.correction.specs.Cells.{plus, Ready, tally_of, tallies}
use Rattle.correction.proofs.Laws.Tests.{tests_at_le}
use Rattle.correction.proofs.sheet.Corrected.{Corrected, SameLeft, alone_with, corrected_next}

module _ (s : Sheet) (r : Ready s) (c : ℕ) (l : c < cells_of s) {st : List ℕ} {xs : List Float} (i : Corrected s c st xs) where
  -- the cell as it stands is the cell as it was
  same : SameLeft (alone (with s xs st s.room) c) (alone s c)
  same = alone_with s xs st s.room c (i.rest c (omega arith) l).1

  pub corrected_step : {st' : List ℕ} {xs' : List Float} → CellsPasted (window_at s c) st st' (pass_stencil (alone (with s xs st s.room) c)) → SamplesPasted (window_at s c) xs xs' (pass_samples (alone (with s xs st s.room) c)) → Corrected s (c + 1) st' xs'
  corrected_step p q =
      let a = area_at s.cells c in
      corrected_next s r c l i (pasted_as 0 (a.height * a.width) (cell_shown (window_at s c)) p same.stencil) (pasted_as nan (a.height * a.width * s.channels) (sample_shown (window_at s c)) q same.samples)

  -- what is counted of it too
  pub same_tally : {n : Tally} → n ≡ tally_of (alone (with s xs st s.room) c) → n ≡ tally_of (alone s c)
  same_tally e = e ∙ rw (same.stencil, same.tests)

-- ---- the sums

module _ (s : Sheet) where
  abbrev protected_of : ℕ → ℕ
  protected_of d = protected_count (pass_stencil (alone s d))

  abbrev error_of : ℕ → ℕ
  error_of d = error_count (pass_stencil (alone s d))

  abbrev corner_of : ℕ → ℕ
  corner_of d = corner_count (pass_stencil (alone s d))

  abbrev tests_of : ℕ → ℕ
  tests_of d = pass_tests (alone s d)

  pub record Summed (c : ℕ) (n : Tally) : Type 0 where
    pub protected : n.counts.protected ≡ total c protected_of
    pub error : n.counts.error ≡ total c error_of
    pub corner : n.counts.corner ≡ total c corner_of
    pub tests : n.tests ≡ total c tests_of

  pub summed_none : Summed 0 (record { counts = record { protected = 0; error = 0; corner = 0 }; tests = 0 })
  summed_none = record { protected = sym (total_none protected_of); error = sym (total_none error_of); corner = sym (total_none corner_of); tests = sym (total_none tests_of) }

  pub summed_step : (c : ℕ) (m n : Tally) → Summed c m → n ≡ tally_of (alone s c) → Summed (c + 1) (plus m n)
  summed_step c m n i h =
      record {
        protected = total_more protected_of c m.counts.protected n.counts.protected i.protected (ap (λ (n : Tally). n.counts.protected) h);
        error = total_more error_of c m.counts.error n.counts.error i.error (ap (λ (n : Tally). n.counts.error) h);
        corner = total_more corner_of c m.counts.corner n.counts.corner i.corner (ap (λ (n : Tally). n.counts.corner) h);
        tests = total_more tests_of c m.tests n.tests i.tests (ap (λ (n : Tally). n.tests) h);
      }

  pub summed_all : (c : ℕ) (n : Tally) → Summed c n → c ≤ cells_of s → cells_of s ≤ c → n ≡ tallies s
  unfolding sheet_counts sheet_tests over_cells
  summed_all c n i l m =
      let e : c ≡ cells_of s = le_antisymm l m in
      let all : (f : ℕ → ℕ) (k : ℕ) → k ≡ total c f → k ≡ total (cells_of s) f = λ f k p. p ∙ ap (λ (d : ℕ). total d f) e in
      rw (← all _ _ i.protected, ← all _ _ i.error, ← all _ _ i.corner, ← all _ _ i.tests)

  -- ---- they are small

  -- as many as c cells may have
  abbrev pub Small : ℕ → Tally → Type 0
  Small c n = (n.counts.protected ≤ c * 16777216) × (n.counts.error ≤ c * 16777216) × (n.counts.corner ≤ c * 16777216) × (n.tests ≤ c * 1409286144)

  module _ (r : Ready s) where
    texels : (d : ℕ) → d < cells_of s → (area_at s.cells d).width * (area_at s.cells d).height ≤ 16777216
    texels d l =
        let i = r.laid.inside d l in
        let w : (area_at s.cells d).width ≤ 4096 = omega (arith, i.wide, r.laid.wide) in
        let h : (area_at s.cells d).height ≤ 4096 = omega (arith, i.high, r.laid.high) in
        mul-le-mul w h

    few : (d : ℕ) → d < cells_of s → length (pass_stencil (alone s d)) ≤ 16777216
    unfolding pass_stencil alone
    few d l = subst (λ (n : ℕ). n ≤ 16777216) (sym (tab_length ((area_at s.cells d).width * (area_at s.cells d).height) (byte_at (alone s d)))) (texels d l)

    cell_small : (d : ℕ) → d < cells_of s → (protected_of d ≤ 16777216) × (error_of d ≤ 16777216) × (corner_of d ≤ 16777216) × (tests_of d ≤ 1409286144)
    unfolding protected_count error_count corner_count pass_tests alone
    cell_small d l =
        let f = few d l in
        let t : tests_of d ≤ (area_at s.cells d).width * (area_at s.cells d).height * 84 = total_small 84 ((area_at s.cells d).width * (area_at s.cells d).height) _ (λ k. tests_at_le (alone s d) _ _) in
        (le_trans (count_small _ _) f, le_trans (count_small _ _) f, le_trans (count_small _ _) f, omega (arith, t, texels d l))

    pub tally_small : (d : ℕ) (n : Tally) → d < cells_of s → n ≡ tally_of (alone s d) → Small 1 n
    tally_small d n l e = subst (λ (n : Tally). Small 1 n) (sym e) (cell_small d l)

    pub summed_small : (c : ℕ) (n : Tally) → Summed c n → c < cells_of s → Small c n
    summed_small c n i l = (
      subst (λ (n : ℕ). n ≤ c * 16777216) (sym i.protected) (total_most 16777216 c protected_of (λ d b. (cell_small d (omega arith)).0)),
      subst (λ (n : ℕ). n ≤ c * 16777216) (sym i.error) (total_most 16777216 c error_of (λ d b. (cell_small d (omega arith)).1)),
      subst (λ (n : ℕ). n ≤ c * 16777216) (sym i.corner) (total_most 16777216 c corner_of (λ d b. (cell_small d (omega arith)).2)),
      subst (λ (n : ℕ). n ≤ c * 1409286144) (sym i.tests) (total_most 1409286144 c tests_of (λ d b. (cell_small d (omega arith)).3)),
    )
