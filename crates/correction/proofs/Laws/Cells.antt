-- The cells of a sheet each by itself. Assumes nothing.
--     sheet_monotony       demand 3, cell by cell: a texel that the second sheet flags in a cell that asks to be stricter the first flags too
--     cells_independent    other samples in one cell change nothing of another, so long as both sheets are accepted
use mathlib.Core.Path.{◌≡◌, refl, sym, ◌∙◌, ap, subst}
use mathlib.Core.Bool.{true, false, true≢false}
use mathlib.Core.List.{List}
use Prim.Native.Nat.{ℕ, ◌+◌, ◌*◌, ◌/◌, ◌%◌, ◌<◌}
use native.Mathlib.Omega.{arith}
use lib.ListN.{get_or}
use lib.Arith.{digits_div}
use lib.Ieee.{Float, nan}
use Rattle.ground.proofs.Laws.Picked.{picked_at, picked_same}
use Rattle.inputs.specs.Stencil.{is_error}
use Rattle.inputs.specs.Window.{cell_in, cell_shown, sample_shown, cut_cells, cut_samples}
use Rattle.inputs.proofs.Laws.Places.{cell_inside, cell_lt}
use Rattle.inputs.proofs.Laws.Windows.{cell_shown_law}
use Rattle.correction.specs.Pass.{stencil_after}
use Rattle.correction.specs.Stricter.{Stricter}
use Rattle.correction.specs.Sheet.{Sheet, with, cells_of, area_at, window_at, alone, sheet_accepted, covers, sheet_stencil_after, sheet_samples_after}
use Rattle.correction.specs.Cells.{Ready}
use Rattle.correction.proofs.Laws.Leaves.{accepted_leaves}
use Rattle.correction.proofs.Laws.Monotony.{monotony}
use Rattle.correction.proofs.Laws.Sheets.{number_zero, cell_accepted, cell_stencil, cell_samples, all_pass}
use Rattle.correction.proofs.sheet.Laid.{ready}
use Rattle.correction.proofs.sheet.Places.{shown_covered, both_covered}
use Rattle.correction.proofs.sheet.Corrected.{alone_with}

-- the byte of texel x, y of cell c
abbrev pub byte_of : Sheet → ℕ → ℕ → ℕ → ℕ
byte_of s c x y = get_or (sheet_stencil_after s) (cell_in (window_at s c) x y) 0

-- is that of the pass on the cell alone
pub byte_alone : (s : Sheet) → sheet_accepted s ≡ true → (c : ℕ) → c < cells_of s → (x y : ℕ) → x < (area_at s.cells c).width → y < (area_at s.cells c).height → byte_of s c x y ≡ get_or (stencil_after (alone s c)) (y * (area_at s.cells c).width + x) 0
byte_alone s e c l x y p q =
    let a = area_at s.cells c in
    let g = window_at s c in
    ap (λ (k : ℕ). get_or (sheet_stencil_after s) k 0) (sym (cell_shown_law g x y p)) ∙ sym (picked_at 0 (a.height * a.width) (cell_shown g) (sheet_stencil_after s) (y * a.width + x) (cell_lt a.width a.height x y p q))
    ∙ ap (λ (ys : List ℕ). get_or ys (y * a.width + x) 0) (cell_stencil s e c l)

pub sheet_monotony : (s t : Sheet) → sheet_accepted s ≡ true → sheet_accepted t ≡ true → (c d : ℕ) → c < cells_of s → d < cells_of t → Stricter (alone s c) (alone t d) → (x y : ℕ) → x < (area_at s.cells c).width → y < (area_at s.cells c).height → is_error (byte_of t d x y) ≡ true → is_error (byte_of s c x y) ≡ true
unfolding alone
sheet_monotony s t e f c d l m r x y p q h =
    let w : (area_at s.cells c).width ≡ (area_at t.cells d).width = r.width in
    let v : (area_at s.cells c).height ≡ (area_at t.cells d).height = r.height in
    let b = byte_alone t f d m x y (subst (λ (n : ℕ). x < n) w p) (subst (λ (n : ℕ). y < n) v q) in
    let k = sym (ap is_error b) ∙ h in
    ap is_error (byte_alone s e c l x y p q)
    ∙ monotony (alone s c) (alone t d) r (cell_accepted s e c l) (cell_accepted t f d m) (y * (area_at s.cells c).width + x) (subst (λ (n : ℕ). is_error (get_or (stencil_after (alone t d)) (y * n + x) 0) ≡ true) (sym w) k)

-- the same sheet with other samples xs, which differ in cell d alone, another stencil and another room
module _ (s : Sheet) (xs : List Float) (st : List ℕ) (room : List Float) (e : sheet_accepted s ≡ true) (f : sheet_accepted (with s xs st room) ≡ true)
    (c d : ℕ) (l : c < cells_of s) (m : d < cells_of s) (n : c ≡ d → ⊥)
    (same : (j : ℕ) → covers (area_at s.cells d) (j / s.channels % s.width) (j / s.channels / s.width) ≡ false → get_or xs j nan ≡ get_or s.samples j nan) where
  r : Ready s
  r = ready s (number_zero s e)

  -- no sample of cell c lies in cell d
  away : (k : ℕ) → k < (area_at s.cells c).height * (area_at s.cells c).width → covers (area_at s.cells d) (cell_shown (window_at s c) k % s.width) (cell_shown (window_at s c) k / s.width) ≡ false
  away k b = go _ refl
    where
      go : (t : _) → covers (area_at s.cells d) (cell_shown (window_at s c) k % s.width) (cell_shown (window_at s c) k / s.width) ≡ t → t ≡ false
      go true q = absurd (true≢false (sym (both_covered (area_at s.cells c) (area_at s.cells d) _ _ (shown_covered s.width s.height s.channels (area_at s.cells c) (r.laid.inside c l) k b) q) ∙ (all_pass s e).apart c d l m n))
      go false q = refl

  cut : cut_samples (window_at s c) xs ≡ cut_samples (window_at s c) s.samples
  unfolding sample_shown
  cut =
      let a = area_at s.cells c in
      picked_same nan (a.height * a.width * s.channels) (sample_shown (window_at s c)) xs s.samples
      (λ j b.
      let p = cell_inside s.channels (a.height * a.width) j (omega (arith, r.laid.three)) b in
      let t = cell_shown (window_at s c) (j / s.channels) in
      let q : (t * s.channels + j % s.channels) / s.channels ≡ t = digits_div t p.0 in
      same (t * s.channels + j % s.channels) (subst (λ (u : ℕ). covers (area_at s.cells d) (u % s.width) (u / s.width) ≡ false) (sym q) (away (j / s.channels) p.1)))

  pub cells_independent : (cut_cells (window_at s c) (sheet_stencil_after (with s xs st room)) ≡ cut_cells (window_at s c) (sheet_stencil_after s)) × (cut_samples (window_at s c) (sheet_samples_after (with s xs st room)) ≡ cut_samples (window_at s c) (sheet_samples_after s))
  cells_independent =
      let t = with s xs st room in
      let p = accepted_leaves (alone t c) (cell_accepted t f c l) in
      let q = accepted_leaves (alone s c) (cell_accepted s e c l) in
      let v = alone_with s xs st room c cut in
      (cell_stencil t f c l ∙ p.0 ∙ v.stencil ∙ sym (cell_stencil s e c l ∙ q.0), cell_samples t f c l ∙ p.1 ∙ v.samples ∙ sym (cell_samples s e c l ∙ q.1))
