-- A cell as it is taken from a sheet and handed to the checks and to the engine: its window, its settings and its runs are those of the cell alone. Assumes nothing.
--     cell_there       a cell's numbers and settings are there, and its area lies in the sheet
--     runs_held        its runs end in their lists
--     sampled_as, stencilled_as, cleared_as   what is known of the cell alone, of what is handed over
--     room_enough      a room for the sheet's rows is one for the cell's
--     judged           what its checks answer is what those of the cell alone do
--     leaves, writes, tallied   what the engine leaves of it is what the pass leaves of the cell alone
use mathlib.Core.Path.{◌≡◌, sym, ◌∙◌, ap, subst}
use mathlib.Core.List.{List, []}
use Prim.Native.Nat.{ℕ, ◌+◌, ◌*◌, ◌<◌, ◌≤◌}
use native.Mathlib.Omega.{arith}
use lib.ListN.{get_or, length}
use lib.Ieee.{Float, nan}
use Rattle.ground.proofs.Laws.Picked.{pasted_as}
use Rattle.inputs.specs.declared.sizes.Window.{Window}
use Rattle.inputs.specs.declared.stencil.Counts.{Counts}
use Rattle.inputs.specs.Stencil.{counts_of}
use Rattle.inputs.specs.Inner.{Sampled, Stencilled}
use Rattle.inputs.specs.Window.{cell_shown, sample_shown, cut_cells, cut_samples, CellsPasted, SamplesPasted}
use Rattle.inputs.specs.Checks.{Input, input, content_refusal, place_of}
use Rattle.correction.specs.declared.cells.Cell.{Cell}
use Rattle.correction.specs.declared.pass.Corrected.{Corrected}
use Rattle.correction.specs.Inner.{Cleared, cut_out}
use Rattle.correction.specs.Pass.{pass_stencil, pass_samples, pass_tests}
use Rattle.correction.specs.Sheet.{Sheet, cells_of, area_at, window_at, taken, alone}
use Rattle.correction.specs.Cells.{AreaInside, Laid, cell_at, tally_of}
use Rattle.correction.proofs.sheet.Corrected.{SameLeft, pass_free}

-- what is counted of a cell
abbrev pub tally : Counts → ℕ → Corrected
tally n t = record { counts = n; tests = t }

pub cell_there : (s : Sheet) (c : ℕ) → Laid s → c < cells_of s → ((10 * c + 10 ≤ length s.cells) × (4 * c + 4 ≤ length s.settings)) × (AreaInside s.width s.height (area_at s.cells c) × (s.width ≤ 4096) × (s.height ≤ 4096))
cell_there s c t l = ((omega (arith, t.numbers), omega (arith, t.fours)), (t.inside c l, t.wide, t.high))

-- a cell's runs end in lists of so many colours, coordinates and ends
pub record Held (k : Cell) (n m o : ℕ) : Type 0 where
  pub colours : k.colours.from + k.colours.count ≤ n
  pub coords : k.coords.from + k.coords.count ≤ m
  pub ends : k.ends.from + k.ends.count ≤ o

module _ (s : Sheet) (c : ℕ) (k : Cell) (e : k ≡ cell_at s.width s.channels s.cells s.settings c) where
  pub runs_held : Laid s → c < cells_of s → Held k (length s.colours) (length s.coords) (length s.ends)
  runs_held t l = subst (λ (k : Cell). Held k (length s.colours) (length s.coords) (length s.ends)) (sym e) (record { colours = t.colours c l; coords = t.coords c l; ends = t.ends c l })

  pub windowed : k.window ≡ window_at s c
  windowed = ap (λ (k : Cell). k.window) e

  -- a room for the sheet's rows has room for the cell's
  pub room_enough : Laid s → c < cells_of s → {m : ℕ} → 2 * s.width ≤ m → 2 * k.window.width ≤ m
  room_enough t l {m} r = subst (λ (g : Window). 2 * g.width ≤ m) (sym windowed) (omega (arith, r, (t.inside c l).wide))

  -- ---- the checks

  abbrev handed : Input
  handed =
      input k.window.width k.window.height k.window.channels (cut_samples k.window s.samples) [] [] (get_or s.modes c 0) k.settings
      (taken k.colours s.colours) (taken k.coords s.coords) (taken k.ends s.ends)

  judged_alone : content_refusal handed ≡ content_refusal (alone s c)
  unfolding content_refusal alone
  judged_alone = rw e

  placed_alone : (n : ℕ) → place_of handed n ≡ place_of (alone s c) n
  unfolding place_of alone
  placed_alone n = rw e

  pub judged : {z o : ℕ} → (z ≡ content_refusal handed) × (o ≡ place_of handed z) → (z ≡ content_refusal (alone s c)) × (o ≡ place_of (alone s c) z)
  judged {z} {o} a = (a.0 ∙ judged_alone, a.1 ∙ placed_alone z)

  -- ---- the engine

  pub sampled_as : Sampled (window_at s c) s.samples → Sampled k.window s.samples
  sampled_as = subst (λ (g : Window). Sampled g s.samples) (sym windowed)

  pub stencilled_as : Stencilled (window_at s c) s.stencil → Stencilled k.window s.stencil
  stencilled_as = subst (λ (g : Window). Stencilled g s.stencil) (sym windowed)

  pub cleared_as : Cleared (window_at s c) s.stencil → Cleared k.window s.stencil
  cleared_as = subst (λ (g : Window). Cleared g s.stencil) (sym windowed)

  abbrev given : Input
  given = cut_out k.window s.samples (get_or s.modes c 0) k.settings (taken k.colours s.colours) (taken k.coords s.coords) (taken k.ends s.ends)

  left : SameLeft given (alone s c)
  unfolding alone
  left = rw e (pass_free _ _ _ _ _ _ _ _ _ _ _ _ _)

  module _ {st : List ℕ} (p : CellsPasted k.window s.stencil st (pass_stencil given)) where
    pub leaves : CellsPasted (window_at s c) s.stencil st (pass_stencil (alone s c))
    leaves = subst (λ (g : Window). CellsPasted g s.stencil st (pass_stencil (alone s c))) windowed (pasted_as 0 (k.window.height * k.window.width) (cell_shown k.window) p left.stencil)

    pub tallied : (n : Counts) (t : ℕ) → n ≡ counts_of (cut_cells k.window st) → t ≡ pass_tests given → tally n t ≡ tally_of (alone s c)
    tallied n t a b =
        let q : n ≡ counts_of (pass_stencil (alone s c)) = a ∙ ap counts_of (p.inside ∙ left.stencil) in
        rw (q, b ∙ left.tests)

  pub writes : {xs : List Float} → SamplesPasted k.window s.samples xs (pass_samples given) → SamplesPasted (window_at s c) s.samples xs (pass_samples (alone s c))
  writes {xs} p =
      let g = k.window in
      subst (λ (g : Window). SamplesPasted g s.samples xs (pass_samples (alone s c))) windowed (pasted_as nan (g.height * g.width * g.channels) (sample_shown g) p left.samples)
