-- When two sheets have the same cells in another order. Definitions only.
use Rattle.std.specs.Prelude.{◌≡◌, ℕ, ◌<◌, length, get_or}
use Rattle.correction.specs.Sheet.{Sheet, cells_of, area_at, colours_run, coords_run, ends_run, settings_at}

-- Cell c of the first is cell `to c` of the second, and cell c of the second is cell `from c` of the first; all else is the same.
pub record Reordered (s t : Sheet) (to from : ℕ → ℕ) : Type 0 where
  pub width : s.width ≡ t.width
  pub height : s.height ≡ t.height
  pub channels : s.channels ≡ t.channels
  pub samples : s.samples ≡ t.samples
  pub stencil : s.stencil ≡ t.stencil
  pub room : s.room ≡ t.room
  pub colours : s.colours ≡ t.colours
  pub coords : s.coords ≡ t.coords
  pub ends : s.ends ≡ t.ends
  pub modes : cells_of s ≡ cells_of t
  pub numbers : length s.cells ≡ length t.cells
  pub settings : length s.settings ≡ length t.settings
  pub there : (c : ℕ) → c < cells_of s → to c < cells_of s
  pub back : (c : ℕ) → c < cells_of s → from c < cells_of s
  pub there_back : (c : ℕ) → c < cells_of s → from (to c) ≡ c
  pub back_there : (c : ℕ) → c < cells_of s → to (from c) ≡ c
  pub areas : (c : ℕ) → c < cells_of s → area_at s.cells c ≡ area_at t.cells (to c)
  pub mode : (c : ℕ) → c < cells_of s → get_or s.modes c 0 ≡ get_or t.modes (to c) 0
  pub setting : (c : ℕ) → c < cells_of s → settings_at s.settings c ≡ settings_at t.settings (to c)
  pub colours_run_law : (c : ℕ) → c < cells_of s → colours_run s.cells c ≡ colours_run t.cells (to c)
  pub coords_run_law : (c : ℕ) → c < cells_of s → coords_run s.cells c ≡ coords_run t.cells (to c)
  pub ends_run_law : (c : ℕ) → c < cells_of s → ends_run s.cells c ≡ ends_run t.cells (to c)
