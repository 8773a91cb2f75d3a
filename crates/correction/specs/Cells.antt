-- What the functions behind a sheet's checks ask of each other and leave for each other. No public function's promise rests on this page. Definitions only.
use Rattle.std.specs.Prelude.{◌≡◌, ℕ, ◌+◌, ◌*◌, ◌≤◌, ◌<◌, false, List, length, Float, Option, MatchOption}
use Rattle.inputs.specs.Inner.{Outlined}
use Rattle.inputs.specs.Stencil.{counts_of}
use Rattle.inputs.specs.Checks.{Input}
use Rattle.correction.specs.declared.cells.Area.{Area}
use Rattle.correction.specs.declared.cells.Run.{Run}
use Rattle.correction.specs.declared.cells.Cell.{Cell}
use Rattle.correction.specs.declared.pass.Corrected.{Corrected}
use Rattle.correction.specs.Inner.{together}
use Rattle.correction.specs.Pass.{pass_stencil, pass_tests}
use Rattle.correction.specs.Sheet.{Sheet, cells_of, area_at, colours_run, coords_run, ends_run, taken, settings_at, window_of, overlap, sheet_counts, sheet_tests}

-- cell c of a sheet of width w
abbrev pub cell_at : ℕ → ℕ → List ℕ → List Float → ℕ → Cell
cell_at w ch cells settings c = record { window = window_of w ch (area_at cells c); settings = settings_at settings c; colours = colours_run cells c; coords = coords_run cells c; ends = ends_run cells c }

-- an area that is not empty and lies inside a sheet of w columns and h rows
pub record AreaInside (w h : ℕ) (a : Area) : Type 0 where
  pub any : 1 ≤ a.width
  pub some : 1 ≤ a.height
  pub wide : a.x + a.width ≤ w
  pub high : a.y + a.height ≤ h

-- the first n cells do
abbrev pub AreasInside : ℕ → ℕ → List ℕ → ℕ → Type 0
AreasInside w h cells n = (c : ℕ) → c < n → AreaInside w h (area_at cells c)

-- what a search among n cells answers: its first, or that it has none
abbrev pub Found : ℕ → ℕ → Option ℕ → Type 0
Found first n r = MatchOption r (first ≡ n) (λ c. (c ≡ first) × (c < n))

-- a run that lies inside a list of n
abbrev pub RunInside : Run → ℕ → Type 0
RunInside r n = r.from + r.count ≤ n

-- what checks 1, 50, 51 and 53 let through, but for the stencil's length
pub record Laid (s : Sheet) : Type 0 where
  pub few : cells_of s ≤ 4096
  pub numbers : length s.cells ≡ 10 * cells_of s
  pub fours : length s.settings ≡ 4 * cells_of s
  pub any : 1 ≤ s.width
  pub wide : s.width ≤ 4096
  pub high : s.height ≤ 4096
  pub three : 3 ≤ s.channels
  pub four : s.channels ≤ 4
  pub samples : length s.samples ≡ s.height * s.width * s.channels
  pub inside : AreasInside s.width s.height s.cells (cells_of s)
  pub colours : (c : ℕ) → c < cells_of s → RunInside (colours_run s.cells c) (length s.colours)
  pub coords : (c : ℕ) → c < cells_of s → RunInside (coords_run s.cells c) (length s.coords)
  pub ends : (c : ℕ) → c < cells_of s → RunInside (ends_run s.cells c) (length s.ends)

-- the outlines of cell c, which checks 7 and 8 let through
abbrev pub CellOutlined : Sheet → ℕ → Type 0
CellOutlined s c = Outlined (taken (colours_run s.cells c) s.colours) (taken (coords_run s.cells c) s.coords) (taken (ends_run s.cells c) s.ends)

-- a sheet that all checks let through
pub record Ready (s : Sheet) : Type 0 where
  pub laid : Laid s
  pub long : length s.stencil ≡ s.height * s.width
  pub apart : (c d : ℕ) → c < d → d < cells_of s → overlap (area_at s.cells c) (area_at s.cells d) ≡ false
  pub outlined : (c : ℕ) → c < cells_of s → CellOutlined s c

-- the counts and the range tests of one cell alone, and of all
abbrev pub tally_of : Input → Corrected
tally_of i = record { counts = counts_of (pass_stencil i); tests = pass_tests i }

abbrev pub tallies : Sheet → Corrected
tallies s = record { counts = sheet_counts s; tests = sheet_tests s }

-- those of two parts
abbrev pub plus : Corrected → Corrected → Corrected
plus a b = record { counts = together a.counts b.counts; tests = a.tests + b.tests }
