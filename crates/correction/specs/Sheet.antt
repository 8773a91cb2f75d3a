-- Whole sheets: cells of one large bitmap, each corrected in place as if it were a bitmap alone. What is refused, answered and left, for every sheet. Definitions only.
use Rattle.std.specs.Prelude.{◌≡◌, ℕ, ◌+◌, ◌-◌, ◌*◌, ◌/◌, ◌%◌, ◌<◌, Bool, false, cond, not, ◌&&◌, ◌||◌, List, get_or, length, take, drop, eqb, ltb, leb, Result, Ok, Err, Float}
use Rattle.std.specs.Float.{binary32, nan}
use Rattle.numbers.specs.Constants.{zero_of}
use Rattle.ground.specs.Lists.{tab, any, first, total}
use Rattle.ranges.specs.declared.config.Settings.{Settings}
use Rattle.inputs.specs.declared.sizes.Window.{Window}
use Rattle.inputs.specs.declared.stencil.Counts.{Counts}
use Rattle.inputs.specs.Stencil.{protected_count, error_count, corner_count}
use Rattle.inputs.specs.Window.{cut_cells, cut_samples}
use Rattle.inputs.specs.Checks.{Input, input, bad_channels, bad_size, bad_sample_count, bad_cell_count, bad_room, content_refusal, place_of}
use Rattle.correction.specs.declared.cells.Area.{Area}
use Rattle.correction.specs.declared.cells.Run.{Run}
use Rattle.inputs.specs.Refusal.{content_number, content_place, content_with}
use Rattle.correction.specs.declared.refusal.Refusal.{Refusal}
use Rattle.correction.specs.declared.refusal.Refusal.TheVariants as refuse
use Rattle.correction.specs.declared.pass.Corrected.{Corrected}
use Rattle.correction.specs.Bitmap.{cell}
use Rattle.correction.specs.Pass.{byte_at, pass_stencil, pass_samples, pass_tests}

-- All that comes in. A cell has ten numbers, a mode and four settings.
pub record Sheet : Type 0 where
  pub width : ℕ
  pub height : ℕ
  pub channels : ℕ
  pub samples : List Float
  pub stencil : List ℕ
  pub room : List Float
  pub cells : List ℕ
  pub modes : List ℕ
  pub settings : List Float
  pub colours : List ℕ
  pub coords : List Float
  pub ends : List ℕ

abbrev pub sheet : ℕ → ℕ → ℕ → List Float → List ℕ → List Float → List ℕ → List ℕ → List Float → List ℕ → List Float → List ℕ → Sheet
sheet w h ch xs st room cells modes settings colours coords ends =
    record { width = w; height = h; channels = ch; samples = xs; stencil = st; room = room; cells = cells; modes = modes; settings = settings; colours = colours; coords = coords; ends = ends }

-- a sheet with other samples, another stencil and another room
abbrev pub with : Sheet → List Float → List ℕ → List Float → Sheet
with s xs st room = sheet s.width s.height s.channels xs st room s.cells s.modes s.settings s.colours s.coords s.ends

-- ---- the cells

-- how many there are
abbrev pub cells_of : Sheet → ℕ
cells_of s = length s.modes

-- where cell c lies: its first four numbers
abbrev pub area_at : List ℕ → ℕ → Area
area_at cells c = record { x = get_or cells (10 * c) 0; y = get_or cells (10 * c + 1) 0; width = get_or cells (10 * c + 2) 0; height = get_or cells (10 * c + 3) 0 }

-- its runs of the colours, of the coordinates and of the ends: the other six, where each starts and how many it takes
abbrev pub run_at : List ℕ → ℕ → Run
run_at cells at = record { from = get_or cells at 0; count = get_or cells (at + 1) 0 }

abbrev pub colours_run : List ℕ → ℕ → Run
colours_run cells c = run_at cells (10 * c + 4)

abbrev pub coords_run : List ℕ → ℕ → Run
coords_run cells c = run_at cells (10 * c + 6)

abbrev pub ends_run : List ℕ → ℕ → Run
ends_run cells c = run_at cells (10 * c + 8)

-- what a run takes of its list
abbrev pub taken : {A : Type 0} → Run → List A → List A
taken r xs = take r.count (drop r.from xs)

-- its settings: the ratio and the three lengths
abbrev pub settings_at : List Float → ℕ → Settings
settings_at settings c =
    record { ratio = get_or settings (4 * c) nan; horizontal = get_or settings (4 * c + 1) nan; vertical = get_or settings (4 * c + 2) nan; diagonal = get_or settings (4 * c + 3) nan }

-- the window that an area of a sheet of width w is
abbrev pub window_of : ℕ → ℕ → Area → Window
window_of w ch a = record { width = a.width; height = a.height; channels = ch; origin = cell w a.x a.y; stride = w }

abbrev pub window_at : Sheet → ℕ → Window
window_at s c = window_of s.width s.channels (area_at s.cells c)

-- cell c, cut out, as a bitmap alone, with the room of the sheet
unfoldable pub alone : Sheet → ℕ → Input
alone s c =
    let g = window_at s c in
    input g.width g.height g.channels (cut_samples g s.samples) (cut_cells g s.stencil) s.room (get_or s.modes c 0) (settings_at s.settings c)
    (taken (colours_run s.cells c) s.colours) (taken (coords_run s.cells c) s.coords) (taken (ends_run s.cells c) s.ends)

-- ---- check 50: sheet lengths wrong, a side outside 1..4,096 or over 4,096 cells

unfoldable pub bad_sheet : ℕ → ℕ → ℕ → ℕ → ℕ → ℕ → ℕ → ℕ → Bool
bad_sheet w h ch samples stencil cells modes settings =
    bad_size w h || (bad_sample_count w h ch samples || (bad_cell_count w h stencil || (ltb 4096 modes || (not (eqb cells (10 * modes)) || not (eqb settings (4 * modes))))))

-- ---- check 51: a cell empty or not inside

unfoldable pub bad_area : ℕ → ℕ → Area → Bool
bad_area w h a = eqb a.width 0 || (eqb a.height 0 || (ltb w (a.x + a.width) || ltb h (a.y + a.height)))

-- the first such cell, and the number of cells where there is none
unfoldable pub first_outside : ℕ → ℕ → List ℕ → ℕ → ℕ
first_outside w h cells n = first n (λ c. bad_area w h (area_at cells c))

-- ---- check 52: two cells overlap

unfoldable pub overlap : Area → Area → Bool
overlap a b = ltb a.x (b.x + b.width) && (ltb b.x (a.x + a.width) && (ltb a.y (b.y + b.height) && ltb b.y (a.y + a.height)))

-- cell c overlaps an earlier one
unfoldable pub overlaps_earlier : List ℕ → ℕ → Bool
overlaps_earlier cells c = any c (λ d. overlap (area_at cells d) (area_at cells c))

-- the first such cell
unfoldable pub first_overlap : List ℕ → ℕ → ℕ
first_overlap cells n = first n (overlaps_earlier cells)

-- ---- check 53: an outline run not inside its list

unfoldable pub bad_run : Run → ℕ → Bool
bad_run r n = ltb n (r.from + r.count)

-- of cell c, where the lists have so many colours, coordinates and ends
unfoldable pub bad_runs : List ℕ → ℕ → ℕ → ℕ → ℕ → Bool
bad_runs cells colours coords ends c = bad_run (colours_run cells c) colours || (bad_run (coords_run cells c) coords || bad_run (ends_run cells c) ends)

-- the first such cell
unfoldable pub first_bad_run : List ℕ → ℕ → ℕ → ℕ → ℕ → ℕ
first_bad_run cells n colours coords ends = first n (bad_runs cells colours coords ends)

-- ---- checks 5 to 9 of each cell

-- the first cell that fails one
unfoldable pub first_bad : Sheet → ℕ
first_bad s = first (cells_of s) (λ c. not (eqb (content_refusal (alone s c)) 0))

-- ---- the first failure answers

-- The first check that fails: its number, its cell and its place; zeros where all pass.
pub record Failure : Type 0 where
  pub number : ℕ
  pub cell : ℕ
  pub place : ℕ

-- a failure of the whole, one of a cell, and one of a cell's own checks
abbrev pub of_sheet : ℕ → Failure
of_sheet n = record { number = n; cell = 0; place = 0 }

abbrev pub of_cell : ℕ → ℕ → Failure
of_cell n c = record { number = n; cell = c; place = 0 }

abbrev pub in_cell : Sheet → ℕ → Failure
in_cell s c = record { number = content_refusal (alone s c); cell = c; place = place_of (alone s c) (content_refusal (alone s c)) }

-- checks 5 to 9 of all cells: the first that fails one answers, with its own check's number and place
unfoldable pub content_failure : Sheet → Failure
content_failure s = let d = first_bad s in cond (ltb d (cells_of s)) (in_cell s d) (of_sheet 0)

-- check 1, 50, 60 by the sheet's width, 51, 52, 53, then each cell's own: the first that fails, and zeros where all pass
unfoldable pub failure : Sheet → Failure
failure s =
    let n = cells_of s in
    let a = first_outside s.width s.height s.cells n in
    let b = first_overlap s.cells n in
    let c = first_bad_run s.cells n (length s.colours) (length s.coords) (length s.ends) in
    cond (bad_channels s.channels) (of_sheet 1)
    (cond (bad_sheet s.width s.height s.channels (length s.samples) (length s.stencil) (length s.cells) n (length s.settings)) (of_sheet 50)
    (cond (bad_room s.width (length s.room)) (of_sheet 60)
    (cond (ltb a n) (of_cell 51 a)
    (cond (ltb b n) (of_cell 52 b)
    (cond (ltb c n) (of_cell 53 c)
    (content_failure s))))))

unfoldable pub sheet_accepted : Sheet → Bool
sheet_accepted s = eqb (failure s).number 0

-- what a refusal says
abbrev pub told : Refusal → Failure
told refuse.Channels = of_sheet 1
told refuse.Sheet = of_sheet 50
told refuse.Room = of_sheet 60
told (refuse.Outside c) = of_cell 51 c
told (refuse.Overlap c) = of_cell 52 c
told (refuse.Run c) = of_cell 53 c
told (refuse.Cell c r) = record { number = content_number r; cell = c; place = content_place r }

-- the refusal that says a failure
abbrev pub saying : Failure → Refusal
saying f =
    cond (eqb f.number 1) refuse.Channels
    (cond (eqb f.number 50) refuse.Sheet
    (cond (eqb f.number 60) refuse.Room
    (cond (eqb f.number 51) (refuse.Outside f.cell)
    (cond (eqb f.number 52) (refuse.Overlap f.cell)
    (cond (eqb f.number 53) (refuse.Run f.cell)
    (refuse.Cell f.cell (content_with f.number f.place)))))))

-- what a result says: zeros where all is well
abbrev pub failure_in : {A : Type 0} → Result A Refusal → Failure
failure_in (Ok a) = of_sheet 0
failure_in (Err r) = told r

-- ---- what an accepted sheet becomes

-- texel x, y of the sheet lies in the area
unfoldable pub covers : Area → ℕ → ℕ → Bool
covers a x y = leb a.x x && (ltb x (a.x + a.width) && (leb a.y y && ltb y (a.y + a.height)))

-- texel k of the sheet lies in no cell
abbrev pub Outside : Sheet → ℕ → Type 0
Outside s k = (c : ℕ) → c < cells_of s → covers (area_at s.cells c) (k % s.width) (k / s.width) ≡ false

-- the cell in which texel k of the sheet lies, and the number of cells where it lies in none
unfoldable pub holder : Sheet → ℕ → ℕ
holder s k = first (cells_of s) (λ c. covers (area_at s.cells c) (k % s.width) (k / s.width))

-- its number in cell c
unfoldable pub within : Sheet → ℕ → ℕ → ℕ
within s c k = let a = area_at s.cells c in cell a.width (k % s.width - a.x) (k / s.width - a.y)

-- the byte of texel k: that of the pass on its cell alone, and zero outside every cell
unfoldable pub sheet_byte : Sheet → ℕ → ℕ
sheet_byte s k = let c = holder s k in cond (ltb c (cells_of s)) (byte_at (alone s c) (within s c k)) 0

unfoldable pub sheet_stencil : Sheet → List ℕ
sheet_stencil s = tab (s.width * s.height) (sheet_byte s)

-- sample j, which is channel j % channels of texel j / channels: that of the pass on its cell alone, and as it was outside every cell
unfoldable pub sheet_sample : Sheet → ℕ → Float
sheet_sample s j =
    let c = holder s (j / s.channels) in
    cond (ltb c (cells_of s)) (get_or (pass_samples (alone s c)) (within s c (j / s.channels) * s.channels + j % s.channels) nan) (get_or s.samples j nan)

unfoldable pub sheet_samples : Sheet → List Float
sheet_samples s = tab (length s.samples) (sheet_sample s)

-- a sum over the cells, each as a bitmap alone
unfoldable pub over_cells : Sheet → (Input → ℕ) → ℕ
over_cells s f = total (cells_of s) (λ c. f (alone s c))

-- the counts and the range tests
unfoldable pub sheet_counts : Sheet → Counts
sheet_counts s =
    record { protected = over_cells s (λ i. protected_count (pass_stencil i)); error = over_cells s (λ i. error_count (pass_stencil i)); corner = over_cells s (λ i. corner_count (pass_stencil i)) }

unfoldable pub sheet_tests : Sheet → ℕ
sheet_tests s = over_cells s pass_tests

-- ---- what is answered, and what is left: a refusal writes nothing

abbrev pub Answer : Type 0
Answer = Result Corrected Refusal

unfoldable pub sheet_answer : Sheet → Answer
sheet_answer s = cond (sheet_accepted s) (Ok (record { counts = sheet_counts s; tests = sheet_tests s })) (Err (saying (failure s)))

unfoldable pub sheet_stencil_after : Sheet → List ℕ
sheet_stencil_after s = cond (sheet_accepted s) (sheet_stencil s) s.stencil

unfoldable pub sheet_samples_after : Sheet → List Float
sheet_samples_after s = cond (sheet_accepted s) (sheet_samples s) s.samples

-- zeros in the whole room
unfoldable pub sheet_room_after : Sheet → List Float
sheet_room_after s = cond (sheet_accepted s) (tab (length s.room) (λ k. zero_of binary32)) s.room

-- the number in an answer, 0 where it accepts
unfoldable pub number_in : Answer → ℕ
number_in r = (failure_in r).number
