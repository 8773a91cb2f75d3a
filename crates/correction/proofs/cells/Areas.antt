-- What each of checks 50 to 53 says where it passes. Assumes nothing.
--     Measured, measured   check 50: the sides, the lengths and the number of cells
--     area_inside          check 51 of one cell: it is not empty and lies inside
--     inside_wider         so it does in a larger sheet
--     areas_inside         where no cell fails it
--     areas_wider          so they do in a larger sheet
--     apart                where no cell fails check 52: no two overlap
--     run_inside           check 53 of one run: it lies inside its list
--     RunsInside, runs_inside   where no cell fails it
use mathlib.Core.Path.{◌≡◌}
use mathlib.Core.Bool.{false, not}
use mathlib.Core.List.{List}
use Prim.Native.Nat.{ℕ, ◌+◌, ◌*◌, ◌<◌, ◌≤◌}
use native.Mathlib.Nat.{le_trans}
use native.Mathlib.Omega.{arith}
use lib.Dec.{eqb, ltb}
use borrow.Author.Tests.{ltb-false, eqb-true, eqb-false, not-false}
use Rattle.ground.proofs.Laws.Bools.{both_fail}
use Rattle.ground.proofs.Laws.Search.{none_below, first_past}
use Rattle.inputs.specs.Checks.{bad_size, bad_sample_count, bad_cell_count}
use Rattle.inputs.proofs.Laws.Checks.{size_bound, sample_count, cell_count_law}
use Rattle.correction.specs.declared.cells.Area.{Area}
use Rattle.correction.specs.declared.cells.Run.{Run}
use Rattle.correction.specs.Sheet.{area_at, colours_run, coords_run, ends_run, bad_sheet, bad_area, first_outside, overlap, overlaps_earlier, first_overlap, bad_run, bad_runs, first_bad_run}
use Rattle.correction.specs.Cells.{AreaInside, AreasInside, RunInside}

-- ---- check 50

-- a sheet with n samples, m stencil cells, k numbers of cells, so many modes and r settings
pub record Measured (w h ch n m k modes r : ℕ) : Type 0 where
  pub wide : (1 ≤ w) × (w ≤ 4096)
  pub high : (1 ≤ h) × (h ≤ 4096)
  pub samples : n ≡ w * h * ch
  pub stencil : m ≡ w * h
  pub few : modes ≤ 4096
  pub numbers : k ≡ 10 * modes
  pub fours : r ≡ 4 * modes

pub measured : (w h ch n m k modes r : ℕ) → bad_sheet w h ch n m k modes r ≡ false → Measured w h ch n m k modes r
unfolding bad_sheet
measured w h ch n m k modes r p =
    let a = both_fail (bad_size w h) _ p in
    let b = both_fail (bad_sample_count w h ch n) _ a.1 in
    let c = both_fail (bad_cell_count w h m) _ b.1 in
    let d = both_fail (ltb 4096 modes) _ c.1 in
    let e = both_fail (not (eqb k (10 * modes))) (not (eqb r (4 * modes))) d.1 in
    let z = size_bound w h a.0 in
    record {
      wide = z.0;
      high = z.1;
      samples = sample_count w h ch n b.0;
      stencil = cell_count_law w h m c.0;
      few = ltb-false 4096 modes d.0;
      numbers = eqb-true k (10 * modes) (not-false _ e.0);
      fours = eqb-true r (4 * modes) (not-false _ e.1);
    }

-- ---- check 51

pub area_inside : (w h : ℕ) (a : Area) → bad_area w h a ≡ false → AreaInside w h a
unfolding bad_area
area_inside w h a p =
    let q = both_fail (eqb a.width 0) _ p in
    let r = both_fail (eqb a.height 0) _ q.1 in
    let t = both_fail (ltb w (a.x + a.width)) (ltb h (a.y + a.height)) r.1 in
    record {
      any = omega (arith, eqb-false a.width 0 q.0);
      some = omega (arith, eqb-false a.height 0 r.0);
      wide = ltb-false w (a.x + a.width) t.0;
      high = ltb-false h (a.y + a.height) t.1;
    }

pub inside_wider : (w h w' h' : ℕ) (a : Area) → w ≤ w' → h ≤ h' → AreaInside w h a → AreaInside w' h' a
inside_wider w h w' h' a p q i = record { any = i.any; some = i.some; wide = le_trans i.wide p; high = le_trans i.high q }

pub areas_inside : (w h : ℕ) (cells : List ℕ) (n : ℕ) → ltb (first_outside w h cells n) n ≡ false → AreasInside w h cells n
unfolding first_outside
areas_inside w h cells n p c l = area_inside w h (area_at cells c) (first_past (λ c. bad_area w h (area_at cells c)) n (ltb-false _ n p) c l)

pub areas_wider : (w h w' h' : ℕ) (cells : List ℕ) (n : ℕ) → w ≤ w' → h ≤ h' → AreasInside w h cells n → AreasInside w' h' cells n
areas_wider w h w' h' cells n p q i c l = inside_wider w h w' h' (area_at cells c) p q (i c l)

-- ---- check 52

pub apart : (cells : List ℕ) (n : ℕ) → ltb (first_overlap cells n) n ≡ false → (c d : ℕ) → c < d → d < n → overlap (area_at cells c) (area_at cells d) ≡ false
unfolding first_overlap overlaps_earlier
apart cells n p c d l m = none_below (λ c. overlap (area_at cells c) (area_at cells d)) d (first_past (overlaps_earlier cells) n (ltb-false _ n p) d m) c l

-- ---- check 53

pub run_inside : (r : Run) (n : ℕ) → bad_run r n ≡ false → RunInside r n
unfolding bad_run
run_inside r n p = ltb-false n (r.from + r.count) p

-- the three runs of cell c, of lists of n, m and k
pub record RunsInside (cells : List ℕ) (n m k c : ℕ) : Type 0 where
  pub colours : RunInside (colours_run cells c) n
  pub coords : RunInside (coords_run cells c) m
  pub ends : RunInside (ends_run cells c) k

pub runs_inside : (cells : List ℕ) (n colours coords ends : ℕ) → ltb (first_bad_run cells n colours coords ends) n ≡ false → (c : ℕ) → c < n → RunsInside cells colours coords ends c
unfolding first_bad_run bad_runs
runs_inside cells n colours coords ends p c l =
    let q = both_fail (bad_run (colours_run cells c) colours) _ (first_past (bad_runs cells colours coords ends) n (ltb-false _ n p) c l) in
    let r = both_fail (bad_run (coords_run cells c) coords) (bad_run (ends_run cells c) ends) q.1 in
    record {
      colours = run_inside (colours_run cells c) colours q.0;
      coords = run_inside (coords_run cells c) coords r.0;
      ends = run_inside (ends_run cells c) ends r.1;
    }
