-- A row of cells in which errors are found: what has been stored, what the scan knows and how many tests were made. Assumes nothing.
--     Found          up to column x
--     found_none     before the first
--     found_next     after a texel that is looked at
--     found_run      after some that are settled, which are passed over
--     found_ordered  the orders are as they were, so they are those of the texels
--     found_scan     and the scan knows those of the stencil as it is
--     found_few      the tests are few
--     found_kept     and the other way round
--     found_all, found_made   after the last column
--     FoundRows      the rows before one
--     rows_begin     before the first
--     rows_then      after one more
--     rows_ordered, rows_stencilled, rows_few   what is known of them
--     rows_found, rows_made   after the last
use mathlib.Core.Path.{◌≡◌, refl, sym, ◌∙◌, ap}
use mathlib.Core.Bool.{Bool, true, false, cond, ◌&&◌}
use mathlib.Core.List.{List}
use Prim.Native.Nat.{ℕ, zero, suc, ◌+◌, ◌-◌, ◌*◌, ◌/◌, ◌%◌, ◌<◌, ◌≤◌}
use native.Mathlib.Nat.{le_refl, le_trans, le_antisymm, add-zero, add-suc, zero-mul, mul-le-mul}
use native.Mathlib.Omega.{arith}
use lib.Arith.{digits_div, digits_mod}
use lib.Dec.{eqb, leb}
use lib.ListN.{length, get_or, set}
use lib.Ieee.{Float}
use Rattle.ground.specs.Lists.{total}
use Rattle.ground.proofs.Laws.Picked.{picked_length}
use Rattle.ground.proofs.Laws.Spent.{total_none, total_more, total_same, total_small}
use Rattle.ranges.specs.declared.config.Settings.{Settings}
use Rattle.detectors.specs.Verdict.{verdict}
use Rattle.detectors.proofs.Laws.Verdict.{verdict_says, verdict_makes}
use Rattle.inputs.specs.declared.sizes.Window.{Window}
use Rattle.inputs.specs.Window.{cell_in, cell_shown, cut_cells, cut_samples, CellsPasted}
use Rattle.inputs.specs.Inner.{Stencilled}
use Rattle.inputs.specs.Stencil.{is_protected, set_error}
use Rattle.inputs.proofs.Laws.Places.{next_row}
use Rattle.inputs.proofs.Laws.Stencil.{error_leaves}
use Rattle.inputs.proofs.Laws.Windows.{still_stencilled}
use Rattle.correction.specs.declared.errors.Scan.{Scan}
use Rattle.correction.specs.Bitmap.{cell, texel}
use Rattle.correction.specs.Errors.{has_artifact}
use Rattle.correction.specs.Inner.{marked, found, made_for, made_in, order_in, Ordered, Settled, next_in, column_in, Scanned, row_found, row_made}
use Rattle.correction.proofs.Laws.Tests.{tests_made_le}
use Rattle.correction.proofs.bitmap.Stretch.{cell_cut, swept, Stretched, Rowed, rowed, upto_long, upto_at, upto_keeps, stretch_none, stretch_next, stretch_run, stretch_all, rows_none, rows_next, rows_all}
use Rattle.correction.proofs.errors.Nearby.{next_inside}
use Rattle.correction.proofs.errors.Passed.{passed_kept, passed_free}

-- ---- a texel

module _ (xs : List Float) (w h ch : ℕ) (s : Settings) where
  few : (v x y : ℕ) → made_for xs w h ch s v x y ≤ 84
  unfolding made_for
  few v x y = tests_made_le (texel xs w ch) w h s (is_protected v) x y

  -- an error leaves the order as it is
  order_kept : (v x y : ℕ) → marked xs w h ch s v x y / 8 ≡ v / 8
  unfolding marked
  order_kept v x y = by_test (has_artifact (texel xs w ch) w h s (is_protected v) x y)
    where
      by_test : (t : Bool) → cond t (set_error v) v / 8 ≡ v / 8
      by_test true = omega (arith, error_leaves v)
      by_test false = refl

  -- what the verdict d of a texel says: what is marked, and the tests
  module _ (v x y : ℕ) {d : ℕ} (e : d ≡ verdict (has_artifact (texel xs w ch) w h s (is_protected v) x y) (made_for xs w h ch s v x y)) where
    stored : {r : ℕ} → r ≡ cond (leb 128 d) (set_error v) v → r ≡ marked xs w h ch s v x y
    unfolding marked
    stored q = rw (e, verdict_says (has_artifact (texel xs w ch) w h s (is_protected v) x y) (made_for xs w h ch s v x y) (omega (arith, few v x y))) at q

    tested : d % 128 ≡ made_for xs w h ch s v x y
    tested = rw e (verdict_makes (has_artifact (texel xs w ch) w h s (is_protected v) x y) (made_for xs w h ch s v x y) (omega (arith, few v x y)))

-- ---- the same orders

module _ (g : Window) (st st' : List ℕ) (same : (u v : ℕ) → u < g.width → v < g.height → order_in g st u v ≡ order_in g st' u v) (y : ℕ) (b : y < g.height) where
  column_same : (x : ℕ) → x < g.width → column_in g st x y ≡ column_in g st' x y
  column_same x l =
      let low = same x (y - 1) l (omega arith) in
      let own = same x y l b in
      let high = same x (next_in y g.height) l (next_inside y g.height b) in
      λ i. cond (eqb (low i) (own i) && eqb (high i) (own i)) (own i) 0

  scan_same : {at : Scan} → Scanned g st y at → Scanned g st' y at
  scan_same {at} c = record { few = c.few; left = λ l. c.left l ∙ column_same (at.x - 1) (omega arith); here = λ l. c.here l ∙ column_same at.x l }

-- ---- sums

-- a sum up to n and from there on
split : (f : ℕ → ℕ) (n d : ℕ) → total (n + d) f ≡ total n f + total d (λ k. f (n + k))
unfolding total
split f n zero = rw (add-zero n, add-zero (total n f))
split f n (suc d) = rw add-suc (omega (arith, split f n d))

-- terms that are 0
none : (d : ℕ) (h : ℕ → ℕ) → ((k : ℕ) → k < d → h k ≡ 0) → total d h ≡ 0
unfolding total
none zero h q = refl
none (suc d) h q = rw (none d h (λ k o. q k (omega arith)), q d (le_refl (suc d)))

still : (f : ℕ → ℕ) (n m : ℕ) → n ≤ m → ((k : ℕ) → n ≤ k → k < m → f k ≡ 0) → total m f ≡ total n f
still f n m l z =
    let r : total (m - n) (λ k. f (n + k)) ≡ 0 = none (m - n) (λ k. f (n + k)) (λ k o. z (n + k) (omega arith) (omega arith)) in
    let e : n + (m - n) ≡ m = omega arith in
    ap (λ (k : ℕ). total k f) (sym e) ∙ split f n (m - n) ∙ omega (arith, r)

-- ---- a row

-- what is stored in the row, and the tests that a texel of it takes
abbrev pub storing : Window → List Float → Settings → ℕ → ℕ → ℕ → ℕ
storing g xs s = marked (cut_samples g xs) g.width g.height g.channels s

abbrev pub making : Window → List Float → Settings → List ℕ → ℕ → ℕ → ℕ
making g xs s st₀ y x = made_for (cut_samples g xs) g.width g.height g.channels s (get_or (cut_cells g st₀) (cell g.width x y) 0) x y

pub record Found (g : Window) (xs : List Float) (s : Settings) (st₀ : List ℕ) (y x : ℕ) (st : List ℕ) (tests : ℕ) : Type 0 where
  pub cells : Stretched (storing g xs s) g st₀ y x st
  pub made : tests ≡ total x (making g xs s st₀ y)

module _ (g : Window) (xs : List Float) (s : Settings) (st₀ : List ℕ) (y : ℕ) (e : Stencilled g st₀) (d : Ordered g xs st₀) (b : y < g.height) where
  pub found_none : Found g xs s st₀ y 0 st₀ 0
  found_none = record { cells = stretch_none (storing g xs s) g st₀ y e b; made = sym (total_none (making g xs s st₀ y)) }

  module _ {x : ℕ} {st : List ℕ} {tests : ℕ} (i : Found g xs s st₀ y x st tests) where
    same : (u v : ℕ) → u < g.width → v < g.height → order_in g st u v ≡ order_in g st₀ u v
    same u v p q =
        upto_keeps (rowed (storing g xs s) g.width y (cut_cells g st₀)) g st₀ i.cells (λ n. n / 8)
        (λ j. either (eqb (j / g.width) y) (get_or (cut_cells g st₀) j 0) (j % g.width) (j / g.width)) u v p q
      where
        either : (t : Bool) (v u r : ℕ) → cond t (storing g xs s v u r) v / 8 ≡ v / 8
        either true v u r = order_kept (cut_samples g xs) g.width g.height g.channels s v u r
        either false v u r = refl

    pub found_ordered : Ordered g xs st
    found_ordered u v p q = same u v p q ∙ d u v p q

    pub found_scan : {at : Scan} → Scanned g st₀ y at → Scanned g st y at
    found_scan = scan_same g st₀ st (λ u v p q. sym (same u v p q)) y b

    pub found_kept : {at : Scan} → Scanned g st y at → Scanned g st₀ y at
    found_kept = scan_same g st st₀ same y b

    pub found_few : x ≤ g.width → tests ≤ 344064
    found_few l =
        omega (arith, e.fits.wide, e.fits.broad, i.made, total_small 84 x (making g xs s st₀ y) (λ k. few (cut_samples g xs) g.width g.height g.channels s _ k y))

    pub found_next : (k : ℕ) {v r : ℕ} → x < g.width → k ≡ cell_in g x y
        → v ≡ verdict (has_artifact (texel (cut_samples g xs) g.width g.channels) g.width g.height s (is_protected (get_or st k 0)) x y) (made_for (cut_samples g xs) g.width g.height g.channels s (get_or st k 0) x y)
        → r ≡ cond (leb 128 v) (set_error (get_or st k 0)) (get_or st k 0) → Found g xs s st₀ y (x + 1) (set st k r) (tests + v % 128)
    found_next k {v} {r} l p q o =
        let byte : get_or st (cell_in g x y) 0 ≡ get_or (cut_cells g st₀) (cell g.width x y) 0 =
        upto_at (rowed (storing g xs s) g.width y (cut_cells g st₀)) g st₀ i.cells x y l b (le_refl (cell g.width x y)) ∙ sym (cell_cut g st₀ x y l b) in
        record {
          cells =
              stretch_next (storing g xs s) g st₀ y e b i.cells l p (stored (cut_samples g xs) g.width g.height g.channels s (get_or st k 0) x y q o);
          made =
              total_more (making g xs s st₀ y) x tests (v % 128) i.made
              (tested (cut_samples g xs) g.width g.height g.channels s (get_or st k 0) x y q
              ∙ ap (λ (n : ℕ). made_for (cut_samples g xs) g.width g.height g.channels s n x y) (ap (λ (n : ℕ). get_or st n 0) p ∙ byte));
        }

    pub found_run : (m : ℕ) → x ≤ m → m ≤ g.width → ((u : ℕ) → x ≤ u → u < m → Settled g st u y) → Found g xs s st₀ y m st tests
    found_run m l n c =
        record {
          cells = stretch_run (storing g xs s) g st₀ y e b i.cells m l n (λ u p q. passed_kept g xs st found_ordered u y (omega arith) b (c u p q) s _);
          made = i.made ∙ sym (still (making g xs s st₀ y) x m l (λ u p q. passed_free g xs st found_ordered u y (omega arith) b (c u p q) s _));
        }

    pub found_all : g.width ≤ x → CellsPasted g st₀ st (row_found (cut_samples g xs) g.width g.height g.channels s y (cut_cells g st₀))
    unfolding row_found
    found_all l = stretch_all (storing g xs s) g st₀ y e b i.cells l

    pub found_made : x ≡ g.width → tests ≡ row_made (cut_samples g xs) g.width g.height g.channels s y (cut_cells g st₀)
    unfolding row_made
    found_made l = i.made ∙ ap (λ (n : ℕ). total n (making g xs s st₀ y)) l

-- ---- all rows

abbrev pub making_all : Window → List Float → Settings → List ℕ → ℕ → ℕ
making_all g xs s st₀ = swept (made_for (cut_samples g xs) g.width g.height g.channels s) g.width (cut_cells g st₀)

pub record FoundRows (g : Window) (xs : List Float) (s : Settings) (st₀ : List ℕ) (y : ℕ) (st : List ℕ) (tests : ℕ) : Type 0 where
  pub cells : Rowed (storing g xs s) g st₀ y st
  pub made : tests ≡ total (y * g.width) (making_all g xs s st₀)
  pub high : y ≤ g.height

module _ (g : Window) (xs : List Float) (s : Settings) (st₀ : List ℕ) (e : Stencilled g st₀) (d : Ordered g xs st₀) where
  many : length (cut_cells g st₀) ≡ g.height * g.width
  many = picked_length 0 (g.height * g.width) (cell_shown g) st₀

  pub rows_begin : FoundRows g xs s st₀ 0 st₀ 0
  rows_begin = record { cells = rows_none (storing g xs s) g st₀; made = sym (ap (λ (n : ℕ). total n (making_all g xs s st₀)) (zero-mul g.width) ∙ total_none (making_all g xs s st₀)); high = omega arith }

  module _ {y : ℕ} {st : List ℕ} {tests : ℕ} (i : FoundRows g xs s st₀ y st tests) where
    pub rows_ordered : Ordered g xs st
    rows_ordered u v p q =
        upto_keeps (swept (storing g xs s) g.width (cut_cells g st₀)) g st₀ i.cells (λ n. n / 8)
        (λ j. order_kept (cut_samples g xs) g.width g.height g.channels s (get_or (cut_cells g st₀) j 0) (j % g.width) (j / g.width)) u v p q
        ∙ d u v p q

    pub rows_stencilled : Stencilled g st
    rows_stencilled = still_stencilled g e st (upto_long (swept (storing g xs s) g.width (cut_cells g st₀)) g st₀ i.cells)

    -- the tests of the row are those of its cells, which are as they were
    row_made_law : {r : ℕ} → y < g.height → r ≡ row_made (cut_samples g xs) g.width g.height g.channels s y (cut_cells g st) → r ≡ total g.width (λ x. making_all g xs s st₀ (y * g.width + x))
    unfolding row_made
    row_made_law b q =
        q
        ∙ total_same g.width (making g xs s st y) (λ x. making_all g xs s st₀ (y * g.width + x))
        (λ x l.
        let c : (y * g.width + x) % g.width ≡ x = digits_mod y l in
        let r : (y * g.width + x) / g.width ≡ y = digits_div y l in
        let o : get_or (cut_cells g st) (cell g.width x y) 0 ≡ get_or (cut_cells g st₀) (cell g.width x y) 0 = i.cells.filled.rest (cell g.width x y) (omega arith) in
        rw (c, r, o))

    pub rows_then : {st' : List ℕ} {r : ℕ} → y < g.height → CellsPasted g st st' (row_found (cut_samples g xs) g.width g.height g.channels s y (cut_cells g st)) → r ≡ row_made (cut_samples g xs) g.width g.height g.channels s y (cut_cells g st) → FoundRows g xs s st₀ (y + 1) st' (tests + r)
    unfolding row_found
    rows_then {st'} {r} b p q =
        record {
          cells = rows_next (storing g xs s) g st₀ i.cells e b p;
          made =
              ap (λ (n : ℕ). n + r) i.made ∙ ap (λ (n : ℕ). total (y * g.width) (making_all g xs s st₀) + n) (row_made_law b q)
              ∙ sym (ap (λ (n : ℕ). total n (making_all g xs s st₀)) (next_row g.width y) ∙ split (making_all g xs s st₀) (y * g.width) g.width);
          high = omega arith;
        }

    pub rows_few : tests ≤ 1409286144
    rows_few =
        let a : y * g.width ≤ 4096 * 4096 = mul-le-mul (le_trans i.high e.fits.high) (le_trans e.fits.wide e.fits.broad) in
        omega (arith, i.made, total_small 84 (y * g.width) (making_all g xs s st₀) (λ k. few (cut_samples g xs) g.width g.height g.channels s _ _ _))

    pub rows_found : g.height ≤ y → CellsPasted g st₀ st (found (cut_samples g xs) g.width g.height g.channels s (cut_cells g st₀))
    unfolding found
    rows_found l = rows_all (storing g xs s) g st₀ i.cells l

    pub rows_made : g.height ≤ y → tests ≡ made_in (cut_samples g xs) g.width g.height g.channels s (cut_cells g st₀)
    unfolding made_in
    rows_made l = i.made ∙ ap (λ (n : ℕ). total n (making_all g xs s st₀)) (ap (λ (n : ℕ). n * g.width) (le_antisymm i.high l) ∙ sym many)
