-- A stencil of which the cells of a window up to one have been given, as a loop leaves it that goes along a row and stores `f v x y` in the cell of column x and row y, v being its old byte; and as one leaves it that goes from row to row. Assumes nothing.
--     cell_cut       a cell of the window as it is cut out
--     Upto           the cells of a window before cell k are given by `made`, and all else is as it was
--     upto_long      the stencil is as long as it was
--     upto_at        what stands in a cell from k on is what stood there
--     upto_keeps     what `made` keeps of each byte is as it was in all cells
--     in_row_law         where the cells of row y lie
--     stretch_none   `Stretched f g st₀ y x st`, the cells of row y before column x have been given: before the first
--     stretch_held   the number of the next cell is one of the stencil's
--     stretch_next   after a store at that number
--     stretch_kept   after no store, where f changes nothing
--     stretch_run    the same of some columns
--     stretch_all    after the last column
--     rows_none      `Rowed f g st₀ y st`, the rows before y have been given: before the first
--     rows_next      after one more
--     rows_all       after the last
use mathlib.Core.Path.{◌≡◌, refl, sym, ◌∙◌, ap, subst}
use mathlib.Core.Bool.{cond}
use mathlib.Core.List.{List}
use mathlib.Core.Logic.{dite}
use Prim.Native.Nat.{ℕ, ◌+◌, ◌-◌, ◌*◌, ◌/◌, ◌%◌, ◌<◌, ◌≤◌}
use native.Mathlib.Nat.{le_refl, mul-le-mul_right, mod-lt, div-add-mod'}
use native.Mathlib.Decide.{dec_lt}
use native.Mathlib.Omega.{arith}
use lib.Arith.{digits_div, digits_mod}
use lib.Dec.{eqb}
use lib.ListN.{length, get_or, set, get_or-eq_default}
use borrow.Author.Tests.{eq-eqb, ne_eqb}
use Rattle.ground.specs.Lists.{tab}
use Rattle.ground.proofs.Laws.Fill.{Filled, filled_none, filled_more, filled_at_law, filled_run, filled_all, tab_at}
use Rattle.ground.proofs.Laws.Picked.{picked_length, picked_at, pasted_none, pasted_set, pasted_then, pasted_as}
use Rattle.inputs.specs.declared.sizes.Window.{Window}
use Rattle.inputs.specs.Window.{cell_in, cell_shown, cut_cells, CellsPasted}
use Rattle.inputs.specs.Inner.{Stencilled}
use Rattle.inputs.proofs.Laws.Places.{cell_lt, next_row}
use Rattle.inputs.proofs.Laws.Windows.{cell_shown_law, cells_apart}
use Rattle.correction.specs.Bitmap.{cell}

-- a cell of the window as it is cut out
pub cell_cut : (g : Window) (st : List ℕ) (x y : ℕ) → x < g.width → y < g.height → get_or (cut_cells g st) (cell g.width x y) 0 ≡ get_or st (cell_in g x y) 0
cell_cut g st x y p q =
    picked_at 0 (g.height * g.width) (cell_shown g) st (cell g.width x y) (cell_lt g.width g.height x y p q)
    ∙ ap (λ (k : ℕ). get_or st k 0) (cell_shown_law g x y p)

-- what stands in cell k of the window in the end, whose cells were st₀
abbrev pub swept : (ℕ → ℕ → ℕ → ℕ) → ℕ → List ℕ → ℕ → ℕ
swept f w st₀ k = f (get_or st₀ k 0) (k % w) (k / w)

pub record Upto (made : ℕ → ℕ) (g : Window) (st₀ : List ℕ) (k : ℕ) (st : List ℕ) : Type 0 where
  pub filled : Filled 0 made (cut_cells g st₀) k (cut_cells g st)
  pub rest : CellsPasted g st₀ st (cut_cells g st)

module _ (made : ℕ → ℕ) (g : Window) (st₀ : List ℕ) where
  none : Upto made g st₀ 0 st₀
  none = record { filled = filled_none 0 made (cut_cells g st₀); rest = pasted_none 0 (g.height * g.width) (cell_shown g) st₀ }

  module _ {k : ℕ} {st : List ℕ} (i : Upto made g st₀ k st) where
    pub upto_long : length st ≡ length st₀
    upto_long = i.rest.long

    run : (m : ℕ) → k ≤ m → ((j : ℕ) → k ≤ j → j < m → get_or (cut_cells g st₀) j 0 ≡ made j) → Upto made g st₀ m st
    run m l same = record { filled = filled_run 0 made (cut_cells g st₀) m i.filled l same; rest = i.rest }

    -- the index written another way
    at_index : (m : ℕ) → k ≡ m → Upto made g st₀ m st
    at_index m e = record { filled = filled_at_law 0 made (cut_cells g st₀) m i.filled e; rest = i.rest }

    pub upto_at : (x y : ℕ) → x < g.width → y < g.height → k ≤ cell g.width x y → get_or st (cell_in g x y) 0 ≡ get_or st₀ (cell_in g x y) 0
    upto_at x y p q l = sym (cell_cut g st x y p q) ∙ i.filled.rest (cell g.width x y) l ∙ cell_cut g st₀ x y p q

    pub upto_keeps : (q : ℕ → ℕ) → ((j : ℕ) → q (made j) ≡ q (get_or (cut_cells g st₀) j 0)) → (x y : ℕ) → x < g.width → y < g.height → q (get_or st (cell_in g x y) 0) ≡ q (get_or st₀ (cell_in g x y) 0)
    upto_keeps q h x y b d =
        let j : ℕ = cell g.width x y in
        let inside : q (get_or (cut_cells g st) j 0) ≡ q (get_or (cut_cells g st₀) j 0) =
        dite (dec_lt j k) (λ l. ap q (i.filled.done j l) ∙ h j) (λ n. ap q (i.filled.rest j (omega arith))) in
        sym (ap q (cell_cut g st x y b d)) ∙ inside ∙ ap q (cell_cut g st₀ x y b d)

    stored : Stencilled g st₀ → (x y v : ℕ) → x < g.width → y < g.height → k ≡ cell g.width x y → v ≡ made (cell g.width x y) → Upto made g st₀ (cell g.width x y + 1) (set st (cell_in g x y) v)
    stored e x y v b d h w =
        let n : ℕ = g.height * g.width in
        let j : ℕ = cell g.width x y in
        let lies : cell_shown g j ≡ cell_in g x y = cell_shown_law g x y b in
        let below : j < n = cell_lt g.width g.height x y b d in
        let held : cell_in g x y < length st = subst (λ (m : ℕ). cell_in g x y < m) (sym upto_long) (e.held x y b d) in
        let a = pasted_set 0 n (cell_shown g) (cells_apart g e.fits) st j v below (subst (λ (m : ℕ). m < length st) (sym lies) held) in
        let s : CellsPasted g st (set st (cell_in g x y) v) (set (cut_cells g st) j v) = subst (λ (m : ℕ). CellsPasted g st (set st m v) (set (cut_cells g st) j v)) lies a in
        let long : j < length (cut_cells g st) = subst (λ (m : ℕ). j < m) (sym (picked_length 0 n (cell_shown g) st)) below in
        record {
          filled = subst (Filled 0 made (cut_cells g st₀) (j + 1)) (sym s.inside) (filled_more 0 made (cut_cells g st₀) (filled_at_law 0 made (cut_cells g st₀) j i.filled h) long w);
          rest = pasted_as 0 n (cell_shown g) (pasted_then 0 n (cell_shown g) i.rest s) (sym s.inside);
        }

    all : g.height * g.width ≤ k → CellsPasted g st₀ st (tab (length (cut_cells g st₀)) made)
    all l = pasted_as 0 (g.height * g.width) (cell_shown g) i.rest (filled_all 0 made (cut_cells g st₀) i.filled (omega (arith, picked_length 0 (g.height * g.width) (cell_shown g) st₀)))

-- ---- a row

-- what is left in cell k of the window, whose cells were st₀, once row y has been given
abbrev pub rowed : (ℕ → ℕ → ℕ → ℕ) → ℕ → ℕ → List ℕ → ℕ → ℕ
rowed f w y st₀ k = cond (eqb (k / w) y) (swept f w st₀ k) (get_or st₀ k 0)

abbrev pub Stretched : (ℕ → ℕ → ℕ → ℕ) → Window → List ℕ → ℕ → ℕ → List ℕ → Type 0
Stretched f g st₀ y x st = Upto (rowed f g.width y (cut_cells g st₀)) g st₀ (cell g.width x y) st

pub in_row_law : (w y k : ℕ) → 1 ≤ w → k / w ≡ y → (y * w ≤ k) × (k < y * w + w)
in_row_law w y k o e =
    let d : y * w + k % w ≡ k = ap (λ (n : ℕ). n * w + k % w) (sym e) ∙ div-add-mod' k w in
    let m : k % w < w = mod-lt k o in
    (omega arith, omega arith)

module _ (f : ℕ → ℕ → ℕ → ℕ) (g : Window) (st₀ : List ℕ) (y : ℕ) (e : Stencilled g st₀) (b : y < g.height) where
  abbrev made : ℕ → ℕ
  made = rowed f g.width y (cut_cells g st₀)

  -- a cell of another row is as it was
  other : (k : ℕ) → (k / g.width ≡ y → ⊥) → get_or (cut_cells g st₀) k 0 ≡ made k
  other k n = rw (ne_eqb (k / g.width) y n)

  -- a cell of this one is what is stored there
  own : (x : ℕ) → x < g.width → made (cell g.width x y) ≡ f (get_or st₀ (cell_in g x y) 0) x y
  own x l =
      let q : (y * g.width + x) / g.width ≡ y = digits_div y l in
      let r : (y * g.width + x) % g.width ≡ x = digits_mod y l in
      rw (q, r, eq-eqb y y refl, cell_cut g st₀ x y l b)

  pub stretch_none : Stretched f g st₀ y 0 st₀
  stretch_none = run made g st₀ (none made g st₀) (cell g.width 0 y) (omega arith) (λ j l m. other j (λ q. let r = (in_row_law g.width y j e.fits.any q).0 in absurd (omega arith)))

  module _ {x : ℕ} {st : List ℕ} (i : Stretched f g st₀ y x st) where
    -- at the cell itself
    next_cell : {v : ℕ} → x < g.width → v ≡ f (get_or st (cell_in g x y) 0) x y → Stretched f g st₀ y (x + 1) (set st (cell_in g x y) v)
    next_cell {v} l h =
        let s : Upto made g st₀ (cell g.width x y + 1) (set st (cell_in g x y) v) =
        stored made g st₀ i e x y v l b refl (h ∙ ap (λ (o : ℕ). f o x y) (upto_at made g st₀ i x y l b (le_refl (cell g.width x y))) ∙ sym (own x l)) in
        at_index made g st₀ s (cell g.width (x + 1) y) (omega arith)

    module _ {k : ℕ} (l : x < g.width) (p : k ≡ cell_in g x y) where
      pub stretch_held : k < length st
      stretch_held = rw (p, upto_long made g st₀ i) (e.held x y l b)

      pub stretch_next : {v : ℕ} → v ≡ f (get_or st k 0) x y → Stretched f g st₀ y (x + 1) (set st k v)
      stretch_next {v} = subst (λ (n : ℕ). v ≡ f (get_or st n 0) x y → Stretched f g st₀ y (x + 1) (set st n v)) (sym p) (next_cell l)

    pub stretch_run : (m : ℕ) → x ≤ m → m ≤ g.width → ((u : ℕ) → x ≤ u → u < m → f (get_or st₀ (cell_in g u y) 0) u y ≡ get_or st₀ (cell_in g u y) 0) → Stretched f g st₀ y m st
    stretch_run m l n same =
        run made g st₀ i (cell g.width m y) (omega arith)
        (λ j p q.
        let u : ℕ = j - y * g.width in
        let s : cell g.width u y ≡ j = omega arith in
        let o : u < g.width = omega arith in
        subst (λ (k : ℕ). get_or (cut_cells g st₀) k 0 ≡ made k) s (cell_cut g st₀ u y o b ∙ sym (same u (omega arith) (omega arith)) ∙ sym (own u o)))

    pub stretch_kept : x < g.width → f (get_or st (cell_in g x y) 0) x y ≡ get_or st (cell_in g x y) 0 → Stretched f g st₀ y (x + 1) st
    stretch_kept l h =
        let s : get_or st (cell_in g x y) 0 ≡ get_or st₀ (cell_in g x y) 0 = upto_at made g st₀ i x y l b (le_refl (cell g.width x y)) in
        let t : f (get_or st₀ (cell_in g x y) 0) x y ≡ get_or st₀ (cell_in g x y) 0 = rw s at h in
        stretch_run (x + 1) (omega arith) (omega arith) (λ u p q. let r : x ≡ u = omega arith in subst (λ (n : ℕ). f (get_or st₀ (cell_in g n y) 0) n y ≡ get_or st₀ (cell_in g n y) 0) r t)

    pub stretch_all : g.width ≤ x → CellsPasted g st₀ st (tab (length (cut_cells g st₀)) (rowed f g.width y (cut_cells g st₀)))
    stretch_all l =
        let m : g.height * g.width ≤ cell g.width x y + g.height * g.width = omega arith in
        all made g st₀
        (run made g st₀ i (cell g.width x y + g.height * g.width) (omega arith)
        (λ j p q. other j (λ z. let r = (in_row_law g.width y j e.fits.any z).1 in absurd (omega arith))))
        m

-- ---- all rows

abbrev pub Rowed : (ℕ → ℕ → ℕ → ℕ) → Window → List ℕ → ℕ → List ℕ → Type 0
Rowed f g st₀ y st = Upto (swept f g.width (cut_cells g st₀)) g st₀ (y * g.width) st

module _ (f : ℕ → ℕ → ℕ → ℕ) (g : Window) (st₀ : List ℕ) where
  abbrev whole : ℕ → ℕ
  whole = swept f g.width (cut_cells g st₀)

  pub rows_none : Rowed f g st₀ 0 st₀
  rows_none = at_index whole g st₀ (none whole g st₀) (0 * g.width) (omega arith)

  module _ {y : ℕ} {st : List ℕ} (i : Rowed f g st₀ y st) where
    pub rows_next : {st' : List ℕ} → Stencilled g st₀ → y < g.height → CellsPasted g st st' (tab (length (cut_cells g st)) (rowed f g.width y (cut_cells g st))) → Rowed f g st₀ (y + 1) st'
    rows_next {st'} e b p =
        let w : ℕ = g.width in
        let n : ℕ = g.height * w in
        let long : length (cut_cells g st) ≡ n = picked_length 0 n (cell_shown g) st in
        let long' : length (cut_cells g st') ≡ n = picked_length 0 n (cell_shown g) st' in
        let long₀ : length (cut_cells g st₀) ≡ n = picked_length 0 n (cell_shown g) st₀ in
        let row : (y + 1) * w ≡ y * w + w = next_row w y in
        let within : (y + 1) * w ≤ n = mul-le-mul_right w (omega arith) in
        let at : (j : ℕ) → j < n → get_or (cut_cells g st') j 0 ≡ rowed f w y (cut_cells g st) j =
        λ j l. ap (λ (z : List ℕ). get_or z j 0) p.inside ∙ tab_at (length (cut_cells g st)) (rowed f w y (cut_cells g st)) j 0 (omega arith) in
        let off : (j : ℕ) → (j / w ≡ y → ⊥) → rowed f w y (cut_cells g st) j ≡ get_or (cut_cells g st) j 0 = λ j n. rw (ne_eqb (j / w) y n) in
        record {
          filled = record {
            len = long' ∙ sym long₀;
            done =
                λ j l.
                at j (omega arith)
                ∙ dite (dec_lt j (y * w))
                (λ o. off j (λ q. let r = (in_row_law w y j e.fits.any q).0 in absurd (omega arith)) ∙ i.filled.done j o)
                (λ o.
                let k : (y * w + (j - y * w)) / w ≡ y = digits_div y (omega arith) in
                let q : j / w ≡ y = ap (λ (z : ℕ). z / w) (omega arith) ∙ k in
                let r : get_or (cut_cells g st) j 0 ≡ get_or (cut_cells g st₀) j 0 = i.filled.rest j (omega arith) in
                rw (eq-eqb (j / w) y q, r));
            rest =
                λ j l.
                dite (dec_lt j n)
                (λ o. at j o ∙ off j (λ q. let r = (in_row_law w y j e.fits.any q).1 in absurd (omega arith)) ∙ i.filled.rest j (omega arith))
                (λ o. get_or-eq_default (cut_cells g st') 0 (omega arith) ∙ sym (get_or-eq_default (cut_cells g st₀) 0 (omega arith)));
          };
          rest = pasted_as 0 n (cell_shown g) (pasted_then 0 n (cell_shown g) i.rest p) (sym p.inside);
        }

    pub rows_all : g.height ≤ y → CellsPasted g st₀ st (tab (length (cut_cells g st₀)) (swept f g.width (cut_cells g st₀)))
    rows_all l = all whole g st₀ i (mul-le-mul_right g.width l)
