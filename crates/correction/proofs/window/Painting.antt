-- A row of a window's cells that is painted, cell by cell, and what it is as the definitions have it. Assumes nothing.
--     painted_none   before the first cell
--     painted_held   the number of the next cell is one of the stencil's
--     painted_byte   it holds what it had held
--     painted_more   after it
--     painted_all    after the last
--     painted_row    where `paint` makes `f v x y` of the byte v of column x, the row is given by f
use mathlib.Core.Path.{◌≡◌, refl, sym, ◌∙◌, ap, subst}
use mathlib.Core.List.{List}
use mathlib.Core.Logic.{dite}
use Prim.Native.Nat.{ℕ, ◌+◌, ◌*◌, ◌/◌, ◌%◌, ◌<◌, ◌≤◌}
use native.Mathlib.Nat.{mod-lt, ne_of_lt, le_antisymm}
use native.Mathlib.Decide.{ℕ_discrete}
use native.Mathlib.Omega.{arith}
use lib.Arith.{digits_div}
use lib.ListN.{length, get_or, set, length-set}
use lib.Seq.{get_or-set_same, get_or-set_other}
use borrow.Author.Count.{below_none, below_more}
use borrow.Author.Tests.{eq-eqb, ne_eqb}
use Rattle.ground.specs.Lists.{tab}
use Rattle.ground.proofs.Laws.Fill.{tab_length, tab_at}
use Rattle.ground.proofs.Laws.Picked.{picked_length, picked_at, is_picked}
use Rattle.inputs.specs.declared.sizes.Window.{Window}
use Rattle.inputs.specs.Window.{cell_in, cell_shown, cut_cells, CellsPasted}
use Rattle.inputs.specs.Inner.{Stencilled}
use Rattle.inputs.proofs.Laws.Places.{cell_lt}
use Rattle.inputs.proofs.Laws.Windows.{cell_shown_law, cells_apart}
use Rattle.correction.specs.Bitmap.{cell}
use Rattle.correction.specs.Inner.{RowPainted}
use Rattle.correction.proofs.bitmap.Stretch.{rowed}

module _ (made : ℕ → ℕ → ℕ → Type 0) (g : Window) (st₀ : List ℕ) (y : ℕ) where
  pub painted_none : RowPainted made g y 0 st₀ st₀
  painted_none = record { long = refl; done = below_none (λ x. made (cell_in g x y) (get_or st₀ (cell_in g x y) 0) (get_or st₀ (cell_in g x y) 0)); rest = λ k h. refl }

  module _ (e : Stencilled g st₀) (b : y < g.height) {x : ℕ} {st : List ℕ} (i : RowPainted made g y x st₀ st) (l : x < g.width) {k : ℕ} (p : k ≡ cell_in g x y) where
    pub painted_held : k < length st
    painted_held = rw (p, i.long) (e.held x y l b)

    pub painted_byte : get_or st k 0 ≡ get_or st₀ k 0
    painted_byte = i.rest k (λ u h q. let z : u ≡ x = omega (arith, p, q) in ne_of_lt h z)

    pub painted_more : {r : ℕ} → made k (get_or st k 0) r → RowPainted made g y (x + 1) st₀ (set st k r)
    painted_more {r} m =
        record {
          long = length-set st k r ∙ i.long;
          done =
              below_more (λ u. made (cell_in g u y) (get_or st₀ (cell_in g u y) 0) (get_or (set st k r) (cell_in g u y) 0)) x
              (λ u h. subst (made (cell_in g u y) (get_or st₀ (cell_in g u y) 0)) (sym (get_or-set_other st k (cell_in g u y) r 0 (λ q. let z : u ≡ x = omega (arith, p, q) in ne_of_lt h z))) (i.done u h))
              (subst (λ (n : ℕ). made n (get_or st₀ n 0) (get_or (set st k r) n 0)) p
              (subst (made k (get_or st₀ k 0)) (sym (get_or-set_same st k r 0 painted_held)) (subst (λ (v : ℕ). made k v r) painted_byte m)));
          rest = λ j h. get_or-set_other st k j r 0 (λ q. h x (omega arith) (q ∙ p)) ∙ i.rest j (λ u s. h u (omega arith));
        }

  pub painted_all : {x : ℕ} {st : List ℕ} → RowPainted made g y x st₀ st → x ≤ g.width → g.width ≤ x → RowPainted made g y g.width st₀ st
  painted_all {x} {st} i l m = subst (λ (n : ℕ). RowPainted made g y n st₀ st) (le_antisymm l m) i

  pub painted_row : (f : ℕ → ℕ → ℕ → ℕ) → Stencilled g st₀ → y < g.height → {st : List ℕ} → RowPainted made g y g.width st₀ st → ((x r : ℕ) → x < g.width → made (cell_in g x y) (get_or st₀ (cell_in g x y) 0) r → r ≡ f (get_or st₀ (cell_in g x y) 0) x y) → CellsPasted g st₀ st (tab (length (cut_cells g st₀)) (rowed f g.width y (cut_cells g st₀)))
  unfolding cell_shown
  painted_row f e b {st} i h =
      record {
        inside = is_picked 0 n (cell_shown g) st (tab m (rowed f w y (cut_cells g st₀))) (tab_length m _ ∙ long) (λ k l. tab_at m (rowed f w y (cut_cells g st₀)) k 0 (omega (arith, long)) ∙ sym (stands k l));
        long = i.long;
        outside = λ p o. i.rest p (λ x l q. o (cell w x y) (cell_lt w g.height x y l b) (cell_shown_law g x y l ∙ sym q));
      }
    where
      w : ℕ
      w = g.width

      n : ℕ
      n = g.height * g.width

      m : ℕ
      m = length (cut_cells g st₀)

      long : m ≡ n
      long = picked_length 0 n (cell_shown g) st₀

      stands : (k : ℕ) → k < n → get_or st (cell_shown g k) 0 ≡ rowed f w y (cut_cells g st₀) k
      stands k l =
          dite (ℕ_discrete (k / w) y)
          (λ q.
          let o : k % w < w = mod-lt k e.fits.any in
          rw (eq-eqb (k / w) y q, picked_at 0 n (cell_shown g) st₀ k l)
          (subst (λ (v : ℕ). get_or st (cell_in g (k % w) v) 0 ≡ f (get_or st₀ (cell_in g (k % w) v) 0) (k % w) v) (sym q) (h (k % w) _ o (i.done (k % w) o))))
          (λ d.
          rw (ne_eqb (k / w) y d, picked_at 0 n (cell_shown g) st₀ k l)
          (i.rest (cell_shown g k) (λ x o q. d (ap (λ (z : ℕ). z / w) (cells_apart g e.fits k (cell w x y) l (cell_lt w g.height x y o b) (q ∙ sym (cell_shown_law g x y o))) ∙ digits_div y o))))
