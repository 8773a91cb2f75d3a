-- The cells of a window that is painted in its sheet: where a test holds of a cell a brush has gone over what stood there. Assumes nothing.
--     stroke_none    nothing is painted
--     stroke_set     one cell is
--     stroke_same    another test that agrees on the window's cells
--     stroke_still   the sheet is as long as it was
--     stroke_taken   behind a test that holds
--     stroke_left    behind one that does not
--     stroke_then    one after another
--     stroke_zero    no turn of a loop
--     stroke_turn    one more turn of a loop
use mathlib.Core.Path.{◌≡◌, refl, sym, ◌∙◌, ap, subst}
use mathlib.Core.Bool.{Bool, true, false, ◌&&◌, ◌||◌}
use mathlib.Core.List.{List}
use Prim.Native.Nat.{ℕ, ◌+◌, ◌*◌, ◌<◌}
use lib.Dec.{eqb}
use lib.ListN.{length, get_or, set}
use Rattle.ground.specs.Lists.{any, painted}
use Rattle.ground.proofs.Laws.Painted.{painted_none, painted_set, painted_same_below, painted_taken, painted_left, painted_then, painted_zero, painted_turn}
use Rattle.ground.proofs.Laws.Picked.{picked_length, picked_at, pasted_none, pasted_set, pasted_then, pasted_as}
use Rattle.inputs.specs.declared.sizes.Window.{Window}
use Rattle.inputs.specs.Window.{cell_in, cell_shown, cut_cells, CellsPasted}
use Rattle.inputs.specs.Inner.{Stencilled}
use Rattle.inputs.proofs.Laws.Places.{cell_lt}
use Rattle.inputs.proofs.Laws.Windows.{cell_shown_law, cells_apart, cell_held, still_stencilled}
use Rattle.correction.specs.Bitmap.{cell}

abbrev pub Painted : (ℕ → ℕ) → Window → (ℕ → Bool) → List ℕ → List ℕ → Type 0
Painted brush g p st st' = CellsPasted g st st' (painted brush p (cut_cells g st))

-- ---- any brush

module _ (brush : ℕ → ℕ) (g : Window) where
  abbrev n : ℕ
  n = g.height * g.width

  -- what is new, written another way
  anew : {st st' new : List ℕ} (p : ℕ → Bool) → CellsPasted g st st' new → new ≡ painted brush p (cut_cells g st) → Painted brush g p st st'
  anew p a e = pasted_as 0 n (cell_shown g) a e

  many : (st : List ℕ) → length (cut_cells g st) ≡ n
  many st = picked_length 0 n (cell_shown g) st

  pub stroke_none : (p : ℕ → Bool) (st : List ℕ) → ((k : ℕ) → p k ≡ false) → Painted brush g p st st
  stroke_none p st h = anew p (pasted_none 0 n (cell_shown g) st) (painted_none brush p (cut_cells g st) h)

  pub stroke_set : (p : ℕ → Bool) {st : List ℕ} → Stencilled g st → (x y v : ℕ) → x < g.width → y < g.height → v ≡ brush (get_or st (cell_in g x y) 0) → ((k : ℕ) → p k ≡ eqb k (cell g.width x y)) → Painted brush g p st (set st (cell_in g x y) v)
  stroke_set p {st} s x y v l m e h =
      let k : ℕ = cell g.width x y in
      let b : k < n = cell_lt g.width g.height x y l m in
      let q : cell_shown g k ≡ cell_in g x y = cell_shown_law g x y l in
      let here : get_or (cut_cells g st) k 0 ≡ get_or st (cell_in g x y) 0 = picked_at 0 n (cell_shown g) st k b ∙ ap (λ (j : ℕ). get_or st j 0) q in
      anew p
      (subst (λ (j : ℕ). CellsPasted g st (set st j v) (set (cut_cells g st) k v)) q (pasted_set 0 n (cell_shown g) (cells_apart g s.fits) st k v b (cell_held g s k b)))
      (painted_set brush p (cut_cells g st) k v (subst (λ (j : ℕ). k < j) (sym (many st)) b) (e ∙ ap brush (sym here)) h)

  pub stroke_same : (p q : ℕ → Bool) {st st' : List ℕ} → ((k : ℕ) → k < n → p k ≡ q k) → Painted brush g p st st' → Painted brush g q st st'
  stroke_same p q {st} h a = anew q a (painted_same_below brush p q (cut_cells g st) (λ k l. h k (subst (λ (j : ℕ). k < j) (many st) l)))

  pub stroke_still : (p : ℕ → Bool) {st st' : List ℕ} → Stencilled g st → Painted brush g p st st' → Stencilled g st'
  stroke_still p {st} {st'} s a = still_stencilled g s st' a.long

  module _ (b : Bool) (p : ℕ → Bool) where
    pub stroke_taken : b ≡ true → {st st' : List ℕ} → Painted brush g p st st' → Painted brush g (λ k. b && p k) st st'
    stroke_taken t {st} a = anew (λ k. b && p k) a (painted_taken brush b p t (cut_cells g st) (painted brush p (cut_cells g st)) refl)

    pub stroke_left : b ≡ false → (st : List ℕ) → Painted brush g (λ k. b && p k) st st
    stroke_left t st = anew (λ k. b && p k) (pasted_none 0 n (cell_shown g) st) (painted_left brush b p t (cut_cells g st))

  pub stroke_zero : (f : ℕ → ℕ → Bool) (st : List ℕ) → Painted brush g (λ k. any 0 (λ j. f j k)) st st
  stroke_zero f st = anew (λ k. any 0 (λ j. f j k)) (pasted_none 0 n (cell_shown g) st) (painted_zero brush f (cut_cells g st))

  -- ---- a brush that changes nothing where it has painted

  module _ (again : (v : ℕ) → brush (brush v) ≡ brush v) where
    pub stroke_then : (p q : ℕ → Bool) {st st' st'' : List ℕ} → Painted brush g p st st' → Painted brush g q st' st'' → Painted brush g (λ k. p k || q k) st st''
    stroke_then p q {st} a b = anew (λ k. p k || q k) (pasted_then 0 n (cell_shown g) a b) (ap (painted brush q) a.inside ∙ painted_then brush again p q (cut_cells g st))

    pub stroke_turn : (f : ℕ → ℕ → Bool) (i : ℕ) (p : ℕ → Bool) {st₀ st st' : List ℕ} → Painted brush g (λ k. any i (λ j. f j k)) st₀ st → ((k : ℕ) → p k ≡ f i k) → Painted brush g p st st' → Painted brush g (λ k. any (i + 1) (λ j. f j k)) st₀ st'
    stroke_turn f i p {st₀} {st} a h b =
        anew (λ k. any (i + 1) (λ j. f j k)) (pasted_then 0 n (cell_shown g) a b)
        (painted_turn brush again f (cut_cells g st₀) (cut_cells g st) i a.inside (painted brush p (cut_cells g st)) p h refl)
