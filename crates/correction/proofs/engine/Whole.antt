-- The stages of the pass put together, over plain lists. Assumes nothing.
--     protects_all, protects_none, protects_some   the bytes of each mode, as protection leaves them
--     switched_off, done                           what all stages leave, in mode Disabled and in the others
--     shielded_all, shielded_none, shielded_some   protection in a window of a sheet
--     shielded_plain, written_ordered              what it leaves for the orders, and what these leave for finding
--     left_alone, corrected                        and all stages there
use mathlib.Core.Path.{◌≡◌, refl, sym, ◌∙◌, ap, subst}
use mathlib.Core.Bool.{Bool, true, false, cond, ◌||◌}
use mathlib.Core.List.{List}
use Prim.Native.Nat.{ℕ, ◌+◌, ◌*◌, ◌/◌, ◌%◌, ◌<◌}
use native.Mathlib.Omega.{arith}
use lib.Arith.{digits_div, digits_mod}
use native.Mathlib.Nat.{mul_comm}
use lib.Dec.{eqb}
use lib.ListN.{length, get_or}
use lib.Ieee.{Float, nan}
use borrow.Author.Tests.{eq-eqb, ne_eqb}
use Rattle.ranges.specs.declared.config.Settings.{Settings}
use Rattle.ground.specs.Lists.{tab, total, painted}
use Rattle.ground.proofs.Laws.Fill.{tab_length, tab_at, tab_same}
use Rattle.ground.proofs.Laws.Spent.{total_zero, total_same}
use Rattle.ground.proofs.Laws.Painted.{painted_length, painted_at, is_painted}
use Rattle.ground.proofs.Laws.Picked.{picked_length, pasted_none, pasted_then, pasted_as}
use Rattle.inputs.specs.declared.sizes.Window.{Window}
use Rattle.inputs.specs.Window.{cell_in, cell_shown, sample_shown, cut_cells, cut_samples, CellsPasted, SamplesPasted}
use Rattle.inputs.specs.Inner.{Sized, Sampled}
use Rattle.inputs.specs.Stencil.{stencil_byte, is_error, set_corner, set_protected}
use Rattle.inputs.specs.Checks.{Input}
use Rattle.inputs.proofs.Laws.Stencil.{byte_sets, byte_clear, byte_only_protected}
use Rattle.inputs.proofs.Laws.Places.{cell_lt}
use Rattle.inputs.proofs.Laws.Windows.{cut_sized}
use Rattle.detectors.specs.Orders.{order_code}
use Rattle.correction.specs.Bitmap.{cell, texel}
use Rattle.correction.specs.Corners.{contours, corners_protect}
use Rattle.correction.specs.Edges.{edges_protect}
use Rattle.correction.specs.Collapse.{collapsed}
use Rattle.correction.specs.Inner.{at_corner, found, made_in, Cleared, cut_out, shielded_cells, Plain, Ordered, with_orders, without_orders}
use Rattle.correction.specs.Pass.{texels, cornered, edge_priority_protects, protects, flags, byte_at, pass_stencil, pass_samples, tests_at, pass_tests}
use Rattle.correction.proofs.Laws.Collapse.{collapsed_same, collapsed_none}
use Rattle.correction.proofs.bitmap.Stretch.{cell_cut}
use Rattle.correction.proofs.engine.Orders.{byte_small, above_at, made_above, found_below, flags_below}
use Rattle.correction.proofs.engine.Staged.{found_staged, made_staged, byte_at_says, byte_at_disabled}

-- what two paintings leave of zeros
painted_twice : (n : ℕ) (f g : ℕ → ℕ) (c d : ℕ → Bool) → painted g d (painted f c (tab n (λ k. 0))) ≡ tab n (λ k. cond (d k) (g (cond (c k) (f 0) 0)) (cond (c k) (f 0) 0))
painted_twice n f g c d =
    let z : List ℕ = tab n (λ k. 0) in
    let long : length (painted f c z) ≡ n = painted_length f c z ∙ tab_length n (λ k. 0) in
    sym (is_painted g d (painted f c z) _ (tab_length n _ ∙ sym long)
    (λ k l. let b : k < n = subst (λ (m : ℕ). k < m) long l in
    tab_at n _ k 0 b ∙ sym (ap (λ (v : ℕ). cond (d k) (g v) v) (painted_at f c z k (subst (λ (m : ℕ). k < m) (sym (tab_length n (λ k. 0))) b) ∙ ap (λ (v : ℕ). cond (c k) (f v) v) (tab_at n (λ k. 0) k 0 b)))))

-- the byte that a corner and an edge leave of 0
both : (c d : Bool) → cond d (set_protected (cond c (at_corner 0) 0)) (cond c (at_corner 0) 0) ≡ stencil_byte c (c || d) false
both c d = rw byte_clear (go c d)
  where
    corner : at_corner (stencil_byte false false false) ≡ stencil_byte true true false
    corner = ap set_corner (byte_sets false false false).1 ∙ (byte_sets false true false).0

    go : (c d : Bool) → let z = stencil_byte false false false in cond d (set_protected (cond c (at_corner z) z)) (cond c (at_corner z) z) ≡ stencil_byte c (c || d) false
    go true true = ap set_protected corner ∙ (byte_sets true true false).1
    go true false = corner
    go false true = (byte_sets false false false).1
    go false false = refl

module _ (i : Input) where
  -- the cells that a corner protects, those that the mode protects, and how many cells there are
  corners : ℕ → Bool
  corners k = cornered i (k % i.width) (k / i.width)

  covers : ℕ → Bool
  covers k = protects i (k % i.width) (k / i.width)

  abbrev n : ℕ
  n = i.height * i.width

  -- EdgeOnly
  protects_all : i.mode ≡ 3 → tab {A = ℕ} (i.height * i.width) (λ k. 2) ≡ shielded_cells i
  unfolding shielded_cells cornered protects
  protects_all e = tab_same n _ _ (λ k l. simp (eq-eqb i.mode 3 e, ap (λ (m : ℕ). eqb m 2) e) byte_only_protected)

  -- neither EdgeOnly nor EdgePriority
  protects_none : (i.mode ≡ 3 → ⊥) → (i.mode ≡ 2 → ⊥) → tab {A = ℕ} (i.height * i.width) (λ k. 0) ≡ shielded_cells i
  unfolding shielded_cells cornered protects
  protects_none e f = tab_same n _ _ (λ k l. simp (ne_eqb _ 3 e, ne_eqb _ 2 f) byte_clear)

  -- EdgePriority: zeros, then corners, then edges
  protects_some : (st₀ st₁ : List ℕ) → i.mode ≡ 2
      → st₀ ≡ tab (i.height * i.width) (λ k. 0)
      → st₁ ≡ painted at_corner (λ k. corners_protect (contours i.colours i.coords i.ends) (k % i.width) (k / i.width)) st₀
      → painted set_protected (λ k. edges_protect (texel i.samples i.width i.channels) i.width i.height i.settings (k % i.width) (k / i.width)) st₁ ≡ shielded_cells i
  unfolding shielded_cells cornered protects edge_priority_protects texels
  protects_some st₀ st₁ e p q =
      let c : ℕ → Bool = λ k. corners_protect (contours i.colours i.coords i.ends) (k % i.width) (k / i.width) in
      let d : ℕ → Bool = λ k. edges_protect (texel i.samples i.width i.channels) i.width i.height i.settings (k % i.width) (k / i.width) in
      ap (painted set_protected d) (q ∙ ap (painted at_corner c) p) ∙ painted_twice n at_corner set_protected c d
      ∙ tab_same n _ _ (λ k l. simp (eq-eqb i.mode 2 e, ap (λ (m : ℕ). eqb m 3) e) (both (c k) (d k)))

  area : n ≡ i.width * i.height
  area = mul_comm i.height i.width

  -- Disabled
  switched_off : i.mode ≡ 0 → (0 ≡ pass_tests i) × (tab (i.height * i.width) (λ k. 0) ≡ pass_stencil i) × (i.samples ≡ pass_samples i)
  unfolding pass_tests tests_at pass_stencil pass_samples flags
  switched_off e = (
    sym (total_zero (i.width * i.height) _ (λ k. simp (eq-eqb i.mode 0 e))),
    ap (λ (m : ℕ). tab m (λ k. 0)) area ∙ tab_same (i.width * i.height) _ _ (λ k l. sym (byte_at_disabled i e k)),
    sym (collapsed_none i.samples i.channels) ∙ simp (eq-eqb i.mode 0 e) refl,
  )

  module _ (s : Sized i.width i.height i.channels i.samples) (e : i.mode ≡ 0 → ⊥) (st₁ : List ℕ) (p : st₁ ≡ shielded_cells i) (st₂ : List ℕ) (q : st₂ ≡ found i.samples i.width i.height i.channels i.settings st₁) where
    shielded : st₁ ≡ tab n (λ k. stencil_byte (corners k) (covers k) false)
    unfolding shielded_cells corners covers
    shielded = p

    staged : st₂ ≡ tab n (byte_at i)
    unfolding corners covers byte_at flags texels
    staged =
        q ∙ found_staged i.samples i.width i.height i.channels i.settings n corners covers st₁ shielded
        ∙ tab_same n _ _ (λ k l. simp (ne_eqb i.mode 0 e))

    error_at : (k : ℕ) → k < n → is_error (get_or st₂ k 0) ≡ flags i (k % i.width) (k / i.width)
    error_at k l = ap (λ (z : List ℕ). is_error (get_or z k 0)) staged ∙ ap is_error (tab_at n (byte_at i) k 0 l) ∙ (byte_at_says i k).2

    made_as : made_in i.samples i.width i.height i.channels i.settings st₁ ≡ pass_tests i
    unfolding corners covers pass_tests tests_at texels
    made_as =
        made_staged i.samples i.width i.height i.channels i.settings n corners covers st₁ shielded
        ∙ total_same n _ (λ k. tests_at i (k % i.width) (k / i.width)) (λ k l. simp (ne_eqb i.mode 0 e)) ∙ ap (λ (m : ℕ). total m (λ k. tests_at i (k % i.width) (k / i.width))) area

    done : (made_in i.samples i.width i.height i.channels i.settings st₁ ≡ pass_tests i) × (st₂ ≡ pass_stencil i) × (collapsed i.samples i.channels (λ k. is_error (get_or st₂ k 0)) ≡ pass_samples i)
    unfolding pass_stencil pass_samples
    done = (made_as, staged ∙ ap (λ (m : ℕ). tab m (byte_at i)) area, collapsed_same i.samples i.channels n _ _ s.long error_at)

-- the bytes that protection leaves have no more than three bits
shielded_small : (i : Input) (k : ℕ) → k < i.height * i.width → get_or (shielded_cells i) k 0 < 8
unfolding shielded_cells
shielded_small i k l = subst (λ (v : ℕ). v < 8) (sym (tab_at (i.height * i.width) _ k 0 l)) (byte_small _ _ false)

-- what is written above the bits are the orders
pub written_ordered : (g : Window) (xs : List Float) {st st' : List ℕ} → Plain g st → CellsPasted g st st' (with_orders (cut_samples g xs) g.width g.channels (cut_cells g st)) → Ordered g xs st'
written_ordered g xs {st} {st'} small p x y a b =
    let k = cell g.width x y in
    let l : k < length (cut_cells g st) = subst (λ (m : ℕ). k < m) (sym (picked_length 0 (g.height * g.width) (cell_shown g) st)) (cell_lt g.width g.height x y a b) in
    let q : (y * g.width + x) / g.width ≡ y = digits_div y a in
    let r : (y * g.width + x) % g.width ≡ x = digits_mod y a in
    let v = get_or st (cell_in g x y) 0 in
    let e : get_or st' (cell_in g x y) 0 ≡ v + 8 * order_code (texel (cut_samples g xs) g.width g.channels x y) =
    sym (cell_cut g st' x y a b) ∙ ap (λ (z : List ℕ). get_or z k 0) p.inside ∙ above_at (cut_samples g xs) g.width g.channels (cut_cells g st) k l
    ∙ rw (q, r, cell_cut g st x y a b) in
    ap (λ (z : ℕ). z / 8) e ∙ high v (order_code (texel (cut_samples g xs) g.width g.channels x y)) (small x y a b)
  where
    high : (v o : ℕ) → v < 8 → (v + 8 * o) / 8 ≡ o
    high v o l = omega arith

-- ---- a window that is cleared

module _ (g : Window) (xs : List Float) (mode : ℕ) (s : Settings) (colours : List ℕ) (coords : List Float) (ends : List ℕ) where
  abbrev given : Input
  given = cut_out g xs mode s colours coords ends

  pub shielded_all : {st st' : List ℕ} → mode ≡ 3 → CellsPasted g st st' (tab (g.height * g.width) (λ k. 2)) → CellsPasted g st st' (shielded_cells given)
  shielded_all e p = pasted_as 0 (g.height * g.width) (cell_shown g) p (protects_all given e)

  pub shielded_none : (st : List ℕ) → (mode ≡ 3 → ⊥) → (mode ≡ 2 → ⊥) → Cleared g st → CellsPasted g st st (shielded_cells given)
  shielded_none st e f z =
      pasted_as 0 (g.height * g.width) (cell_shown g) (pasted_none 0 (g.height * g.width) (cell_shown g) st) (z ∙ protects_none given e f)

  pub shielded_some : {st₀ st₁ st₂ : List ℕ} → mode ≡ 2 → Cleared g st₀
      → CellsPasted g st₀ st₁ (painted at_corner (λ k. corners_protect (contours colours coords ends) (k % g.width) (k / g.width)) (cut_cells g st₀))
      → CellsPasted g st₁ st₂ (painted set_protected (λ k. edges_protect (texel (cut_samples g xs) g.width g.channels) g.width g.height s (k % g.width) (k / g.width)) (cut_cells g st₁))
      → CellsPasted g st₀ st₂ (shielded_cells given)
  shielded_some {st₀} {st₁} {st₂} e z p q =
      pasted_as 0 (g.height * g.width) (cell_shown g) (pasted_then 0 (g.height * g.width) (cell_shown g) p q) (protects_some given (cut_cells g st₀) (cut_cells g st₁) e z p.inside)

  -- Disabled: nothing is written
  pub left_alone : (st : List ℕ) → mode ≡ 0 → Cleared g st → (0 ≡ pass_tests given) × (CellsPasted g st st (pass_stencil given) × SamplesPasted g xs xs (pass_samples given))
  left_alone st e z =
      let p = switched_off given e in (
        p.0,
        (
          pasted_as 0 (g.height * g.width) (cell_shown g) (pasted_none 0 (g.height * g.width) (cell_shown g) st) (z ∙ p.1),
          pasted_as nan (g.height * g.width * g.channels) (sample_shown g) (pasted_none nan (g.height * g.width * g.channels) (sample_shown g) xs) p.2,
        ),
      )

  -- protection leaves no more than the three bits
  pub shielded_plain : {st st' : List ℕ} → CellsPasted g st st' (shielded_cells given) → Plain g st'
  shielded_plain {st} {st'} p x y a b =
      let k = cell g.width x y in
      subst (λ (v : ℕ). v < 8) (ap (λ (z : List ℕ). get_or z k 0) (sym p.inside) ∙ cell_cut g st' x y a b) (shielded_small given k (cell_lt g.width g.height x y a b))

  -- the other modes: protection, orders, finding, and collapsing, which takes the orders out
  pub corrected : Sampled g xs → {st₀ st₁ st₂ st₃ st₄ : List ℕ} {xs' : List Float} {t : ℕ} → (mode ≡ 0 → ⊥)
      → CellsPasted g st₀ st₁ (shielded_cells given)
      → CellsPasted g st₁ st₂ (with_orders (cut_samples g xs) g.width g.channels (cut_cells g st₁))
      → CellsPasted g st₂ st₃ (found (cut_samples g xs) g.width g.height g.channels s (cut_cells g st₂))
      → t ≡ made_in (cut_samples g xs) g.width g.height g.channels s (cut_cells g st₂)
      → CellsPasted g st₃ st₄ (without_orders (cut_cells g st₃))
      → SamplesPasted g xs xs' (collapsed (cut_samples g xs) g.channels (λ k. is_error (get_or (cut_cells g st₃) k 0)))
      → (t ≡ pass_tests given) × (CellsPasted g st₀ st₄ (pass_stencil given) × SamplesPasted g xs xs' (pass_samples given))
  corrected o {st₀} {st₁} {st₂} {st₃} {st₄} {xs'} {t} e p w q r u v =
      let n : ℕ = g.height * g.width in
      let ys : List Float = cut_samples g xs in
      let c : List ℕ = cut_cells g st₁ in
      let d = done given (cut_sized g o) e c p.inside (found ys g.width g.height g.channels s c) refl in
      let long : length c ≡ n = picked_length 0 n (cell_shown g) st₁ in
      let small : (k : ℕ) → k < length c → get_or c k 0 < 8 =
      λ k l. subst (λ (z : List ℕ). get_or z k 0 < 8) (sym p.inside) (shielded_small given k (subst (λ (m : ℕ). k < m) long l)) in
      let h : cut_cells g st₃ ≡ found ys g.width g.height g.channels s (with_orders ys g.width g.channels c) = q.inside ∙ ap (found ys g.width g.height g.channels s) w.inside in (
        r ∙ ap (made_in ys g.width g.height g.channels s) w.inside ∙ made_above ys g.width g.height g.channels s c ∙ d.0,
        (
          pasted_as 0 n (cell_shown g) (pasted_then 0 n (cell_shown g) (pasted_then 0 n (cell_shown g) (pasted_then 0 n (cell_shown g) p w) q) u) (found_below ys g.width g.height g.channels s c (cut_cells g st₃) h small ∙ d.1),
          pasted_as nan (n * g.channels) (sample_shown g) v (collapsed_same ys g.channels n _ _ (cut_sized g o).long (λ k l. flags_below ys g.width g.height g.channels s c (cut_cells g st₃) h k (subst (λ (m : ℕ). k < m) (sym long) l)) ∙ d.2),
        ),
      )
