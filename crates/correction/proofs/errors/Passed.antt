-- A settled texel has no artifact and takes no test, so it may be passed over. Assumes nothing.
--     passed_kept    its byte stays
--     passed_free    no test is made for it
use mathlib.Core.Path.{◌≡◌, refl, sym, ◌∙◌, subst}
use mathlib.Core.Bool.{Bool, true, false, ◌||◌}
use mathlib.Core.List.{List, [], ◌∷◌}
use Prim.Native.Nat.{ℕ, ◌+◌, ◌-◌, ◌<◌, ◌≤◌}
use native.Mathlib.Omega.{arith}
use lib.Ieee.{Float}
use Rattle.ground.specs.Lists.{spent_in}
use Rattle.ranges.specs.declared.config.Settings.{Settings}
use Rattle.ranges.specs.Config.{side_span, diagonal_span}
use Rattle.detectors.specs.Orders.{order_code}
use Rattle.detectors.specs.Texel.{texel_median}
use Rattle.detectors.proofs.Laws.Orders.{linear_settled, diagonal_settled}
use Rattle.inputs.specs.declared.sizes.Window.{Window}
use Rattle.inputs.specs.Window.{cut_samples}
use Rattle.inputs.specs.Stencil.{is_protected}
use Rattle.correction.specs.Bitmap.{texel}
use Rattle.inputs.specs.Bounds.{in_bounds}
use Rattle.correction.specs.Errors.{side_artifact, some_side, diagonal_artifact, some_diagonal, some_artifact, has_artifact, side_tests, across_tests, in_order, linear_made, diagonal_made, some_made, tests_made}
use Rattle.correction.specs.Inner.{four_of, marked, made_for, order_in, Ordered, Settled}
use Rattle.inputs.proofs.Laws.Bounds.{inside}

-- nothing towards four neighbours
no_four : (a b c d : Bool) → a ≡ false → b ≡ false → c ≡ false → d ≡ false → (a || (b || (c || d))) ≡ false
no_four a b c d e f g h = rw (e, f, g, h)

nothing_four : (a b c d : Bool) (k l m n : ℕ) → a ≡ false → b ≡ false → c ≡ false → d ≡ false → k ≡ 0 → l ≡ 0 → m ≡ 0 → n ≡ 0 → in_order ((a, k) ∷ (b, l) ∷ (c, m) ∷ (d, n) ∷ []) ≡ 0
unfolding spent_in
nothing_four a b c d k l m n e f g h p q r s = rw (e, f, g, h, p, q, r, s)

-- texels around x, y that all have one order
module _ (tex : ℕ → ℕ → List Float) (w h x y o : ℕ) (some : 1 ≤ o) (l : x < w) (k : y < h)
    (one : (u v : ℕ) → u < w → v < h → u ≤ x + 1 → x ≤ u + 1 → v ≤ y + 1 → y ≤ v + 1 → order_code (tex u v) ≡ o) where
  own : order_code (tex x y) ≡ o
  own = one x y l k (omega arith) (omega arith) (omega arith) (omega arith)

  side : (span : Float) (protected : Bool) (m : Float) (nx ny : ℕ) → nx ≤ x + 2 → x ≤ nx → ny ≤ y + 2 → y ≤ ny → (side_artifact tex w h span protected m (tex x y) nx ny ≡ false) × (side_tests tex w h span protected m (tex x y) nx ny ≡ 0)
  unfolding side_artifact side_tests
  side span protected m nx ny a b c d = by_bounds (in_bounds w h nx ny) refl
    where
      by_bounds : (t : Bool) → in_bounds w h nx ny ≡ t → (side_artifact tex w h span protected m (tex x y) nx ny ≡ false) × (side_tests tex w h span protected m (tex x y) nx ny ≡ 0)
      by_bounds false e = (rw e, rw e)
      by_bounds true e =
          let i = inside w h nx ny e in
          let n : order_code (tex (nx - 1) (ny - 1)) ≡ o = one (nx - 1) (ny - 1) i.column i.row (omega arith) (omega (arith, i.from_left)) (omega arith) (omega (arith, i.from_low)) in
          let s = linear_settled span protected m (tex x y) (tex (nx - 1) (ny - 1)) (own ∙ sym n) (subst (λ (z : ℕ). 1 ≤ z) (sym own) some) in
          (rw e s.0, rw e s.1)

  across : (span : Float) (protected : Bool) (m : Float) (nx ny : ℕ) → nx ≤ x + 2 → x ≤ nx → ny ≤ y + 2 → y ≤ ny → (diagonal_artifact tex w h span protected m (tex x y) x y nx ny ≡ false) × (across_tests tex w h span protected m (tex x y) x y nx ny ≡ 0)
  unfolding diagonal_artifact across_tests
  across span protected m nx ny a b c d = by_bounds (in_bounds w h nx ny) refl
    where
      by_bounds : (t : Bool) → in_bounds w h nx ny ≡ t → (diagonal_artifact tex w h span protected m (tex x y) x y nx ny ≡ false) × (across_tests tex w h span protected m (tex x y) x y nx ny ≡ 0)
      by_bounds false e = (rw e, rw e)
      by_bounds true e =
          let i = inside w h nx ny e in
          let near-left : nx - 1 ≤ x + 1 = omega arith in
          let near-right : x ≤ nx - 1 + 1 = omega (arith, i.from_left) in
          let near-low : ny - 1 ≤ y + 1 = omega arith in
          let near-high : y ≤ ny - 1 + 1 = omega (arith, i.from_low) in
          let s = diagonal_settled span protected m (four_of tex (tex x y) x y (nx - 1) (ny - 1)) o some own
          (one (nx - 1) y i.column k near-left near-right (omega arith) (omega arith))
          (one x (ny - 1) l i.row (omega arith) (omega arith) near-low near-high)
          (one (nx - 1) (ny - 1) i.column i.row near-left near-right near-low near-high) in
          (rw e s.0, rw e s.1)

  module _ (s : Settings) (protected : Bool) where
    abbrev m : Float
    m = texel_median (tex x y)

    no_side : some_side tex w h (side_span s false) (side_span s true) protected m (tex x y) x y ≡ false
    unfolding some_side
    no_side =
        no_four _ _ _ _
        (side (side_span s false) protected m x (y + 1) (omega arith) (omega arith) (omega arith) (omega arith)).0
        (side (side_span s true) protected m (x + 1) y (omega arith) (omega arith) (omega arith) (omega arith)).0
        (side (side_span s false) protected m (x + 2) (y + 1) (omega arith) (omega arith) (omega arith) (omega arith)).0
        (side (side_span s true) protected m (x + 1) (y + 2) (omega arith) (omega arith) (omega arith) (omega arith)).0

    nothing_linear : linear_made tex w h (side_span s false) (side_span s true) protected m (tex x y) x y ≡ 0
    unfolding linear_made
    nothing_linear =
        let left = side (side_span s false) protected m x (y + 1) (omega arith) (omega arith) (omega arith) (omega arith) in
        let below = side (side_span s true) protected m (x + 1) y (omega arith) (omega arith) (omega arith) (omega arith) in
        let right = side (side_span s false) protected m (x + 2) (y + 1) (omega arith) (omega arith) (omega arith) (omega arith) in
        let above = side (side_span s true) protected m (x + 1) (y + 2) (omega arith) (omega arith) (omega arith) (omega arith) in
        nothing_four _ _ _ _ _ _ _ _ left.0 below.0 right.0 above.0 left.1 below.1 right.1 above.1

    no_diagonal : some_diagonal tex w h (diagonal_span s) protected m (tex x y) x y ≡ false
    unfolding some_diagonal
    no_diagonal =
        no_four _ _ _ _
        (across (diagonal_span s) protected m x y (omega arith) (omega arith) (omega arith) (omega arith)).0
        (across (diagonal_span s) protected m (x + 2) y (omega arith) (omega arith) (omega arith) (omega arith)).0
        (across (diagonal_span s) protected m x (y + 2) (omega arith) (omega arith) (omega arith) (omega arith)).0
        (across (diagonal_span s) protected m (x + 2) (y + 2) (omega arith) (omega arith) (omega arith) (omega arith)).0

    nothing_diagonal : diagonal_made tex w h (diagonal_span s) protected m (tex x y) x y ≡ 0
    unfolding diagonal_made
    nothing_diagonal =
        let a = across (diagonal_span s) protected m x y (omega arith) (omega arith) (omega arith) (omega arith) in
        let b = across (diagonal_span s) protected m (x + 2) y (omega arith) (omega arith) (omega arith) (omega arith) in
        let c = across (diagonal_span s) protected m x (y + 2) (omega arith) (omega arith) (omega arith) (omega arith) in
        let d = across (diagonal_span s) protected m (x + 2) (y + 2) (omega arith) (omega arith) (omega arith) (omega arith) in
        nothing_four _ _ _ _ _ _ _ _ a.0 b.0 c.0 d.0 a.1 b.1 c.1 d.1

    no_artifact : has_artifact tex w h s protected x y ≡ false
    unfolding has_artifact some_artifact
    no_artifact = rw (no_side, no_diagonal)

    nothing_made : tests_made tex w h s protected x y ≡ 0
    unfolding tests_made some_made
    nothing_made = rw (no_side, nothing_linear, nothing_diagonal)

module _ (g : Window) (xs : List Float) (st : List ℕ) (d : Ordered g xs st) (x y : ℕ) (l : x < g.width) (k : y < g.height) (c : Settled g st x y) (s : Settings) where
  one : (u v : ℕ) → u < g.width → v < g.height → u ≤ x + 1 → x ≤ u + 1 → v ≤ y + 1 → y ≤ v + 1 → order_code (texel (cut_samples g xs) g.width g.channels u v) ≡ order_in g st x y
  one u v i j p q r t = sym (d u v i j) ∙ c.around u v i j p q r t

  pub passed_kept : (v : ℕ) → marked (cut_samples g xs) g.width g.height g.channels s v x y ≡ v
  unfolding marked
  passed_kept v = rw (no_artifact (texel (cut_samples g xs) g.width g.channels) g.width g.height x y (order_in g st x y) c.beyond l k one s (is_protected v))

  pub passed_free : (v : ℕ) → made_for (cut_samples g xs) g.width g.height g.channels s v x y ≡ 0
  unfolding made_for
  passed_free v = nothing_made (texel (cut_samples g xs) g.width g.channels) g.width g.height x y (order_in g st x y) c.beyond l k one s (is_protected v)
