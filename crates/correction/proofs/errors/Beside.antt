-- Towards a neighbour whose order is that of the texel there is nothing to find. Assumes nothing.
--     in_bounds                  a neighbour that is inside
--     before_column, past_column, before_row, past_row, outside_column   one that is not
--     known_alike                a neighbour that is found to be alike is of the same order, by `Ordered`
--     known_doubt                the pairs that are found to be in doubt are those of the orders of the four
--     four_read                  the four texels of a diagonal test are those that are read
--     side_on, side_off          a side neighbour that is inside, and one that is not
--     side_alike                 one of the same order
--     across_on, across_off      the same of a diagonal neighbour
--     across_clear               one that leaves no pair in doubt
use mathlib.Core.Path.{◌≡◌, refl, sym, ◌∙◌, subst}
use mathlib.Core.Bool.{Bool, true, false, ◌&&◌, true≢false}
use mathlib.Core.List.{List}
use Prim.Native.Nat.{ℕ, ◌-◌, ◌*◌, ◌<◌, ◌≤◌}
use lib.Dec.{eqb, leb, ltb}
use lib.Ieee.{Float}
use borrow.Author.Tests.{ltb-true, eqb-true, lt-ltb, le-ltb, le-leb, lt-leb}
use Rattle.ground.proofs.Laws.Bools.{both_hold}
use Rattle.detectors.specs.Diagonal.{has_diagonal_artifact, diagonal_tests}
use Rattle.detectors.specs.Linear.{has_linear_artifact, linear_tests}
use Rattle.detectors.specs.Orders.{order_code, doubt, Doubts}
use Rattle.detectors.specs.Verdict.{verdict}
use Rattle.detectors.proofs.Laws.Orders.{linear_settled, doubts, undoubted}
use Rattle.detectors.proofs.Laws.Verdict.{guarded_off, guarded_on, as_clear}
use Rattle.inputs.specs.declared.sizes.Window.{Window}
use Rattle.inputs.specs.Inner.{Sampled}
use Rattle.inputs.specs.Window.{cell_in, cut_samples}
use Rattle.correction.specs.Bitmap.{texel}
use Rattle.inputs.specs.Bounds.{in_bounds}
use Rattle.correction.specs.Errors.{side_artifact, side_tests, diagonal_artifact, across_tests}
use Rattle.correction.specs.Inner.{four_at, four_of, order_in, Ordered}
use Rattle.correction.proofs.bitmap.Centres.{texel_read}

pub in_bounds_law : (w h nx ny : ℕ) → 0 < nx → nx ≤ w → 0 < ny → ny ≤ h → in_bounds w h nx ny ≡ true
unfolding in_bounds
in_bounds_law w h nx ny a b c d = rw (lt-ltb 0 nx a, le-leb nx w b, lt-ltb 0 ny c, le-leb ny h d)

pub before_column : (w h nx ny : ℕ) → nx ≤ 0 → in_bounds w h nx ny ≡ false
unfolding in_bounds
before_column w h nx ny a = rw (le-ltb 0 nx a)

pub past_column : (w h nx ny : ℕ) → 0 < nx → w < nx → in_bounds w h nx ny ≡ false
unfolding in_bounds
past_column w h nx ny a b = rw (lt-ltb 0 nx a, lt-leb nx w b)

-- no row behind a test that fails
no_row : (a b : Bool) → (a && (b && false)) ≡ false
no_row true true = refl
no_row true false = refl
no_row false b = refl

pub before_row : (w h nx ny : ℕ) → ny ≤ 0 → in_bounds w h nx ny ≡ false
unfolding in_bounds
before_row w h nx ny a = rw (le-ltb 0 ny a) (no_row (ltb 0 nx) (leb nx w))

pub past_row : (w h nx ny : ℕ) → 0 < ny → h < ny → in_bounds w h nx ny ≡ false
unfolding in_bounds
past_row w h nx ny a b = rw (lt-ltb 0 ny a, lt-leb ny h b) (no_row (ltb 0 nx) (leb nx w))

pub outside_column : (w h nx ny : ℕ) → (ltb 0 nx && leb nx w) ≡ false → in_bounds w h nx ny ≡ false
unfolding in_bounds
outside_column w h nx ny e = none (ltb 0 nx) (leb nx w) (ltb 0 ny && leb ny h) e
  where
    none : (a b c : Bool) → (a && b) ≡ false → (a && (b && c)) ≡ false
    none true true c f = absurd (true≢false f)
    none true false c f = refl
    none false b c f = refl

pub known_alike : (g : Window) (xs : List Float) (st : List ℕ) (a : List Float) (o x y : ℕ) → Ordered g xs st → o ≡ order_code a → x < g.width → y < g.height → (ltb 0 o && eqb (order_in g st x y) o) ≡ true
    → (order_code a ≡ order_code (texel (cut_samples g xs) g.width g.channels x y)) × (1 ≤ order_code a)
known_alike g xs st a o x y d e l h t =
    let s = both_hold _ _ t in
    (sym e ∙ sym (eqb-true _ _ s.1) ∙ d x y l h, subst (λ (n : ℕ). 1 ≤ n) e (ltb-true 0 o s.0))

module _ (g : Window) (xs : List Float) (st : List ℕ) (d : Ordered g xs st) (a : List Float) (o x y u v : ℕ) (e : o ≡ order_code a) (i : x < g.width) (j : y < g.height) (k : u < g.width) (l : v < g.height) where
  abbrev tex : ℕ → ℕ → List Float
  tex = texel (cut_samples g xs) g.width g.channels

  pub known_doubt : {q : ℕ} → q ≡ doubt o (order_in g st u y) (order_in g st x v) (order_in g st u v)
      → (q ≡ doubt (order_code a) (order_code (texel (cut_samples g xs) g.width g.channels u y)) (order_code (texel (cut_samples g xs) g.width g.channels x v)) (order_code (texel (cut_samples g xs) g.width g.channels u v)))
      × Doubts q (four_of (texel (cut_samples g xs) g.width g.channels) a x y u v)
  known_doubt {q} f =
      let h : q ≡ doubt (order_code a) (order_code (tex u y)) (order_code (tex x v)) (order_code (tex u v)) = rw (← e, ← d u y k j, ← d x v i l, ← d u v k l) f in
      (h, subst (λ (n : ℕ). Doubts n (four_of tex a x y u v)) (sym h) (doubts (four_of tex a x y u v)))

pub four_read : (g : Window) (xs : List Float) → Sampled g xs → {row column across : ℕ} (a : List Float) (x y u v : ℕ) → x < g.width → y < g.height → u < g.width → v < g.height
    → row ≡ cell_in g u y * g.channels → column ≡ cell_in g x v * g.channels → across ≡ cell_in g u v * g.channels
    → four_at xs a row column across ≡ four_of (texel (cut_samples g xs) g.width g.channels) a x y u v
four_read g xs s a x y u v p q o l e f h = rw (texel_read g u y o q xs s e, texel_read g x v p l xs s f, texel_read g u v o l xs s h)

module _ (tex : ℕ → ℕ → List Float) (w h : ℕ) (span : Float) (protected : Bool) (m : Float) (a : List Float) where
  pub side_on : (nx ny x y : ℕ) → in_bounds w h nx ny ≡ true → nx - 1 ≡ x → ny - 1 ≡ y → verdict (has_linear_artifact span protected m a (tex x y)) (linear_tests span protected m a (tex x y)) ≡ verdict (side_artifact tex w h span protected m a nx ny) (side_tests tex w h span protected m a nx ny)
  unfolding side_artifact side_tests
  side_on nx ny x y i e f = rw (← e, ← f) (guarded_on _ _ _ i)

  pub side_off : (nx ny : ℕ) → in_bounds w h nx ny ≡ false → 0 ≡ verdict (side_artifact tex w h span protected m a nx ny) (side_tests tex w h span protected m a nx ny)
  unfolding side_artifact side_tests
  side_off nx ny i = guarded_off _ _ _ i

  linear_none : (b : List Float) → order_code a ≡ order_code b → 1 ≤ order_code a → 0 ≡ verdict (has_linear_artifact span protected m a b) (linear_tests span protected m a b)
  linear_none b e o = let s = linear_settled span protected m a b e o in sym s.1 ∙ as_clear _ s.0

  pub side_alike : (nx ny x y : ℕ) → in_bounds w h nx ny ≡ true → nx - 1 ≡ x → ny - 1 ≡ y → order_code a ≡ order_code (tex x y) → 1 ≤ order_code a → 0 ≡ verdict (side_artifact tex w h span protected m a nx ny) (side_tests tex w h span protected m a nx ny)
  side_alike nx ny x y i e f g o = linear_none (tex x y) g o ∙ side_on nx ny x y i e f

  pub across_on : (x y nx ny u v : ℕ) → in_bounds w h nx ny ≡ true → nx - 1 ≡ u → ny - 1 ≡ v
      → verdict (has_diagonal_artifact span protected m (four_of tex a x y u v)) (diagonal_tests span protected m (four_of tex a x y u v)) ≡ verdict (diagonal_artifact tex w h span protected m a x y nx ny) (across_tests tex w h span protected m a x y nx ny)
  unfolding diagonal_artifact across_tests
  across_on x y nx ny u v i e f = rw (← e, ← f) (guarded_on _ _ _ i)

  pub across_off : (x y nx ny : ℕ) → in_bounds w h nx ny ≡ false → 0 ≡ verdict (diagonal_artifact tex w h span protected m a x y nx ny) (across_tests tex w h span protected m a x y nx ny)
  unfolding diagonal_artifact across_tests
  across_off x y nx ny i = guarded_off _ _ _ i

  pub across_clear : (x y nx ny u v : ℕ) → in_bounds w h nx ny ≡ true → nx - 1 ≡ u → ny - 1 ≡ v → doubt (order_code a) (order_code (tex u y)) (order_code (tex x v)) (order_code (tex u v)) ≡ 0
      → 0 ≡ verdict (diagonal_artifact tex w h span protected m a x y nx ny) (across_tests tex w h span protected m a x y nx ny)
  across_clear x y nx ny u v i e f g =
      let s = undoubted span protected m (four_of tex a x y u v) g in
      sym s.1 ∙ as_clear _ s.0 ∙ across_on x y nx ny u v i e f
