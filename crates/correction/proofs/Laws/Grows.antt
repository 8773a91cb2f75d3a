-- Protection grows with the mode, the outlines and the lengths. Assumes nothing.
use mathlib.Core.Path.{◌≡◌, refl, sym}
use mathlib.Core.Bool.{Bool, true, false, ◌&&◌, ◌||◌, true≢false}
use mathlib.Core.List.{List, []}
use Prim.Native.Nat.{ℕ, ◌+◌, ◌-◌, ◌≤◌}
use native.Mathlib.Omega.{arith}
use lib.Dec.{T, eqb}
use lib.Ieee.{Float, binary64, le, mul, of_bits}
use borrow.Author.Tests.{eqb-true, eqb-false, eq-eqb}
use Rattle.ranges.specs.Constants.{limit_of, tolerance}
use Rattle.numbers.proofs.Laws.Order as Order
use Rattle.numbers.proofs.Laws.Order.{nought, IsFinite}
use Rattle.numbers.proofs.Laws.Monotone.{narrow_mono, mul_number, mul_mono, mul_mono_right}
use Rattle.ranges.specs.declared.config.Settings.{Settings}
use Rattle.ground.specs.Lists.{any, some}
use Rattle.inputs.specs.Bounds.{in_bounds}
use Rattle.ranges.specs.Config.{edge_priority, edge_only, side_span, diagonal_span, radius}
use Rattle.inputs.specs.Checks.{Input, bad_length}
use Rattle.correction.specs.Corners.{Segment, contour_protects, corners_protect}
use Rattle.detectors.specs.Edge.{near, extreme, pair_protects, protects_lower, protects_upper}
use Rattle.correction.specs.Edges.{as_lower, as_upper, some_lower, some_upper, some_edge, edges_protect}
use Rattle.correction.specs.Pass.{texels, edge_priority_protects, protects}
use Rattle.correction.specs.Stricter.{Outlines, NoSmaller, Stricter}
use Rattle.correction.specs.Stricter.Outlines.{none, kept, added, skipped}
use Rattle.ground.proofs.Laws.Bools.{holds, held, and_implies, or_implies, four_imply}
use Rattle.inputs.proofs.Laws.Checks.{length_bounds}
use Rattle.ranges.proofs.Laws.Falls.{Spans}
use Rattle.correction.proofs.Laws.Finite.{product_span}

-- ---- lengths, radius and spans

-- the ratio and the three lengths are as check 5 wants them
pub record InLimits (s : Settings) : Type 0 where
  pub ratio : bad_length s.ratio ≡ false
  pub horizontal : bad_length s.horizontal ≡ false
  pub vertical : bad_length s.vertical ≡ false
  pub diagonal : bad_length s.diagonal ≡ false

-- A length that passes check 5 is not negative.
pub length_not_negative : (v : Float) → bad_length v ≡ false → T (le nought v)
unfolding of_bits
length_not_negative v p = holds _ (length_bounds v p).0

-- A length that passes check 5 is finite.
pub length_finite : (v : Float) → bad_length v ≡ false → IsFinite v
unfolding of_bits
length_finite v p = Order.between_finite nought v (limit_of binary64) tt tt (length_not_negative v p) (holds _ (length_bounds v p).1)

-- The radius grows with the length.
pub radius_grows : (v v' : Float) → bad_length v ≡ false → bad_length v' ≡ false → T (le v v') → T (le (radius v) (radius v'))
unfolding radius of_bits le
radius_grows v v' p p' h =
    narrow_mono (mul binary64 tolerance v) (mul binary64 tolerance v')
    (mul_mono_right binary64 tolerance v v' tt h (mul_number binary64 tolerance v tt (length_finite v p)) (mul_number binary64 tolerance v' tt (length_finite v' p')))

product_grows : (r r' v v' : Float) → bad_length r ≡ false → bad_length r' ≡ false → bad_length v ≡ false → bad_length v' ≡ false → T (le r r') → T (le v v') → Spans (mul binary64 r v) (mul binary64 r' v')
product_grows r r' v v' p p' q q' h k =
    record {
      grows = mul_mono binary64 r r' v v' (length_not_negative r p) h (length_not_negative v q) k (mul_number binary64 r v (length_finite r p) (length_finite v q)) (mul_number binary64 r' v' (length_finite r' p') (length_finite v' q'));
      first = product_span r v p q;
      second = product_span r' v' p' q';
    }

module _ (s s' : Settings) (good : InLimits s) (good' : InLimits s') (more : NoSmaller s s') where
  -- The span of a side neighbour grows with the ratio and its length.
  pub side_span_grows : (upright : Bool) → Spans (side_span s upright) (side_span s' upright)
  unfolding side_span
  side_span_grows true = product_grows s.ratio s'.ratio s.vertical s'.vertical good.ratio good'.ratio good.vertical good'.vertical more.ratio more.vertical
  side_span_grows false = product_grows s.ratio s'.ratio s.horizontal s'.horizontal good.ratio good'.ratio good.horizontal good'.horizontal more.ratio more.horizontal

  -- The span of a diagonal neighbour grows with the ratio and its length.
  pub diagonal_span_grows : Spans (diagonal_span s) (diagonal_span s')
  unfolding diagonal_span
  diagonal_span_grows = product_grows s.ratio s'.ratio s.diagonal s'.diagonal good.ratio good'.ratio good.diagonal good'.diagonal more.ratio more.diagonal

-- ---- edges

module _ (r r' : Float) (more : T (le r r')) where
  -- What is near enough for a radius is so for a larger one.
  pub near_grows : (am bm : Float) → near r am bm ≡ true → near r' am bm ≡ true
  unfolding near
  near_grows am bm p = held _ (Order.lt_of_lt_of_le _ r r' (holds _ p) more)

  -- A texel that a pair protects it protects with a larger radius.
  pub pair_grows : (a b : List Float) (am bm : Float) (c : List Float) (m : Float) → pair_protects r a b am bm c m ≡ true → pair_protects r' a b am bm c m ≡ true
  unfolding pair_protects
  pair_grows a b am bm c m p = and_implies (near r am bm) (any 3 (extreme a b c m)) (near r' am bm) (any 3 (extreme a b c m)) (near_grows am bm) (λ q h. h) p

  module _ (tex : ℕ → ℕ → List Float) (w h x y nx ny : ℕ) where
    -- The lower texel of a pair that is protected is so with a larger radius.
    pub lower_grows : as_lower tex w h r x y nx ny ≡ true → as_lower tex w h r' x y nx ny ≡ true
    unfolding as_lower protects_lower
    lower_grows = and_implies (in_bounds w h nx ny) _ (in_bounds w h nx ny) _ (λ q. q) (λ q. pair_grows (tex x y) (tex (nx - 1) (ny - 1)) _ _ (tex x y) _)

    -- The other texel of a pair that is protected is so with a larger radius.
    pub upper_grows : as_upper tex w h r x y nx ny ≡ true → as_upper tex w h r' x y nx ny ≡ true
    unfolding as_upper protects_upper
    upper_grows = and_implies (in_bounds w h nx ny) _ (in_bounds w h nx ny) _ (λ q. q) (λ q. pair_grows (tex (nx - 1) (ny - 1)) (tex x y) _ _ (tex x y) _)

module _ (tex : ℕ → ℕ → List Float) (w h : ℕ) (rh rh' rv rv' rd rd' : Float) (row : T (le rh rh')) (column : T (le rv rv')) (slant : T (le rd rd')) (x y : ℕ) where
  some_lower_grows : some_lower tex w h rh rv rd x y ≡ true → some_lower tex w h rh' rv' rd' x y ≡ true
  unfolding some_lower
  some_lower_grows = four_imply _ _ _ _ _ _ _ _ (lower_grows rh rh' row tex w h x y (x + 2) (y + 1)) (lower_grows rv rv' column tex w h x y (x + 1) (y + 2)) (lower_grows rd rd' slant tex w h x y (x + 2) (y + 2)) (lower_grows rd rd' slant tex w h x y x (y + 2))

  some_upper_grows : some_upper tex w h rh rv rd x y ≡ true → some_upper tex w h rh' rv' rd' x y ≡ true
  unfolding some_upper
  some_upper_grows = four_imply _ _ _ _ _ _ _ _ (upper_grows rh rh' row tex w h x y x (y + 1)) (upper_grows rv rv' column tex w h x y (x + 1) y) (upper_grows rd rd' slant tex w h x y x y) (upper_grows rd rd' slant tex w h x y (x + 2) y)

  -- A texel that some pair protects some pair protects with larger radii.
  pub some_edge_grows : some_edge tex w h rh rv rd x y ≡ true → some_edge tex w h rh' rv' rd' x y ≡ true
  unfolding some_edge
  some_edge_grows = or_implies _ _ _ _ some_lower_grows some_upper_grows

-- A texel that edges protect they protect with larger lengths.
pub edges_protect_grows : (tex : ℕ → ℕ → List Float) (w h : ℕ) (s s' : Settings) → InLimits s → InLimits s' → NoSmaller s s' → (x y : ℕ) → edges_protect tex w h s x y ≡ true → edges_protect tex w h s' x y ≡ true
unfolding edges_protect
edges_protect_grows tex w h s s' good good' more x y =
    some_edge_grows tex w h (radius s.horizontal) (radius s'.horizontal) (radius s.vertical) (radius s'.vertical) (radius s.diagonal) (radius s'.diagonal)
    (radius_grows s.horizontal s'.horizontal good.horizontal good'.horizontal more.horizontal)
    (radius_grows s.vertical s'.vertical good.vertical good'.vertical more.vertical)
    (radius_grows s.diagonal s'.diagonal good.diagonal good'.diagonal more.diagonal) x y

-- ---- corners

-- An empty contour protects nothing.
pub empty_protects_nothing : (x y : ℕ) → contour_protects x y [] ≡ false
unfolding contour_protects any
empty_protects_nothing x y = refl

or_right : (a b : Bool) → b ≡ true → (a || b) ≡ true
or_right true b p = refl
or_right false b p = p

or_none : (a b : Bool) → a ≡ false → (a || b) ≡ true → b ≡ true
or_none true b p q = absurd (true≢false p)
or_none false b p q = q

-- A texel that corners protect they protect with added outlines.
pub corners_protect_grows : (cs ds : List (List Segment)) → Outlines cs ds → (x y : ℕ) → corners_protect cs x y ≡ true → corners_protect ds x y ≡ true
unfolding corners_protect some
corners_protect_grows cs ds none x y p = p
corners_protect_grows cs ds (kept {cs = es} {ds = fs} c o) x y p = or_implies (contour_protects x y c) _ (contour_protects x y c) _ (λ q. q) (corners_protect_grows es fs o x y) p
corners_protect_grows cs ds (added {ds = fs} d o) x y p = or_right (contour_protects x y d) _ (corners_protect_grows cs fs o x y p)
corners_protect_grows cs ds (skipped {cs = es} o) x y p = corners_protect_grows es ds o x y (or_none (contour_protects x y []) _ (empty_protects_nothing x y) p)

-- ---- the mode

mode_grows : (m n : ℕ) (a b : Bool) → m ≤ n → n ≤ 3 → (a ≡ true → b ≡ true) → (eqb m edge_only || eqb m edge_priority && a) ≡ true → (eqb n edge_only || eqb n edge_priority && b) ≡ true
mode_grows m n a b h k f = first (eqb m 3) (eqb m 2) refl refl
  where
    strictest : n ≡ 3 → (eqb n 3 || eqb n 2 && b) ≡ true
    strictest e = rw (eq-eqb n 3 e)

    last : (t : Bool) → eqb n 3 ≡ t → 2 ≤ n → b ≡ true → (eqb n 3 || eqb n 2 && b) ≡ true
    last true e l q = strictest (eqb-true n 3 e)
    last false e l q =
        let d = eqb-false n 3 e in
        let c : n ≡ 2 = omega (arith, d) in
        or_right (eqb n 3) _ (rw (eq-eqb n 2 c, q))

    first : (t u : Bool) → eqb m 3 ≡ t → eqb m 2 ≡ u → (t || u && a) ≡ true → (eqb n 3 || eqb n 2 && b) ≡ true
    first true u e d p = let c = eqb-true m 3 e in strictest (omega (arith, c))
    first false true e d p = let c = eqb-true m 2 d in last (eqb n 3) refl (omega (arith, c)) (f p)
    first false false e d p = absurd (true≢false (sym p))

-- Inputs of which one is stricter have the same texels.
pub texels_same : (i j : Input) → Stricter i j → texels i ≡ texels j
unfolding texels
texels_same i j s = rw (s.samples, s.width, s.channels)

-- A texel that the pass protects it protects under a stricter input.
pub protects_grows : (i j : Input) → Stricter i j → InLimits i.settings → InLimits j.settings → j.mode ≤ 3 → (x y : ℕ) → protects i x y ≡ true → protects j x y ≡ true
unfolding protects edge_priority_protects
protects_grows i j s good good' top x y =
    mode_grows i.mode j.mode _ _ s.mode top
    (or_implies _ _ _ _ (corners_protect_grows _ _ s.outlines x y)
    (rw (texels_same i j s, s.width, s.height) (edges_protect_grows (texels j) j.width j.height i.settings j.settings good good' s.settings x y)))
