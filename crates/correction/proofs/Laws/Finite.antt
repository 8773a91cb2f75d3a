-- On accepted input every value that a range test compares is finite. Assumes nothing.
use mathlib.Core.Path.{◌≡◌, refl, subst}
use mathlib.Core.Bool.{Bool, true, false}
use Prim.Native.Nat.{ℕ, ◌+◌, ◌-◌, ◌*◌, ◌<◌, zero-le}
use native.Mathlib.Nat.{le_of_eq}
use native.Mathlib.Omega.{arith}
use lib.Dec.{T}
use lib.ListN.{length}
use lib.IntN.{pos}
use lib.Ieee.{Float, fin, Format, binary32, binary64, le, lt, mul, of_bits}
use borrow.Author.Tests.{eqb-true}
use Rattle.numbers.specs.Constants.{zero_of, one_of}
use Rattle.ranges.specs.Constants.{limit_of}
use Rattle.numbers.specs.Scalar.{abs_of}
use Rattle.numbers.proofs.Laws.Order.{nought, abs_le}
use Rattle.numbers.proofs.Laws.Monotone.{mul_not_negative}
use Rattle.numbers.proofs.Laws.Bounds.{Within, within_no_nan, within_of_le, between_within, mul_within}
use Rattle.ground.proofs.Laws.Bools.{holds}
use Rattle.ranges.specs.declared.config.Settings.{Settings}
use Rattle.ranges.specs.Config.{side_span, diagonal_span}
use Rattle.detectors.specs.Texel.{texel_median}
use Rattle.ranges.specs.Classifier.{compared}
use Rattle.detectors.specs.Pairs.{inside, mixed_median}
use Rattle.detectors.specs.Diagonal.{curve_median}
use Rattle.ranges.proofs.Laws.Finite.{Span, AllFinite}
use Rattle.detectors.proofs.Laws.Finite.{SmallTexel, SmallFour, linear_finite, diagonal_finite, upper_finite, lower_finite}
use Rattle.correction.specs.Bitmap.{texel}
use Rattle.inputs.specs.Bounds.{in_bounds}
use Rattle.inputs.specs.Checks.{Input, bad_length, oversize, refusal_number, accepted}
use Rattle.correction.specs.Pass.{texels, four_at}
use Rattle.correction.proofs.bitmap.Sizes.{lies}
use Rattle.inputs.proofs.Laws.Checks.{sizes, Passed, passed, length_bounds, size_bounds}
use Rattle.inputs.proofs.Laws.Bounds as places

limit_is : (f : Format) → limit_of f ≡ fin false 1 (pos 20)
unfolding of_bits
limit_is binary32 = refl
limit_is binary64 = refl

-- a value whose size is at most the limit is at most 2 ^ 20 in size
within_limit : (f : Format) (x : Float) → T (le (abs_of x) (limit_of f)) → Within 20 x
within_limit f x h = within_of_le 20 x (subst (λ (y : Float). T (le (abs_of x) y)) (limit_is f) h)

-- A sample that is not oversize is at most 2 ^ 20 in size.
pub sample_within : (v : Float) → oversize binary32 v ≡ false → Within 20 v
sample_within v p =
    let b = size_bounds binary32 v p in
    within_limit binary32 v (abs_le v (limit_of binary32) (holds _ b.0) (holds _ b.1))

-- Every texel of an accepted bitmap is small.
pub small_texel : (i : Input) → Passed i → (x y : ℕ) → x < i.width → y < i.height → SmallTexel (texels i x y)
unfolding texels texel
small_texel i p x y inX inY =
    let z = sizes i.width i.height i.channels (length i.samples) (length i.stencil) p.sizes in
    let l = lies i.width i.height i.channels x y (length i.samples) (length i.stencil) z inX inY in
    record {
      zeroth = sample_within _ (p.samples ((y * i.width + x) * i.channels + 0) (omega (arith, z.channels.0, l.last)));
      first = sample_within _ (p.samples ((y * i.width + x) * i.channels + 1) (omega (arith, z.channels.0, l.last)));
      second = sample_within _ (p.samples ((y * i.width + x) * i.channels + 2) (omega (arith, z.channels.0, l.last)));
    }

good_length : (v : Float) → bad_length v ≡ false → T (le nought v) × Within 20 v
unfolding of_bits
good_length v p =
    let b = length_bounds v p in
    (holds _ b.0, between_within 20 nought v (limit_of binary64) zero-le (le_of_eq refl) (holds _ b.0) (holds _ b.1))

-- The product of a good ratio and a good length is a span.
pub product_span : (r l : Float) → bad_length r ≡ false → bad_length l ≡ false → Span (mul binary64 r l)
product_span r l p q =
    let a = good_length r p in
    let b = good_length l q in
    let w : Within 40 (mul binary64 r l) = mul_within binary64 20 20 r l (omega arith) a.1 b.1 in
    record { above = mul_not_negative binary64 r l a.0 b.0 (within_no_nan 40 (mul binary64 r l) w); bounded = w }

-- So the span of a side neighbour is one,
pub side_span_law : (s : Settings) (upright : Bool) → bad_length s.ratio ≡ false → bad_length s.horizontal ≡ false → bad_length s.vertical ≡ false → Span (side_span s upright)
unfolding side_span
side_span_law s true p q r = product_span s.ratio s.vertical p r
side_span_law s false p q r = product_span s.ratio s.horizontal p q

-- and so is that of a diagonal one.
pub diagonal_span_law : (s : Settings) → bad_length s.ratio ≡ false → bad_length s.diagonal ≡ false → Span (diagonal_span s)
unfolding diagonal_span
diagonal_span_law s p q = product_span s.ratio s.diagonal p q

-- ---- the pass
-- The tests of texel x, y against each neighbour at column nx and row ny, counted from 1, compare finite values at each t that is inside,
-- and at each turning point e strictly between 0 and 1: `side` those of a side neighbour, `root` that of a diagonal one,
-- `upper` and `lower` those with one end moved to e.
pub record Compares (i : Input) (x y : ℕ) : Type 0 where
  pub side : (upright : Bool) (nx ny : ℕ) (t : Float) → in_bounds i.width i.height nx ny ≡ true → inside t ≡ true → AllFinite (compared (side_span i.settings upright) (zero_of binary64) (one_of binary64) t (texel_median (texels i x y)) (texel_median (texels i (nx - 1) (ny - 1))) (mixed_median (texels i x y) (texels i (nx - 1) (ny - 1)) t))
  pub root : (nx ny : ℕ) (t : Float) → in_bounds i.width i.height nx ny ≡ true → inside t ≡ true → AllFinite (compared (diagonal_span i.settings) (zero_of binary64) (one_of binary64) t (texel_median (texels i x y)) (texel_median (texels i (nx - 1) (ny - 1))) (curve_median (four_at i x y nx ny) t))
  pub upper : (nx ny : ℕ) (t e : Float) → in_bounds i.width i.height nx ny ≡ true → inside t ≡ true → lt (zero_of binary64) e ≡ true → lt e (one_of binary64) ≡ true → lt t e ≡ true → AllFinite (compared (diagonal_span i.settings) (zero_of binary64) e t (texel_median (texels i x y)) (curve_median (four_at i x y nx ny) e) (curve_median (four_at i x y nx ny) t))
  pub lower : (nx ny : ℕ) (t e : Float) → in_bounds i.width i.height nx ny ≡ true → inside t ≡ true → lt (zero_of binary64) e ≡ true → lt e (one_of binary64) ≡ true → lt t e ≡ false → AllFinite (compared (diagonal_span i.settings) e (one_of binary64) t (curve_median (four_at i x y nx ny) e) (texel_median (texels i (nx - 1) (ny - 1))) (curve_median (four_at i x y nx ny) t))

pub small_four : (i : Input) → Passed i → (x y nx ny : ℕ) → x < i.width → y < i.height → in_bounds i.width i.height nx ny ≡ true → SmallFour (four_at i x y nx ny)
small_four i p x y nx ny inX inY e =
    let n = places.inside i.width i.height nx ny e in
    record {
      a = small_texel i p x y inX inY;
      b = small_texel i p (nx - 1) y n.column inY;
      c = small_texel i p x (ny - 1) inX n.row;
      d = small_texel i p (nx - 1) (ny - 1) n.column n.row;
    }

-- In an accepted input every value that a range test compares is finite.
pub pass_compares : (i : Input) → accepted i ≡ true → (x y : ℕ) → x < i.width → y < i.height → Compares i x y
unfolding accepted
pass_compares i ok x y inX inY =
    let p = passed i (eqb-true (refusal_number i) 0 ok) in
    let f = small_four i p x y in
    let d = diagonal_span_law i.settings p.ratio p.diagonal in
    record {
      side = λ upright nx ny t e. linear_finite (side_span i.settings upright) (texels i x y) (texels i (nx - 1) (ny - 1)) t (side_span_law i.settings upright p.ratio p.horizontal p.vertical) (f nx ny inX inY e).a (f nx ny inX inY e).d;
      root = λ nx ny t e. diagonal_finite (diagonal_span i.settings) (four_at i x y nx ny) t d (f nx ny inX inY e);
      upper = λ nx ny t e b h q r o. upper_finite (diagonal_span i.settings) (four_at i x y nx ny) t e d (f nx ny inX inY b) h q r;
      lower = λ nx ny t e b h q r o. lower_finite (diagonal_span i.settings) (four_at i x y nx ny) t e d (f nx ny inX inY b) h q r;
    }
