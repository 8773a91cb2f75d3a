-- Where a span grows and protection grows, the range test finds no more. Assumes nothing.
use Rattle.std.proofs.Common.{◌≡◌, Bool, true, not, T, arith}
use lib.Ieee.{Float, nan, inf, fin, binary64, le, ne, neg, add, sub, mul}
use Rattle.numbers.specs.Scalar.{median_of}
use Rattle.numbers.proofs.Laws.Order as Order
use Rattle.numbers.proofs.Laws.Order.{IsFinite}
use Rattle.numbers.proofs.Laws.Monotone.{add_number, add_mono_right, sub_number, sub_anti_right, mul_mono_right}
use Rattle.numbers.proofs.Laws.Bounds.{Within, within_finite, within_no_nan, mul_within}
use Rattle.ground.proofs.Laws.Bools.{holds, held, and_implies, or_implies, not_implies}
use Rattle.ranges.specs.Classifier.{falls_below, rises_above, lies_outside, candidate, within, in_range, range_test}
use Rattle.ranges.proofs.Laws.Finite.{Weight, Span, Gap, gap}

-- a span and one that is no smaller
pub record Spans (span span' : Float) : Type 0 where
  pub grows : T (le span span')
  pub first : Span span
  pub second : Span span'

-- ---- candidates

-- A candidate under more protection is one under less.
pub candidate_falls : (protected protected' : Bool) → (protected ≡ true → protected' ≡ true) → (am bm xm : Float) → candidate protected' am bm xm ≡ true → candidate protected am bm xm ≡ true
unfolding candidate lies_outside
candidate_falls protected protected' more am bm xm =
    or_implies (falls_below am bm xm) _ (falls_below am bm xm) _ (λ q. q)
    (or_implies (rises_above am bm xm) _ (rises_above am bm xm) _ (λ q. q)
    (and_implies (not protected') (ne (median_of am bm xm) xm) (not protected) (ne (median_of am bm xm) xm) (not_implies protected protected' more) (λ q h. h)))

-- ---- ranges

low_end : (x m d d' : Float) → IsFinite d → IsFinite d' → T (le d d') → T (le (sub binary64 m d) x) → T (le (sub binary64 m d') x)
unfolding sub neg add
low_end x nan (fin s n e) (fin s' n' e') i i' h p = p
low_end x (inf t) (fin s n e) (fin s' n' e') i i' h p = p
low_end x (fin t k f) d d' i i' h p = Order.le_trans _ _ x (sub_anti_right binary64 (fin t k f) d d' h (sub_number binary64 (fin t k f) d tt i) (sub_number binary64 (fin t k f) d' tt i')) p
low_end x nan nan d' i i' h p = elim i [ ]
low_end x nan (inf _) d' i i' h p = elim i [ ]
low_end x nan (fin s n e) nan i i' h p = elim i' [ ]
low_end x nan (fin s n e) (inf _) i i' h p = elim i' [ ]
low_end x (inf t) nan d' i i' h p = elim i [ ]
low_end x (inf t) (inf _) d' i i' h p = elim i [ ]
low_end x (inf t) (fin s n e) nan i i' h p = elim i' [ ]
low_end x (inf t) (fin s n e) (inf _) i i' h p = elim i' [ ]

high_end : (x m d d' : Float) → IsFinite d → IsFinite d' → T (le d d') → T (le x (add binary64 m d)) → T (le x (add binary64 m d'))
unfolding add
high_end x nan (fin s n e) (fin s' n' e') i i' h p = p
high_end x (inf t) (fin s n e) (fin s' n' e') i i' h p = p
high_end x (fin t k f) d d' i i' h p = Order.le_trans x _ _ p (add_mono_right binary64 (fin t k f) d d' h (add_number binary64 (fin t k f) d tt i) (add_number binary64 (fin t k f) d' tt i'))
high_end x nan nan d' i i' h p = elim i [ ]
high_end x nan (inf _) d' i i' h p = elim i [ ]
high_end x nan (fin s n e) nan i i' h p = elim i' [ ]
high_end x nan (fin s n e) (inf _) i i' h p = elim i' [ ]
high_end x (inf t) nan d' i i' h p = elim i [ ]
high_end x (inf t) (inf _) d' i i' h p = elim i [ ]
high_end x (inf t) (fin s n e) nan i i' h p = elim i' [ ]
high_end x (inf t) (fin s n e) (inf _) i i' h p = elim i' [ ]

-- What lies within m ± d lies within m ± d' for a larger d', whatever m is.
pub within_grows : (x m d d' : Float) → IsFinite d → IsFinite d' → T (le d d') → within x m d ≡ true → within x m d' ≡ true
unfolding within
within_grows x m d d' i i' h =
    and_implies (le (sub binary64 m d) x) (le x (add binary64 m d)) (le (sub binary64 m d') x) (le x (add binary64 m d'))
    (λ p. held _ (low_end x m d d' i i' h (holds _ p))) (λ q p. held _ (high_end x m d d' i i' h (holds _ p)))

-- 0 ≤ at ≤ xt ≤ bt ≤ 1
pub record Between (at xt bt : Float) : Type 0 where
  pub start : Weight at
  pub point : Weight xt
  pub end : Weight bt
  pub lower : T (le at xt)
  pub upper : T (le xt bt)

reach : (d span span' : Float) → Gap d → Spans span span' → IsFinite (mul binary64 d span) × IsFinite (mul binary64 d span') × T (le (mul binary64 d span) (mul binary64 d span'))
reach d span span' g s =
    let u : Within 41 (mul binary64 d span) = mul_within binary64 1 40 d span (omega arith) g.bounded s.first.bounded in
    let v : Within 41 (mul binary64 d span') = mul_within binary64 1 40 d span' (omega arith) g.bounded s.second.bounded in
    (within_finite 41 (mul binary64 d span) u, within_finite 41 (mul binary64 d span') v, mul_mono_right binary64 d span span' g.above s.grows (within_no_nan 41 (mul binary64 d span) u) (within_no_nan 41 (mul binary64 d span') v))

module _ (span span' : Float) (more : Spans span span') where
  -- What lies in range lies in range with a larger span.
  pub in_range_grows : (at bt xt am bm xm : Float) → Between at xt bt → in_range span at bt xt am bm xm ≡ true → in_range span' at bt xt am bm xm ≡ true
  unfolding in_range
  in_range_grows at bt xt am bm xm b =
      let r = reach (sub binary64 xt at) span span' (gap xt at b.point b.start b.lower) more in
      let s = reach (sub binary64 bt xt) span span' (gap bt xt b.end b.point b.upper) more in
      and_implies (within xm am (mul binary64 (sub binary64 xt at) span)) _ (within xm am (mul binary64 (sub binary64 xt at) span')) _
      (within_grows xm am _ _ r.0 r.1 r.2) (λ q. within_grows xm bm _ _ s.0 s.1 s.2)

-- ---- the range test

module _ (span span' : Float) (wider : Spans span span') (protected protected' : Bool) (more : protected ≡ true → protected' ≡ true) where
  -- An artifact under a larger span and more protection is one under less of both.
  pub range_test_falls : (at bt xt am bm xm : Float) → Between at xt bt → range_test span' protected' at bt xt am bm xm ≡ true → range_test span protected at bt xt am bm xm ≡ true
  unfolding range_test
  range_test_falls at bt xt am bm xm b =
      and_implies (candidate protected' am bm xm) _ (candidate protected am bm xm) _ (candidate_falls protected protected' more am bm xm)
      (λ q. not_implies (in_range span at bt xt am bm xm) (in_range span' at bt xt am bm xm) (in_range_grows span span' wider at bt xt am bm xm b))
