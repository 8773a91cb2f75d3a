-- Where a span grows and protection grows, a detector finds no more. Assumes nothing.
use Rattle.std.proofs.Common.{◌≡◌, ℕ, Bool, true, false, not, T, List, [], get_or, sym, subst}
use lib.Ieee.{Float, binary64, lt}
use Rattle.numbers.specs.Constants.{zero_of, one_of}
use Rattle.numbers.proofs.Laws.Order as Order
use Rattle.numbers.proofs.Laws.Bounds.{within_no_nan}
use Rattle.ground.proofs.Laws.Bools.{holds, and_implies, or_implies, cond_implies}
use Rattle.ground.proofs.Laws.Search.{any_implies, some_implies}
use Rattle.detectors.specs.Texel.{texel_median}
use Rattle.detectors.specs.Pairs.{guard, inside, next, difference}
use Rattle.detectors.specs.Linear.{crossing, linear_at, linear_pair, linear_pairs, has_linear_artifact}
use Rattle.detectors.specs.Diagonal.{turning_point, curve_median, pair_roots, turns, moved_end, turning_test, root_tests, diagonal_at, diagonal_pair, diagonal_pairs, has_diagonal_artifact}
use Rattle.ranges.proofs.Laws.Finite.{Weight, zero_weight, one_weight}
use Rattle.ranges.proofs.Laws.Falls.{Spans, Between, range_test_falls}
use Rattle.detectors.proofs.Laws.Finite.{inside_weight, turns_weight}

-- ---- the detectors

-- A crossing lies between 0 and 1,
whole_way : (t : Float) → Weight t → Between (zero_of binary64) t (one_of binary64)
whole_way t w = record { start = zero_weight; point = w; end = one_weight; lower = w.low; upper = w.high }

-- and on one side of a turning point.
below_turn : (t e : Float) → Weight t → Weight e → lt t e ≡ true → Between (zero_of binary64) t e
below_turn t e w v q = record { start = zero_weight; point = w; end = v; lower = w.low; upper = Order.le_of_lt t e (holds _ q) }

above_turn : (t e : Float) → Weight t → Weight e → lt t e ≡ false → Between e t (one_of binary64)
above_turn t e w v q =
    record { start = v; point = w; end = one_weight; lower = Order.le_of_not_lt t e (within_no_nan 0 t w.bounded) (within_no_nan 0 e v.bounded) (subst (λ (b : Bool). T (not b)) (sym q) tt); upper = w.high }

module _ (span span' : Float) (wider : Spans span span') (protected protected' : Bool) (more : protected ≡ true → protected' ≡ true) where
  linear_at_falls : (am bm : Float) (a b : List Float) (t : Float) → linear_at span' protected' am bm a b t ≡ true → linear_at span protected am bm a b t ≡ true
  unfolding linear_at
  linear_at_falls am bm a b t = and_implies (inside t) _ (inside t) _ (λ q. q) (λ q. range_test_falls span span' wider protected protected' more (zero_of binary64) (one_of binary64) t am bm _ (whole_way t (inside_weight t q)))

  linear_pairs_fall : (am bm : Float) (a b : List Float) → linear_pairs span' protected' am bm a b ≡ true → linear_pairs span protected am bm a b ≡ true
  unfolding linear_pairs linear_pair
  linear_pairs_fall am bm a b = and_implies (guard am bm) _ (guard am bm) _ (λ q. q) (λ q. any_implies 3 _ _ (λ p. linear_at_falls am bm a b (crossing (difference a p) (difference b p))))

  -- What the linear detector finds under a larger span and more protection it finds under less of both.
  pub has_linear_artifact_falls : (am : Float) (a b : List Float) → has_linear_artifact span' protected' am a b ≡ true → has_linear_artifact span protected am a b ≡ true
  unfolding has_linear_artifact
  has_linear_artifact_falls am a b = linear_pairs_fall am (texel_median b) a b

  moved_end_falls : (am dm em e t xm : Float) → Weight e → Weight t → moved_end span' protected' am dm em e t xm ≡ true → moved_end span protected am dm em e t xm ≡ true
  unfolding moved_end
  moved_end_falls am dm em e t xm v w =
      cond_implies (lt t e) _ _ _ _
      (λ q. range_test_falls span span' wider protected protected' more (zero_of binary64) e t am em xm (below_turn t e w v q))
      (λ q. range_test_falls span span' wider protected protected' more e (one_of binary64) t em dm xm (above_turn t e w v q))

  turning_test_falls : (am dm : Float) (m : List (List Float)) (t xm e : Float) → Weight t → turning_test span' protected' am dm m t xm e ≡ true → turning_test span protected am dm m t xm e ≡ true
  unfolding turning_test
  turning_test_falls am dm m t xm e w = and_implies (turns e) _ (turns e) _ (λ q. q) (λ q. moved_end_falls am dm (curve_median m e) e t xm (turns_weight e q) w)

  root_tests_fall : (am dm : Float) (m : List (List Float)) (p : ℕ) (t xm : Float) → Weight t → root_tests span' protected' am dm m p t xm ≡ true → root_tests span protected am dm m p t xm ≡ true
  unfolding root_tests
  root_tests_fall am dm m p t xm w =
      or_implies _ _ _ _ (range_test_falls span span' wider protected protected' more (zero_of binary64) (one_of binary64) t am dm xm (whole_way t w))
      (or_implies _ _ _ _ (turning_test_falls am dm m t xm (turning_point m p) w) (turning_test_falls am dm m t xm (turning_point m (next p)) w))

  diagonal_at_falls : (am dm : Float) (m : List (List Float)) (p : ℕ) (t : Float) → diagonal_at span' protected' am dm m p t ≡ true → diagonal_at span protected am dm m p t ≡ true
  unfolding diagonal_at
  diagonal_at_falls am dm m p t = and_implies (inside t) _ (inside t) _ (λ q. q) (λ q. root_tests_fall am dm m p t (curve_median m t) (inside_weight t q))

  diagonal_pairs_fall : (am dm : Float) (m : List (List Float)) → diagonal_pairs span' protected' am dm m ≡ true → diagonal_pairs span protected am dm m ≡ true
  unfolding diagonal_pairs diagonal_pair
  diagonal_pairs_fall am dm m = and_implies (guard am dm) _ (guard am dm) _ (λ q. q) (λ q. any_implies 3 _ _ (λ p. some_implies _ _ (diagonal_at_falls am dm m p) (pair_roots m p)))

  -- What the diagonal detector finds under a larger span and more protection it finds under less of both.
  pub has_diagonal_artifact_falls : (am : Float) (m : List (List Float)) → has_diagonal_artifact span' protected' am m ≡ true → has_diagonal_artifact span protected am m ≡ true
  unfolding has_diagonal_artifact
  has_diagonal_artifact_falls am m = diagonal_pairs_fall am (texel_median (get_or m 3 [])) m
