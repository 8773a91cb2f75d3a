-- Where the settings grow and protection grows, a texel's verdict falls. Assumes nothing.
use mathlib.Core.Path.{◌≡◌}
use mathlib.Core.Bool.{Bool, true, false}
use mathlib.Core.List.{List, [], ◌∷◌}
use Prim.Native.Nat.{ℕ, ◌+◌, ◌-◌}
use lib.Ieee.{Float}
use Rattle.ground.proofs.Laws.Bools.{and_implies, or_implies, four_imply}
use Rattle.ranges.specs.declared.config.Settings.{Settings}
use Rattle.ranges.specs.Config.{side_span, diagonal_span}
use Rattle.detectors.specs.Texel.{texel_median}
use Rattle.ranges.proofs.Laws.Falls.{Spans}
use Rattle.detectors.proofs.Laws.Falls.{has_linear_artifact_falls, has_diagonal_artifact_falls}
use Rattle.inputs.specs.Bounds.{in_bounds}
use Rattle.correction.specs.Errors.{side_artifact, some_side, diagonal_artifact, some_diagonal, some_artifact, has_artifact}
use Rattle.correction.specs.Stricter.{NoSmaller}
use Rattle.correction.proofs.Laws.Grows.{InLimits, side_span_grows, diagonal_span_grows}

module _ (span span' : Float) (wider : Spans span span') (protected protected' : Bool) (more : protected ≡ true → protected' ≡ true) where
  side_artifact_falls : (tex : ℕ → ℕ → List Float) (w h : ℕ) (m : Float) (c : List Float) (nx ny : ℕ) → side_artifact tex w h span' protected' m c nx ny ≡ true → side_artifact tex w h span protected m c nx ny ≡ true
  unfolding side_artifact
  side_artifact_falls tex w h m c nx ny = and_implies (in_bounds w h nx ny) _ (in_bounds w h nx ny) _ (λ q. q) (λ q. has_linear_artifact_falls span span' wider protected protected' more m c (tex (nx - 1) (ny - 1)))

  diagonal_artifact_falls : (tex : ℕ → ℕ → List Float) (w h : ℕ) (m : Float) (c : List Float) (x y nx ny : ℕ) → diagonal_artifact tex w h span' protected' m c x y nx ny ≡ true → diagonal_artifact tex w h span protected m c x y nx ny ≡ true
  unfolding diagonal_artifact
  diagonal_artifact_falls tex w h m c x y nx ny =
      and_implies (in_bounds w h nx ny) _ (in_bounds w h nx ny) _ (λ q. q) (λ q. has_diagonal_artifact_falls span span' wider protected protected' more m (c ∷ tex (nx - 1) y ∷ tex x (ny - 1) ∷ tex (nx - 1) (ny - 1) ∷ []))

-- ---- the verdict on a texel

module _ (tex : ℕ → ℕ → List Float) (w h : ℕ) (s s' : Settings) (good : InLimits s) (good' : InLimits s') (wider : NoSmaller s s') (protected protected' : Bool) (more : protected ≡ true → protected' ≡ true) (x y : ℕ) where
  side_falls : (upright : Bool) (m : Float) (c : List Float) (nx ny : ℕ) → side_artifact tex w h (side_span s' upright) protected' m c nx ny ≡ true → side_artifact tex w h (side_span s upright) protected m c nx ny ≡ true
  side_falls upright m c nx ny = side_artifact_falls (side_span s upright) (side_span s' upright) (side_span_grows s s' good good' wider upright) protected protected' more tex w h m c nx ny

  slant_falls : (m : Float) (c : List Float) (nx ny : ℕ) → diagonal_artifact tex w h (diagonal_span s') protected' m c x y nx ny ≡ true → diagonal_artifact tex w h (diagonal_span s) protected m c x y nx ny ≡ true
  slant_falls m c nx ny = diagonal_artifact_falls (diagonal_span s) (diagonal_span s') (diagonal_span_grows s s' good good' wider) protected protected' more tex w h m c x y nx ny

  some_artifact_falls : (m : Float) (c : List Float) → some_artifact tex w h s' protected' m c x y ≡ true → some_artifact tex w h s protected m c x y ≡ true
  unfolding some_artifact some_side some_diagonal
  some_artifact_falls m c =
      or_implies _ _ _ _
      (four_imply _ _ _ _ _ _ _ _ (side_falls false m c x (y + 1)) (side_falls true m c (x + 1) y) (side_falls false m c (x + 2) (y + 1)) (side_falls true m c (x + 1) (y + 2)))
      (four_imply _ _ _ _ _ _ _ _ (slant_falls m c x y) (slant_falls m c (x + 2) y) (slant_falls m c x (y + 2)) (slant_falls m c (x + 2) (y + 2)))

  -- A texel with an artifact under larger settings and more protection has one under smaller settings and less.
  pub has_artifact_falls : has_artifact tex w h s' protected' x y ≡ true → has_artifact tex w h s protected x y ≡ true
  unfolding has_artifact
  has_artifact_falls = some_artifact_falls (texel_median (tex x y)) (tex x y)
