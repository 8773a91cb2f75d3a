-- `correction::corners::protect_corners` meets its contract: after each turn the stencil is painted by the contours before the next. Assumes nothing.
use mathlib.Core.Path.{◌≡◌}
use mathlib.Core.Bool.{Bool}
use mathlib.Core.List.{List}
use Prim.Native.Nat.{ℕ, ◌/◌, ◌%◌, ◌≤◌}
use lib.ListN.{length, get_or}
use lib.Ieee.{Float}
use Rattle.ground.specs.Lists.{any}
use Rattle.inputs.specs.declared.sizes.Window.{Window}
use Rattle.correction.specs.Inner.{at_corner}
use Rattle.correction.specs.Numbered.{start_at, contour_hits}
use Rattle.correction.proofs.corners.Strokes.{Painted}
use Rattle.correction.proofs.corners.protect_corners.Given as goal

-- contour j
abbrev pub nth : ℕ → List ℕ → List Float → List ℕ → ℕ → ℕ → Bool
nth w colours coords ends j k = contour_hits colours coords (start_at ends j) (get_or ends j 0) (k % w) (k / w)

pub record Inv (st₀ : List ℕ) (g : Window) (colours : List ℕ) (coords : List Float) (ends st : List ℕ) (from c : ℕ) : Type 0 where
  pub high : c ≤ length ends
  pub start : from ≡ start_at ends c
  pub done : Painted at_corner g (λ k. any c (λ j. nth g.width colours coords ends j k)) st₀ st

abbrev pub invariant-loop-end : goal.invariant-loop-end
invariant-loop-end l = Inv l.initial.stencil l.b l.contours.outline.colours.now l.contours.outline.coords.now l.contours.outline.ends.now l.stencil l.from l.end-index
