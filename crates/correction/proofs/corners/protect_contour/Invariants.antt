-- `correction::corners::protect_contour` meets its contract: after each turn the stencil is painted by the segments before i. Assumes nothing.
use mathlib.Core.Bool.{Bool}
use mathlib.Core.List.{List}
use Prim.Native.Nat.{ℕ, ◌+◌, ◌-◌, ◌/◌, ◌%◌, ◌≤◌}
use lib.Ieee.{Float}
use Rattle.ground.specs.Lists.{any}
use Rattle.inputs.specs.declared.sizes.Window.{Window}
use Rattle.correction.specs.Inner.{at_corner}
use Rattle.correction.specs.Numbered.{corner_hits}
use Rattle.correction.proofs.corners.Strokes.{Painted}
use Rattle.correction.proofs.corners.protect_contour.Given as goal

-- segment from + j
abbrev pub nth : ℕ → List ℕ → List Float → ℕ → ℕ → ℕ → ℕ → Bool
nth w colours coords from end j k = corner_hits colours coords from end (from + j) (k % w) (k / w)

pub record Inv (st₀ : List ℕ) (g : Window) (colours : List ℕ) (coords : List Float) (from end : ℕ) (st : List ℕ) (i : ℕ) : Type 0 where
  pub low : from ≤ i
  pub high : i ≤ end
  pub done : Painted at_corner g (λ k. any (i - from) (λ j. nth g.width colours coords from end j k)) st₀ st

abbrev pub invariant-loop-i : goal.invariant-loop-i
invariant-loop-i l = Inv l.initial.stencil l.b l.contours.outline.colours.now l.contours.outline.coords.now l.c.from l.c.end l.stencil l.i
