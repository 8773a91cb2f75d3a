-- `plain::corners::mark_contour` meets its contract: after each turn the stencil is painted by the segments before i, and `last` is the colour of the one that comes before i, cyclic. Assumes nothing.
use Rattle.std.proofs.Common.{◌≡◌, ℕ, ◌+◌, ◌-◌, ◌/◌, ◌%◌, ◌<◌, ◌≤◌, Bool, cond, eqb, List, get_or}
use lib.Ieee.{Float}
use Rattle.ground.specs.Lists.{any, painted}
use Rattle.correction.specs.Numbered.{corner_hits}
use Rattle.plain.specs.Inner.{corner}
use Rattle.plain.proofs.corners.mark_contour.Given as goal

-- segment from + j
abbrev pub nth : ℕ → List ℕ → List Float → ℕ → ℕ → ℕ → ℕ → Bool
nth w colours coords from end j k = corner_hits colours coords from end (from + j) (k % w) (k / w)

pub record Inv (st₀ : List ℕ) (w : ℕ) (colours : List ℕ) (coords : List Float) (from end : ℕ) (st : List ℕ) (last i : ℕ) : Type 0 where
  pub low : from ≤ i
  pub high : i ≤ end
  pub known : i < end → last ≡ get_or colours (cond (eqb i from) (end - 1) (i - 1)) 0
  pub done : st ≡ painted corner (λ k. any (i - from) (λ j. nth w colours coords from end j k)) st₀

abbrev pub invariant-loop-i : goal.invariant-loop-i
invariant-loop-i l = Inv l.initial.stencil l.b.width l.all.colours.now l.all.coords.now l.from l.end l.stencil l.last l.i
