-- `plain::corners::mark_corners` meets its contract: after each turn the stencil is painted by the contours before c. Assumes nothing.
use Rattle.std.proofs.Common.{◌≡◌, ℕ, ◌/◌, ◌%◌, ◌≤◌, Bool, List, length, get_or}
use lib.Ieee.{Float}
use Rattle.ground.specs.Lists.{painted, any}
use Rattle.correction.specs.Numbered.{start_at, contour_hits}
use Rattle.plain.specs.Inner.{corner}
use Rattle.plain.proofs.corners.mark_corners.Given as goal

-- contour j
abbrev pub nth : ℕ → List ℕ → List Float → List ℕ → ℕ → ℕ → Bool
nth w colours coords ends j k = contour_hits colours coords (start_at ends j) (get_or ends j 0) (k % w) (k / w)

pub record Inv (st₀ : List ℕ) (w : ℕ) (colours : List ℕ) (coords : List Float) (ends st : List ℕ) (c : ℕ) : Type 0 where
  pub high : c ≤ length ends
  pub done : st ≡ painted corner (λ k. any c (λ j. nth w colours coords ends j k)) st₀

abbrev pub invariant-loop-c : goal.invariant-loop-c
invariant-loop-c l = Inv l.initial.stencil l.b.width l.all.colours.now l.all.coords.now l.all.ends.now l.stencil l.c
