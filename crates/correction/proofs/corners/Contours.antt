-- One turn of a loop over segments that paints corners in a window. Assumes nothing.
--     hit    a segment that is a corner, as the code goes: j is the segment before it, and b whether they make a corner
--     miss   one that isn't
use mathlib.Core.Path.{◌≡◌, sym, ◌∙◌, ap}
use mathlib.Core.Bool.{Bool, true, false, cond, ◌&&◌}
use mathlib.Core.List.{List}
use Prim.Native.Nat.{ℕ, ◌+◌, ◌-◌, ◌*◌, ◌/◌, ◌%◌}
use lib.Dec.{eqb, ltb}
use lib.ListN.{get_or}
use lib.Ieee.{Float, nan}
use Rattle.inputs.specs.declared.sizes.Window.{Window}
use Rattle.correction.specs.Corners.{shared, lower, beside}
use Rattle.correction.specs.Numbered.{corner_hits}
use Rattle.correction.specs.Inner.{at_corner}
use Rattle.correction.proofs.corners.Strokes.{Painted, stroke_taken, stroke_left}

module _ (g : Window) (colours : List ℕ) (coords : List Float) (from end i j : ℕ) (b : Bool) (e : j ≡ cond (eqb i from) (end - 1) (i - 1)) (f : b ≡ ltb (shared (get_or colours j 0) (get_or colours i 0)) 2) where
  corner : b ≡ ltb (shared (get_or colours (cond (eqb i from) (end - 1) (i - 1)) 0) (get_or colours i 0)) 2
  corner = f ∙ ap (λ (m : ℕ). ltb (shared (get_or colours m 0) (get_or colours i 0)) 2) e

  pub hit : b ≡ true → {st st' : List ℕ}
      → Painted at_corner g (λ k. beside (lower (get_or coords (2 * i) nan)) (k % g.width) && beside (lower (get_or coords (2 * i + 1) nan)) (k / g.width)) st st'
      → Painted at_corner g (λ k. corner_hits colours coords from end i (k % g.width) (k / g.width)) st st'
  unfolding corner_hits
  hit l p = stroke_taken at_corner g _ _ (sym corner ∙ l) p

  pub miss : b ≡ false → (st : List ℕ) → Painted at_corner g (λ k. corner_hits colours coords from end i (k % g.width) (k / g.width)) st st
  unfolding corner_hits
  miss l st = stroke_left at_corner g _ _ (sym corner ∙ l) st
