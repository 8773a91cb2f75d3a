-- What code goes by: contours by the numbers of their segments, and a texel by the place of its samples. No public function's promise rests on this page. Definitions only.
use Rattle.std.specs.Prelude.{ℕ, ◌+◌, ◌-◌, ◌*◌, Bool, cond, ◌&&◌, List, [], ◌∷◌, get_or, set, eqb, ltb, Float}
use Rattle.std.specs.Float.{nan}
use Rattle.ground.specs.Lists.{any}
use Rattle.detectors.specs.Texel.{texel_median}
use Rattle.correction.specs.Corners.{shared, lower, beside}

-- where contour c starts: at the end before it
abbrev pub start_at : List ℕ → ℕ → ℕ
start_at ends c = get_or (0 ∷ ends) c 0

-- segment i of the contour from `from` to `end` is a corner with texel x, y around it
unfoldable pub corner_hits : List ℕ → List Float → ℕ → ℕ → ℕ → ℕ → ℕ → Bool
corner_hits colours coords from end i x y =
    ltb (shared (get_or colours (cond (eqb i from) (end - 1) (i - 1)) 0) (get_or colours i 0)) 2
    && (beside (lower (get_or coords (2 * i) nan)) x && beside (lower (get_or coords (2 * i + 1) nan)) y)

-- some segment of that contour
unfoldable pub contour_hits : List ℕ → List Float → ℕ → ℕ → ℕ → ℕ → Bool
contour_hits colours coords from end x y = any (end - from) (λ j. corner_hits colours coords from end (from + j) x y)

-- the three samples from a place on set to the value of their median
abbrev pub collapsed_at : List Float → ℕ → List Float
collapsed_at xs at = let m = texel_median (get_or xs at nan ∷ get_or xs (at + 1) nan ∷ get_or xs (at + 2) nan ∷ []) in set (set (set xs at m) (at + 1) m) (at + 2) m
