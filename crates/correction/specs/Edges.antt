-- Edges: which texels of a bitmap a pair protects that an edge crosses. Definitions only.
use Rattle.std.specs.Prelude.{ℕ, ◌+◌, ◌-◌, Bool, ◌&&◌, ◌||◌, List, Float}
use Rattle.ranges.specs.declared.config.Settings.{Settings}
use Rattle.ranges.specs.Config.{radius}
use Rattle.detectors.specs.Edge.{protects_lower, protects_upper}
use Rattle.inputs.specs.Bounds.{in_bounds}

-- texel x, y as the lower one of a pair with column nx and row ny, counted from 1
unfoldable pub as_lower : (ℕ → ℕ → List Float) → ℕ → ℕ → Float → ℕ → ℕ → ℕ → ℕ → Bool
as_lower tex w h r x y nx ny = in_bounds w h nx ny && protects_lower r (tex x y) (tex (nx - 1) (ny - 1))

-- texel x, y as the other one
unfoldable pub as_upper : (ℕ → ℕ → List Float) → ℕ → ℕ → Float → ℕ → ℕ → ℕ → ℕ → Bool
as_upper tex w h r x y nx ny = in_bounds w h nx ny && protects_upper r (tex (nx - 1) (ny - 1)) (tex x y)

-- the pairs in which texel x, y is the lower one: with the right, the upper, the upper right and the upper left texel
unfoldable pub some_lower : (ℕ → ℕ → List Float) → ℕ → ℕ → Float → Float → Float → ℕ → ℕ → Bool
some_lower tex w h rh rv rd x y =
    as_lower tex w h rh x y (x + 2) (y + 1) || (as_lower tex w h rv x y (x + 1) (y + 2) || (as_lower tex w h rd x y (x + 2) (y + 2) || as_lower tex w h rd x y x (y + 2)))

-- the pairs in which it is the other one: with the left, the lower, the lower left and the lower right texel
unfoldable pub some_upper : (ℕ → ℕ → List Float) → ℕ → ℕ → Float → Float → Float → ℕ → ℕ → Bool
some_upper tex w h rh rv rd x y =
    as_upper tex w h rh x y x (y + 1) || (as_upper tex w h rv x y (x + 1) y || (as_upper tex w h rd x y x y || as_upper tex w h rd x y (x + 2) y))

-- some pair protects texel x, y of the bitmap whose texels are `tex`
unfoldable pub some_edge : (ℕ → ℕ → List Float) → ℕ → ℕ → Float → Float → Float → ℕ → ℕ → Bool
some_edge tex w h rh rv rd x y = some_lower tex w h rh rv rd x y || some_upper tex w h rh rv rd x y

unfoldable pub edges_protect : (ℕ → ℕ → List Float) → ℕ → ℕ → Settings → ℕ → ℕ → Bool
edges_protect tex w h s x y = some_edge tex w h (radius s.horizontal) (radius s.vertical) (radius s.diagonal) x y
