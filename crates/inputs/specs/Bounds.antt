-- Columns and rows counted from 1, so that a neighbour's is never below 0. Definitions only.
use Rattle.std.specs.Prelude.{ℕ, Bool, ◌&&◌, leb, ltb}

-- Column nx and row ny, counted from 1, are inside: so 0 and the size plus 1 are the outside's nearest.
unfoldable pub in_bounds : ℕ → ℕ → ℕ → ℕ → Bool
in_bounds w h nx ny = ltb 0 nx && (leb nx w && (ltb 0 ny && leb ny h))
