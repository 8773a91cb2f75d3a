-- `plain::corners::mark` meets its contract. Assumes nothing.
use Rattle.std.proofs.Common.{◌≡◌, ℕ, ◌<◌, ◌≤◌, false, refl, le-ltb, lt-ltb}
use Rattle.ground.proofs.Laws.Painted.{painted_set, painted_none}
use Rattle.inputs.proofs.Laws.Places.{cell_lt}
use Rattle.plain.specs.Inner.{is_texel, is_cell}
use Rattle.plain.proofs.corners.mark.Goals as goal
use mathlib.Core.Logic.{◌⊎◌, inl, inr}

-- a cell outside is no texel's
outside : (w h x y k : ℕ) → ((x < w) × (h ≤ y)) ⊎ (w ≤ x) → is_cell w h x y k ≡ false
unfolding is_cell is_texel
outside w h x y k (inl p) = simp (lt-ltb _ _ p.0, le-ltb _ _ p.1)
outside w h x y k (inr p) = simp (le-ltb _ _ p)

pub returns-then-y-b : goal.returns-then-y-b
unfolding is_cell is_texel
returns-then-y-b c =
    painted_set _ _ _ _ _ (rw c.requires.long (cell_lt _ _ _ _ c.if-x-b.true c.if-y-b.true)) refl (λ k. simp (lt-ltb _ _ c.if-x-b.true, lt-ltb _ _ c.if-y-b.true))

pub returns-else-x-b : goal.returns-else-x-b
returns-else-x-b c = painted_none _ _ _ (λ k. outside _ _ _ _ k c.else-x-b.either)
