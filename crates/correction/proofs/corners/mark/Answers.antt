-- `correction::corners::mark` meets its contract. Assumes nothing.
use mathlib.Core.Path.{◌≡◌, sym, ◌∙◌, subst}
use mathlib.Core.Bool.{true}
use mathlib.Core.List.{List}
use Prim.Native.Nat.{ℕ, ◌-◌, ◌<◌}
use lib.ListN.{length, get_or, set}
use Rattle.inputs.specs.declared.sizes.Window.{Window}
use Rattle.inputs.specs.Window.{cell_in}
use Rattle.inputs.specs.Inner.{Stencilled}
use Rattle.inputs.specs.Bounds.{in_bounds}
use Rattle.correction.specs.Inner.{at_corner, spot}
use Rattle.inputs.proofs.Laws.Bounds.{Inside, inside}
use Rattle.correction.proofs.corners.Strokes.{Painted, stroke_none, stroke_set}
use Rattle.correction.proofs.corners.mark.Goals as goal
use Rattle.correction.proofs.corners.mark.Goals.{After-cell-k, Then-in_bounds}

-- where the cell lies
at : (c : Then-in_bounds) → let a = c.args in Inside a.b.width a.b.height a.nx a.ny
at c = inside _ _ _ _ (sym c.in_bounds.ensures ∙ c.if-in_bounds.true)

held : (c : After-cell-k) → c.cell-k.result < length c.args.stencil.now
held c = rw c.cell-k.ensures (c.requires.held _ _ (at (goal.at.After-cell-k c).Then-in_bounds).column (at (goal.at.After-cell-k c).Then-in_bounds).row)

pub cell-k-requires : goal.cell-k-requires
cell-k-requires c = record { fits = c.requires.fits; x_lt_width = ((at c).column, (at c).row) }

-- a store at cell k, which is that of nx, ny
stored : (g : Window) (nx ny k v : ℕ) {st : List ℕ} → Stencilled g st → in_bounds g.width g.height nx ny ≡ true → k ≡ cell_in g (nx - 1) (ny - 1) → v ≡ at_corner (get_or st k 0) → Painted at_corner g (spot g.width g.height nx ny) st (set st k v)
unfolding spot
stored g nx ny k v {st} s i e f =
    let p = inside g.width g.height nx ny i in
    subst (λ (j : ℕ). v ≡ at_corner (get_or st j 0) → Painted at_corner g (spot g.width g.height nx ny) st (set st j v)) (sym e)
    (λ q. stroke_set at_corner g _ s (nx - 1) (ny - 1) v p.column p.row q (λ j. simp i)) f

pub returns-then-in_bounds : goal.returns-then-in_bounds
returns-then-in_bounds c =
    stored _ _ _ _ _ c.requires (sym c.in_bounds.ensures ∙ c.if-in_bounds.true) c.cell-k.ensures c.set_both.ensures

pub returns-else-in_bounds : goal.returns-else-in_bounds
unfolding spot
returns-else-in_bounds c = stroke_none _ _ _ _ (λ k. simp (sym c.in_bounds.ensures ∙ c.if-in_bounds.false))

pub overflow_sub-nx : goal.overflow_sub-nx
overflow_sub-nx c = (at c).from_left

pub overflow_sub-ny : goal.overflow_sub-ny
overflow_sub-ny c = (at c).from_low

pub bounds-stencil-k : goal.bounds-stencil-k
bounds-stencil-k c = held (goal.at.bounds-stencil-k c).After-cell-k

pub bounds-stencil-k-then-in_bounds : goal.bounds-stencil-k-then-in_bounds
bounds-stencil-k-then-in_bounds c = held (goal.at.bounds-stencil-k-then-in_bounds c).After-cell-k
