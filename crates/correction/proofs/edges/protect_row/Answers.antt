-- `correction::edges::protect_row` meets its contract: the row is given up to column x. Assumes nothing.
use mathlib.Core.Path.{◌≡◌, sym, ◌∙◌, ap, subst}
use mathlib.Core.Bool.{Bool, true, false, cond}
use mathlib.Core.List.{List}
use Prim.Native.Nat.{ℕ, ◌+◌, ◌*◌, ◌<◌}
use native.Mathlib.Omega.{arith}
use lib.ListN.{length, get_or, set}
use lib.Ieee.{Float}
use Rattle.ground.proofs.Laws.Picked.{pasted_as}
use Rattle.inputs.specs.declared.sizes.Window.{Window}
use Rattle.inputs.specs.Window.{cell_in, cell_shown, cut_samples, cut_cells}
use Rattle.inputs.specs.Inner.{Stencilled}
use Rattle.inputs.specs.Stencil.{set_protected}
use Rattle.correction.specs.declared.edges.Radii.{Radii}
use Rattle.correction.proofs.bitmap.Stretch.{Stretched, stretch_none, stretch_held, stretch_next, stretch_kept, stretch_all, upto_long}
use Rattle.correction.proofs.edges.Room.{row_lies}
use Rattle.correction.proofs.edges.Byte.{edge, byte, row_painted}
use Rattle.correction.proofs.edges.protect_row.Goals as goal
use Rattle.correction.proofs.edges.protect_row.Goals.{After-cell-k, In-loop-x, then-some_edge, else-some_edge}

pub loop-x-init : goal.loop-x-init
loop-x-init c =
    let a = c.args in
    (omega arith, stretch_none (byte (cut_samples a.b a.xs.now) a.b a.r) _ _ _ c.requires.stencilled c.requires.y_lt_height.0)

-- the median is in the room
held : (c : In-loop-x) → c.row_place-from.result + c.loop-x.x < length c.args.room.now
held c =
    rw c.row_place-from.ensures (row_lies c.args.b c.loop-x.x c.args.y _ c.loop-x-test.true c.requires.sampled.1)

pub some_edge-requires : goal.some_edge-requires
some_edge-requires c =
    let p = c.requires in record { sampled = p.sampled; x_lt_width = (c.loop-x-test.true, p.y_lt_height.0, rw c.row_place-from.ensures (p.y_lt_height.1.own _ c.loop-x-test.true)); rows = p.y_lt_height.1 }

pub cell-k-requires : goal.cell-k-requires
cell-k-requires c =
    let p = c.requires in record { fits = p.stencilled.fits; x_lt_width = (c.loop-x-test.true, p.y_lt_height.0) }

-- the cell is in the stencil
there : (c : After-cell-k) → c.cell-k.result < length c.loop-x.stencil
there c =
    let p = c.requires in
    let a = c.args in
    stretch_held (byte (cut_samples a.b a.xs.now) a.b a.r) _ _ _ p.stencilled p.y_lt_height.0 c.loop-x.invariant.1 c.loop-x-test.true c.cell-k.ensures

-- a turn that stores v at place k, or does not
stored : (xs : List Float) (b : Window) (r : Radii) (y : ℕ) {st₀ st : List ℕ} {x : ℕ} {e : Bool} {k v : ℕ} → Stencilled b st₀ → y < b.height → x < b.width → Stretched (byte xs b r) b st₀ y x st → e ≡ edge xs b r x y → e ≡ true → k ≡ cell_in b x y → v ≡ set_protected (get_or st k 0) → Stretched (byte xs b r) b st₀ y (x + 1) (set st k v)
stored xs b r y {st₀} {st} {x} {e} {k} {v} s h l i p t q w =
    stretch_next (byte xs b r) b st₀ y s h i l q (w ∙ ap (λ (d : Bool). cond d (set_protected (get_or st k 0)) (get_or st k 0)) (sym t ∙ p))

kept : (xs : List Float) (b : Window) (r : Radii) (y : ℕ) {st₀ st : List ℕ} {x : ℕ} {e : Bool} → Stencilled b st₀ → y < b.height → x < b.width → Stretched (byte xs b r) b st₀ y x st → e ≡ edge xs b r x y → e ≡ false → Stretched (byte xs b r) b st₀ y (x + 1) st
kept xs b r y {st₀} {st} {x} {e} s h l i p t =
    stretch_kept (byte xs b r) b st₀ y s h i l (ap (λ (d : Bool). cond d (set_protected (get_or st (cell_in b x y) 0)) (get_or st (cell_in b x y) 0)) (sym p ∙ t))

pub loop-x-preserved : goal.loop-x-preserved
loop-x-preserved c =
    let a = c.args in
    let h = c.requires.y_lt_height.0 in
    let g : List ℕ → Type 0 = λ (st : List ℕ). Stretched (byte (cut_samples a.b a.xs.now) a.b a.r) a.b a.stencil.now a.y (c.loop-x.x + 1) st in (
      omega (arith, c.loop-x-test.true),
      elim c.if-some_edge.branch [
        | then-some_edge w ↦ subst g (sym w.stencil-is) (stored _ _ _ _ c.requires.stencilled h c.loop-x-test.true c.loop-x.invariant.1 c.some_edge.ensures w.if-some_edge.true w.cell-k.ensures w.set_protected.ensures)
        | else-some_edge w ↦ subst g (sym w.stencil-is) (kept _ _ _ _ c.requires.stencilled h c.loop-x-test.true c.loop-x.invariant.1 c.some_edge.ensures w.if-some_edge.false)
      ],
    )

pub returns : goal.returns
returns c =
    let a = c.args in
    let n : ℕ = a.b.height * a.b.width in
    pasted_as 0 n (cell_shown a.b) (stretch_all (byte (cut_samples a.b a.xs.now) a.b a.r) _ _ _ c.requires.stencilled c.requires.y_lt_height.0 c.loop-x.invariant.1 c.loop-x-test.false)
    (row_painted (cut_samples a.b a.xs.now) a.b a.r a.y (cut_cells a.b a.stencil.now))

pub overflow_add-m : goal.overflow_add-m
overflow_add-m c = omega (arith, held c, c.well_formed)

pub offset_bounds-room-from : goal.offset_bounds-room-from
offset_bounds-room-from c = omega (arith, held c, c.well_formed)

pub bounds-room-from : goal.bounds-room-from
bounds-room-from c = held (goal.at.bounds-room-from c).In-loop-x

pub bounds-stencil-k : goal.bounds-stencil-k
bounds-stencil-k c = there (goal.at.bounds-stencil-k c).After-cell-k

pub bounds-stencil-k-then-some_edge : goal.bounds-stencil-k-then-some_edge
bounds-stencil-k-then-some_edge c = there (goal.at.bounds-stencil-k-then-some_edge c).After-cell-k

pub shape_of-stencil : goal.shape_of-stencil
shape_of-stencil c = upto_long _ _ _ c.loop-x.invariant.1
