-- `correction::view::texel_view` meets its contract: what both size checks leave says where the texel lies. Assumes nothing.
use mathlib.Core.Path.{◌≡◌, sym, ◌∙◌, ap, subst}
use Prim.Native.Nat.{ℕ, ◌+◌, ◌*◌, ◌<◌, ◌≤◌}
use native.Mathlib.Nat.{zero-add, add-sub_cancel_left}
use native.Mathlib.Omega.{arith}
use lib.ListN.{length}
use borrow.Author.Tests.{eq-eqb, ne_eqb, lt-ltb, le-ltb}
use Rattle.correction.specs.Bitmap.{cell}
use Rattle.inputs.specs.declared.sizes.Window.{Window}
use Rattle.inputs.specs.Window.{cell_in, whole}
use Rattle.inputs.specs.Inner.{Fits}
use Rattle.inputs.specs.Checks.{size_refusal}
use Rattle.correction.specs.View.{viewable, viewed, channels_of}
use Rattle.inputs.proofs.Laws.Checks.{Sizes, sizes}
use Rattle.inputs.proofs.Laws.Refusal.{err_numbered, ok_numbered}
use Rattle.correction.proofs.bitmap.Sizes.{lies}
use Rattle.correction.proofs.view.texel_view.Goals as goal
use Rattle.correction.proofs.view.texel_view.Goals.{After-cell-k, After-is_error, After-place-at, After-whole-g, Else-is_err, Else-is_err-2}

-- each bitmap has passed its size checks
original : (c : Else-is_err) → let a = c.args in size_refusal a.width a.height a.channels (length a.original.now) (length a.stencil.now) ≡ 0
original c = sym c.check_size.ensures.numbers ∙ ok_numbered _ c.if-is_err.ensures.value

corrected : (c : Else-is_err-2) → let a = c.args in size_refusal a.width a.height a.channels (length a.corrected.now) (length a.stencil.now) ≡ 0
corrected c = sym c.check_size-2.ensures.numbers ∙ ok_numbered _ c.if-is_err-2.ensures.value

-- the window is the whole
module _ (g : Window) (w h ch x y : ℕ) (e : g ≡ whole w h ch) where
  in_whole : {n m : ℕ} → Sizes w h ch n m → x < w → y < h → Fits g × (x < g.width) × (y < g.height) × (g.channels ≤ 4)
  in_whole s p q =
      subst (λ (z : Window). Fits z × (x < z.width) × (y < z.height) × (z.channels ≤ 4)) (sym e)
      (record { any = s.wide.0; wide = omega arith; broad = s.wide.1; high = s.high.1; near = omega arith }, p, q, s.channels.1)

  whole_cell : {k : ℕ} → k ≡ cell_in g x y → k ≡ cell w x y
  whole_cell f = f ∙ ap (λ (z : Window). cell_in z x y) e ∙ zero-add (cell w x y)

  whole_place : {k : ℕ} → k ≡ cell_in g x y * g.channels → k ≡ cell w x y * ch
  whole_place f = f ∙ ap (λ (z : Window). cell_in z x y * z.channels) e ∙ ap (λ (j : ℕ). j * ch) (zero-add (cell w x y))

-- the cell and the place of its samples
at_cell : (c : After-cell-k) → let a = c.args in c.cell-k.result ≡ cell a.width a.x a.y
at_cell c = whole_cell _ _ _ _ _ _ c.whole-g.ensures c.cell-k.ensures

at_place : (c : After-place-at) → let a = c.args in c.place-at.result ≡ cell a.width a.x a.y * a.channels
at_place c = whole_place _ _ _ _ _ _ c.whole-g.ensures c.place-at.ensures

-- the texel has its cell, and its samples in each bitmap
held : (c : After-place-at) → let a = c.args in let end = c.place-at.result + a.channels in (c.cell-k.result < length a.stencil.now) × (end ≤ length a.original.now) × (end ≤ length a.corrected.now) × (end ≤ 67108864)
held c =
    let o = lies _ _ _ _ _ _ _ (sizes _ _ _ _ _ (original (goal.at.After-place-at c).Else-is_err)) c.if-x-width.false c.if-y-height.false in
    let p = lies _ _ _ _ _ _ _ (sizes _ _ _ _ _ (corrected (goal.at.After-place-at c).Else-is_err-2)) c.if-x-width.false c.if-y-height.false in
    omega (arith, o, p, at_cell (goal.at.After-place-at c).After-cell-k, at_place c)

-- and the channels of its cell are viewed
seen : (c : After-is_error) → let a = c.args in viewed (length a.original.now) (length a.corrected.now) a.stencil.now a.width a.height a.channels a.x a.y ≡ channels_of c.is_error.result a.channels (cell a.width a.x a.y)
unfolding viewed viewable
seen c =
    rw (c.is_error.ensures, at_cell (goal.at.After-is_error c).After-cell-k, eq-eqb _ 0 (original (goal.at.After-is_error c).Else-is_err), eq-eqb _ 0 (corrected (goal.at.After-is_error c).Else-is_err-2), lt-ltb _ _ c.if-x-width.false, lt-ltb _ _ c.if-y-height.false)

pub returns-then-is_err : goal.returns-then-is_err
unfolding viewed viewable
returns-then-is_err c = let o = ne_eqb _ 0 (λ q. err_numbered _ c.if-is_err.ensures.value (c.check_size.ensures.numbers ∙ q)) in record { holds = rw o; lies = rw o }

pub returns-then-is_err-2 : goal.returns-then-is_err-2
unfolding viewed viewable
returns-then-is_err-2 c =
    let o = eq-eqb _ 0 (original (goal.at.returns-then-is_err-2 c).Else-is_err) in
    let p = ne_eqb _ 0 (λ q. err_numbered _ c.if-is_err-2.ensures.value (c.check_size-2.ensures.numbers ∙ q)) in record { holds = rw (o, p); lies = rw (o, p) }

pub returns-then-x-width : goal.returns-then-x-width
unfolding viewed viewable
returns-then-x-width c =
    let o = eq-eqb _ 0 (original (goal.at.returns-then-x-width c).Else-is_err) in
    let p = eq-eqb _ 0 (corrected (goal.at.returns-then-x-width c).Else-is_err-2) in
    let q = le-ltb _ _ c.if-x-width.true in record { holds = rw (o, p, q); lies = rw (o, p, q) }

pub returns-then-y-height : goal.returns-then-y-height
unfolding viewed viewable
returns-then-y-height c =
    let o = eq-eqb _ 0 (original (goal.at.returns-then-y-height c).Else-is_err) in
    let p = eq-eqb _ 0 (corrected (goal.at.returns-then-y-height c).Else-is_err-2) in
    let q = lt-ltb _ _ c.if-x-width.false in
    let r = le-ltb _ _ c.if-y-height.true in record { holds = rw (o, p, q, r); lies = rw (o, p, q, r) }

-- the texel lies in the window
within : (c : After-whole-g) → let g = c.whole-g.result in let a = c.args in Fits g × (a.x < g.width) × (a.y < g.height) × (g.channels ≤ 4)
within c = in_whole _ _ _ _ _ _ c.whole-g.ensures (sizes _ _ _ _ _ (original (goal.at.After-whole-g c).Else-is_err)) c.if-x-width.false c.if-y-height.false

pub cell-k-requires : goal.cell-k-requires
cell-k-requires c = let i = within c in record { fits = i.0; x_lt_width = (i.1, i.2) }

pub place-at-requires : goal.place-at-requires
place-at-requires c = let i = within (goal.at.place-at-requires c).After-whole-g in record { fits = i.0; x_lt_width = (i.1, i.2, i.3) }

pub returns-then-is_error : goal.returns-then-is_error
returns-then-is_error c =
    let at = at_place (goal.at.returns-then-is_error c).After-place-at in record { holds = rw (seen (goal.at.returns-then-is_error c).After-is_error, c.if-is_error.true, add-sub_cancel_left, at); lies = rw (seen (goal.at.returns-then-is_error c).After-is_error, c.if-is_error.true, at) }

pub returns : goal.returns
returns c =
    let at = at_place (goal.at.returns c).After-place-at in record { holds = rw (seen (goal.at.returns c).After-is_error, c.if-is_error.false, add-sub_cancel_left, at); lies = rw (seen (goal.at.returns c).After-is_error, c.if-is_error.false, at) }

pub overflow_add-end : goal.overflow_add-end
overflow_add-end c = omega (arith, held c)

pub bounds-stencil-k : goal.bounds-stencil-k
bounds-stencil-k c = (held (goal.at.bounds-stencil-k c).After-place-at).0

pub offset_bounds-corrected-at : goal.offset_bounds-corrected-at
offset_bounds-corrected-at c = omega (arith, held (goal.at.offset_bounds-corrected-at c).After-place-at)

pub slice_bounds-result-end : goal.slice_bounds-result-end
slice_bounds-result-end c = (held (goal.at.slice_bounds-result-end c).After-place-at).2

pub offset_bounds-original-at : goal.offset_bounds-original-at
offset_bounds-original-at c = omega (arith, held (goal.at.offset_bounds-original-at c).After-place-at)

pub slice_bounds-result-end-2 : goal.slice_bounds-result-end-2
slice_bounds-result-end-2 c = (held (goal.at.slice_bounds-result-end-2 c).After-place-at).1
