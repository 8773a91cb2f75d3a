-- Where the texels of an area lie in its sheet: which of the sheet's texels it covers, and their numbers in it. Assumes nothing.
--     covered, covering    the test, by four comparisons
--     in_sheet             a texel of the area, as the sheet counts
--     shown_covered        each texel of the area's window is covered
--     shown_within         and has its own number in the area
--     covered_below        a covered texel has a number in the area
--     covered_shown        and is the texel of that number
--     both_covered         two areas that cover one texel overlap
use mathlib.Core.Path.{◌≡◌, ◌∙◌, ap}
use mathlib.Core.Bool.{true}
use Prim.Native.Nat.{ℕ, ◌+◌, ◌-◌, ◌*◌, ◌/◌, ◌%◌, ◌<◌, ◌≤◌}
use native.Mathlib.Nat.{mod-lt, div-add-mod', add-mul, add-sub_cancel_left}
use native.Mathlib.Omega.{arith}
use lib.Dec.{ltb, leb}
use lib.Arith.{digits_div, digits_mod}
use borrow.Author.Tests.{lt-ltb, le-leb, ltb-true, leb-true}
use Rattle.ground.proofs.Laws.Bools.{both_hold}
use Rattle.inputs.specs.Window.{cell_in, cell_shown}
use Rattle.inputs.proofs.Laws.Places.{cell_inside, cell_lt}
use Rattle.inputs.proofs.Laws.Windows.{cell_shown_law}
use Rattle.correction.specs.declared.cells.Area.{Area}
use Rattle.correction.specs.Bitmap.{cell}
use Rattle.correction.specs.Sheet.{window_of, covers, overlap}
use Rattle.correction.specs.Cells.{AreaInside}

pub record Covered (a : Area) (x y : ℕ) : Type 0 where
  pub left : a.x ≤ x
  pub right : x < a.x + a.width
  pub low : a.y ≤ y
  pub high : y < a.y + a.height

pub covered : (a : Area) (x y : ℕ) → covers a x y ≡ true → Covered a x y
unfolding covers
covered a x y e =
    let p = both_hold (leb a.x x) _ e in
    let q = both_hold (ltb x (a.x + a.width)) _ p.1 in
    let r = both_hold (leb a.y y) (ltb y (a.y + a.height)) q.1 in
    record { left = leb-true a.x x p.0; right = ltb-true x _ q.0; low = leb-true a.y y r.0; high = ltb-true y _ r.1 }

pub covering : (a : Area) (x y : ℕ) → Covered a x y → covers a x y ≡ true
unfolding covers
covering a x y c = rw (le-leb a.x x c.left, lt-ltb x (a.x + a.width) c.right, le-leb a.y y c.low, lt-ltb y (a.y + a.height) c.high)

pub both_covered : (a b : Area) (x y : ℕ) → covers a x y ≡ true → covers b x y ≡ true → overlap a b ≡ true
unfolding overlap
both_covered a b x y e f =
    let p = covered a x y e in
    let q = covered b x y f in
    let l : a.x < b.x + b.width = omega (arith, p.left, q.right) in
    let m : b.x < a.x + a.width = omega (arith, q.left, p.right) in
    let n : a.y < b.y + b.height = omega (arith, p.low, q.high) in
    let o : b.y < a.y + a.height = omega (arith, q.low, p.high) in
    rw (lt-ltb _ _ l, lt-ltb _ _ m, lt-ltb _ _ n, lt-ltb _ _ o)

pub in_sheet : (w ch : ℕ) (a : Area) (x y : ℕ) → cell_in (window_of w ch a) x y ≡ (a.y + y) * w + (a.x + x)
in_sheet w ch a x y = omega (arith, add-mul a.y y w)

module _ (w h ch : ℕ) (a : Area) (i : AreaInside w h a) where
  column : (k : ℕ) → cell_shown (window_of w ch a) k % w ≡ a.x + k % a.width
  unfolding cell_shown
  column k =
      let l : a.x + k % a.width < w = omega (arith, i.wide, mod-lt k i.any) in
      rw (in_sheet w ch a) (digits_mod (a.y + k / a.width) l)

  row : (k : ℕ) → cell_shown (window_of w ch a) k / w ≡ a.y + k / a.width
  unfolding cell_shown
  row k =
      let l : a.x + k % a.width < w = omega (arith, i.wide, mod-lt k i.any) in
      rw (in_sheet w ch a) (digits_div (a.y + k / a.width) l)

  pub shown_covered : (k : ℕ) → k < a.height * a.width → covers a (cell_shown (window_of w ch a) k % w) (cell_shown (window_of w ch a) k / w) ≡ true
  shown_covered k l =
      let p = cell_inside a.width a.height k i.any l in
      rw (column k, row k) (covering a (a.x + k % a.width) (a.y + k / a.width) (record { left = omega arith; right = omega (arith, p.0); low = omega arith; high = omega (arith, p.1) }))

  pub shown_within : (k : ℕ) → cell a.width (cell_shown (window_of w ch a) k % w - a.x) (cell_shown (window_of w ch a) k / w - a.y) ≡ k
  shown_within k = rw (column k, row k, add-sub_cancel_left, add-sub_cancel_left) (div-add-mod' k a.width)

  module _ (p : ℕ) (e : covers a (p % w) (p / w) ≡ true) where
    pub covered_below : cell a.width (p % w - a.x) (p / w - a.y) < a.height * a.width
    covered_below =
        let c = covered a (p % w) (p / w) e in
        cell_lt a.width a.height (p % w - a.x) (p / w - a.y) (omega (arith, c.left, c.right)) (omega (arith, c.low, c.high))

    pub covered_shown : cell_shown (window_of w ch a) (cell a.width (p % w - a.x) (p / w - a.y)) ≡ p
    covered_shown =
        let c = covered a (p % w) (p / w) e in
        let l : p % w - a.x < a.width = omega (arith, c.left, c.right) in
        let x : a.x + (p % w - a.x) ≡ p % w = omega (arith, c.left) in
        let y : a.y + (p / w - a.y) ≡ p / w = omega (arith, c.low) in
        cell_shown_law (window_of w ch a) (p % w - a.x) (p / w - a.y) l ∙ in_sheet w ch a (p % w - a.x) (p / w - a.y) ∙ ap (λ (n : ℕ). n * w + (a.x + (p % w - a.x))) y ∙ ap (λ (n : ℕ). p / w * w + n) x ∙ div-add-mod' p w
