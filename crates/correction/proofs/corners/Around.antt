-- The four cells around a point. Assumes nothing.
--     next_fits       the column or row after a clipped one is no overflow
--     marked_around   the four cells from the clipped column and row on are those whose column and row lie beside the point's
use mathlib.Core.Path.{◌≡◌, sym, ◌∙◌, ap, subst}
use mathlib.Core.Bool.{true, false, ◌&&◌, ◌||◌}
use mathlib.Core.List.{List}
use mathlib.Core.Logic.{dite}
use Prim.Native.Nat.{ℕ, zero, suc, ◌+◌, ◌-◌, ◌*◌, ◌/◌, ◌%◌, ◌<◌, ◌≤◌}
use native.Mathlib.Nat.{mod-lt, div-add-mod'}
use native.Mathlib.Decide.{dec_lt}
use native.Mathlib.Omega.{arith}
use lib.Arith.{digits_div, digits_mod}
use lib.Dec.{eqb, eqb-suc-suc}
use lib.IntN.{ℤ, pos, negsuc}
use mir.Syntax.{w64}
use mir.Val.{Fits}
use borrow.Author.Tests.{eqb-true, lt-ltb, le-ltb, le-leb, eq-eqb, ne_eqb}
use Rattle.ground.proofs.Laws.Bools.{both_hold, both_ways, spread}
use Rattle.inputs.specs.declared.sizes.Window.{Window}
use Rattle.inputs.specs.Bounds.{in_bounds}
use Rattle.correction.specs.Corners.{beside}
use Rattle.correction.specs.Inner.{at_corner, spot, clip}
use Rattle.inputs.proofs.Laws.Bounds.{inside}
use Rattle.inputs.proofs.Laws.Places.{row_lt}
use Rattle.inputs.proofs.Laws.Stencil.{both_again}
use Rattle.correction.proofs.corners.Strokes.{Painted, stroke_same, stroke_then}

bounded : (w h nx ny : ℕ) → 0 < nx → nx ≤ w → 0 < ny → ny ≤ h → in_bounds w h nx ny ≡ true
unfolding in_bounds
bounded w h nx ny a b c d = simp (lt-ltb 0 nx a, le-leb nx w b, lt-ltb 0 ny c, le-leb ny h d)

-- cell x, y is the spot nx, ny exactly where each coordinate is
module _ (w h x y nx ny : ℕ) (p : x < w) (q : y < h) where
  to : spot w h nx ny (y * w + x) ≡ true → (eqb (suc x) nx && eqb (suc y) ny) ≡ true
  unfolding spot
  to t =
      let e = both_hold (in_bounds w h nx ny) (eqb (y * w + x) ((ny - 1) * w + (nx - 1))) t in
      let i = inside w h nx ny e.0 in
      let f : y * w + x ≡ (ny - 1) * w + (nx - 1) = eqb-true (y * w + x) ((ny - 1) * w + (nx - 1)) e.1 in
      let c : x ≡ nx - 1 = sym (digits_mod y p) ∙ ap (λ (m : ℕ). m % w) f ∙ digits_mod (ny - 1) i.column in
      let d : y ≡ ny - 1 = sym (digits_div y p) ∙ ap (λ (m : ℕ). m / w) f ∙ digits_div (ny - 1) i.column in
      simp (eq-eqb (suc x) nx (omega (arith, c, i.from_left)), eq-eqb (suc y) ny (omega (arith, d, i.from_low)))

  from : (eqb (suc x) nx && eqb (suc y) ny) ≡ true → spot w h nx ny (y * w + x) ≡ true
  unfolding spot
  from t =
      let e = both_hold (eqb (suc x) nx) (eqb (suc y) ny) t in
      let a : suc x ≡ nx = eqb-true (suc x) nx e.0 in
      let b : suc y ≡ ny = eqb-true (suc y) ny e.1 in
      let c : x ≡ nx - 1 = omega (arith, a) in
      let d : y ≡ ny - 1 = omega (arith, b) in
      let f : y * w + x ≡ (ny - 1) * w + (nx - 1) = ap (λ (m : ℕ). m * w + x) d ∙ ap (λ (m : ℕ). (ny - 1) * w + m) c in
      simp (
        bounded w h nx ny (omega (arith, a)) (omega (arith, a, p)) (omega (arith, b)) (omega (arith, b, q)),
        eq-eqb (y * w + x) ((ny - 1) * w + (nx - 1)) f,
      )

  spot_at : spot w h nx ny (y * w + x) ≡ (eqb (suc x) nx && eqb (suc y) ny)
  spot_at = both_ways (spot w h nx ny (y * w + x)) (eqb (suc x) nx && eqb (suc y) ny) to from

next : (l x : ℕ) → (eqb (suc x) (suc l) || eqb (suc x) (suc l + 1)) ≡ (eqb x l || eqb x (l + 1))
next l x = let e : suc l + 1 ≡ suc (l + 1) = omega arith in rw (e, eqb-suc-suc x l, eqb-suc-suc x (l + 1))

past : (n x : ℕ) → x < n → (eqb (suc x) (suc n) || eqb (suc x) (suc n + 1)) ≡ false
past n x p = simp (ne_eqb (suc x) (suc n) (omega arith), ne_eqb (suc x) (suc n + 1) (omega arith))

clip_le : (z : ℤ) (n : ℕ) → clip z n ≤ n + 1
unfolding clip
clip_le (pos l) n = dite (dec_lt l n) (λ a. simp (lt-ltb l n a) (omega arith)) (λ a. simp (le-ltb l n (omega arith)) (omega arith))
clip_le (negsuc zero) n = omega arith
clip_le (negsuc (suc l)) n = omega arith

pub next_fits : {r n : ℕ} (z : ℤ) → r ≡ clip z n → n ≤ 4096 → Fits w64 (r + 1)
next_fits {r} {n} z e l = omega (arith, clip_le z n, e, l)

beside_clip : (z : ℤ) (n x : ℕ) → x < n → (eqb (suc x) (clip z n) || eqb (suc x) (clip z n + 1)) ≡ beside z x
unfolding clip beside
beside_clip (pos l) n x p =
    dite (dec_lt l n)
    (λ a. simp (lt-ltb l n a) (next l x))
    (λ a. simp (le-ltb l n (omega arith), ne_eqb x l (omega arith), ne_eqb x (l + 1) (omega arith)) (past n x p))
beside_clip (negsuc zero) n x p = simp (ne_eqb (suc x) 0 (omega arith)) (eqb-suc-suc x 0)
beside_clip (negsuc (suc l)) n x p = past n x p

four : (w h l b x y : ℕ) → x < w → y < h
    → (((spot w h l b (y * w + x) || spot w h (l + 1) b (y * w + x)) || spot w h l (b + 1) (y * w + x)) || spot w h (l + 1) (b + 1) (y * w + x))
    ≡ ((eqb (suc x) l || eqb (suc x) (l + 1)) && (eqb (suc y) b || eqb (suc y) (b + 1)))
four w h l b x y p q =
    rw (spot_at w h x y l b p q, spot_at w h x y (l + 1) b p q, spot_at w h x y l (b + 1) p q, spot_at w h x y (l + 1) (b + 1) p q)
    (spread (eqb (suc x) l) (eqb (suc x) (l + 1)) (eqb (suc y) b) (eqb (suc y) (b + 1)))

around_at : (w h : ℕ) (l b : ℤ) (k : ℕ) → 1 ≤ w → k < h * w
    → (((spot w h (clip l w) (clip b h) k || spot w h (clip l w + 1) (clip b h) k) || spot w h (clip l w) (clip b h + 1) k) || spot w h (clip l w + 1) (clip b h + 1) k)
    ≡ (beside l (k % w) && beside b (k / w))
around_at w h l b k o p =
    let e : k / w * w + k % w ≡ k = div-add-mod' k w in
    let x : k % w < w = mod-lt k o in
    let y : k / w < h = row_lt w h (k % w) (k / w) (subst (λ (m : ℕ). m < h * w) (sym e) p) in
    subst (λ (m : ℕ). (((spot w h (clip l w) (clip b h) m || spot w h (clip l w + 1) (clip b h) m) || spot w h (clip l w) (clip b h + 1) m) || spot w h (clip l w + 1) (clip b h + 1) m) ≡ (beside l (k % w) && beside b (k / w))) e
    (four w h (clip l w) (clip b h) (k % w) (k / w) x y ∙ rw (beside_clip l w (k % w) x, beside_clip b h (k / w) y))

pub marked_around : (g : Window) (l b : ℤ) (r s : ℕ) {st st₁ st₂ st₃ st₄ : List ℕ} → 1 ≤ g.width → r ≡ clip l g.width → s ≡ clip b g.height
    → Painted at_corner g (spot g.width g.height r s) st st₁ → Painted at_corner g (spot g.width g.height (r + 1) s) st₁ st₂
    → Painted at_corner g (spot g.width g.height r (s + 1)) st₂ st₃ → Painted at_corner g (spot g.width g.height (r + 1) (s + 1)) st₃ st₄
    → Painted at_corner g (λ k. beside l (k % g.width) && beside b (k / g.width)) st st₄
marked_around g l b r s o e f e₁ e₂ e₃ e₄ =
    let w = g.width in
    let h = g.height in
    stroke_same at_corner g _ _ (λ k p. rw (e, f) (around_at w h l b k o p))
    (stroke_then at_corner g both_again _ _ (stroke_then at_corner g both_again _ _ (stroke_then at_corner g both_again _ _ e₁ e₂) e₃) e₄)
