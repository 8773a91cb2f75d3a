-- The four texels around a point. Assumes nothing.
--     marked_around   the cells of the two columns and the two rows beside a point are those whose column and row lie beside it
use Rattle.std.proofs.Common.{◌≡◌, ℕ, ◌+◌, ◌*◌, ◌/◌, ◌%◌, ◌<◌, ◌≤◌, Bool, true, ◌&&◌, ◌||◌, eqb, ltb, List, length, ℤ, sym, refl, ap, ◌∙◌, subst, mod-lt, div-add-mod', ltb-true, lt-ltb, eq-eqb, eqb-true}
use lib.Arith.{digits_div, digits_mod}
use Rattle.ground.specs.Lists.{painted}
use Rattle.ground.proofs.Laws.Bools.{both_hold, both_ways, spread}
use Rattle.ground.proofs.Laws.Painted.{painted_four, painted_same_below}
use Rattle.inputs.proofs.Laws.Places.{row_lt}
use Rattle.correction.specs.Corners.{beside}
use Rattle.plain.specs.Inner.{is_texel, is_cell, first_beside, second_beside, corner}
use Rattle.plain.proofs.corners.Columns.{beside_at}

-- cell x, y is that of column nx and row ny exactly where each coordinate is
module _ (w h x y nx ny : ℕ) (p : x < w) (q : y < h) where
  to : is_cell w h nx ny (y * w + x) ≡ true → (eqb x nx && eqb y ny) ≡ true
  unfolding is_cell is_texel
  to t =
      let e = both_hold (ltb nx w && ltb ny h) (eqb (y * w + x) (ny * w + nx)) t in
      let n : nx < w = ltb-true nx w (both_hold (ltb nx w) (ltb ny h) e.0).0 in
      let f : y * w + x ≡ ny * w + nx = eqb-true (y * w + x) (ny * w + nx) e.1 in
      let c : x ≡ nx = sym (digits_mod y p) ∙ ap (λ (m : ℕ). m % w) f ∙ digits_mod ny n in
      let d : y ≡ ny = sym (digits_div y p) ∙ ap (λ (m : ℕ). m / w) f ∙ digits_div ny n in
      simp (eq-eqb x nx c, eq-eqb y ny d)

  from : (eqb x nx && eqb y ny) ≡ true → is_cell w h nx ny (y * w + x) ≡ true
  unfolding is_cell is_texel
  from t =
      let e = both_hold (eqb x nx) (eqb y ny) t in
      let a : x ≡ nx = eqb-true x nx e.0 in
      let b : y ≡ ny = eqb-true y ny e.1 in
      let f : y * w + x ≡ ny * w + nx = ap (λ (m : ℕ). m * w + x) b ∙ ap (λ (m : ℕ). ny * w + m) a in
      simp (lt-ltb nx w (subst (λ (m : ℕ). m < w) a p), lt-ltb ny h (subst (λ (m : ℕ). m < h) b q), eq-eqb (y * w + x) (ny * w + nx) f)

  cell_at : is_cell w h nx ny (y * w + x) ≡ (eqb x nx && eqb y ny)
  cell_at = both_ways (is_cell w h nx ny (y * w + x)) (eqb x nx && eqb y ny) to from

-- one of the four cells of two columns and two rows
abbrev any_of : ℕ → ℕ → ℕ → ℕ → ℕ → ℕ → ℕ → Bool
any_of w h left right below above k = ((is_cell w h left below k || is_cell w h right below k) || is_cell w h left above k) || is_cell w h right above k

four : (w h left right below above x y : ℕ) → x < w → y < h → any_of w h left right below above (y * w + x) ≡ ((eqb x left || eqb x right) && (eqb y below || eqb y above))
four w h left right below above x y p q =
    rw (cell_at w h x y left below p q, cell_at w h x y right below p q, cell_at w h x y left above p q, cell_at w h x y right above p q)
    (spread (eqb x left) (eqb x right) (eqb y below) (eqb y above))

around_at : (w h : ℕ) (l u : ℤ) (k : ℕ) → 1 ≤ w → k < h * w
    → any_of w h (first_beside l w) (second_beside l w) (first_beside u h) (second_beside u h) k ≡ (beside l (k % w) && beside u (k / w))
around_at w h l u k o p =
    let e : k / w * w + k % w ≡ k = div-add-mod' k w in
    let x : k % w < w = mod-lt k o in
    let y : k / w < h = row_lt w h (k % w) (k / w) (subst (λ (m : ℕ). m < h * w) (sym e) p) in
    subst (λ (m : ℕ). any_of w h (first_beside l w) (second_beside l w) (first_beside u h) (second_beside u h) m ≡ (beside l (k % w) && beside u (k / w))) e
    (four w h (first_beside l w) (second_beside l w) (first_beside u h) (second_beside u h) (k % w) (k / w) x y ∙ rw (beside_at l w (k % w) x, beside_at u h (k / w) y))

-- l and u are the signed column and row as the code has them, and m and v as the contract does
pub marked_around : (w h : ℕ) (l u m v : ℤ) (left right below above : ℕ) (st st₁ st₂ st₃ st₄ : List ℕ) → 1 ≤ w → length st ≡ h * w → l ≡ m → u ≡ v
    → left ≡ first_beside l w → right ≡ second_beside l w → below ≡ first_beside u h → above ≡ second_beside u h
    → st₁ ≡ painted corner (is_cell w h left below) st → st₂ ≡ painted corner (is_cell w h right below) st₁ → st₃ ≡ painted corner (is_cell w h left above) st₂ → st₄ ≡ painted corner (is_cell w h right above) st₃
    → st₄ ≡ painted corner (λ k. beside m (k % w) && beside v (k / w)) st
marked_around w h l u m v left right below above st st₁ st₂ st₃ st₄ o n f g e₁ e₂ e₃ e₄ p₁ p₂ p₃ p₄ =
    painted_four corner (λ b. refl) (is_cell w h left below) (is_cell w h right below) (is_cell w h left above) (is_cell w h right above) st st₁ st₂ st₃ st₄ p₁ p₂ p₃ p₄
    ∙ painted_same_below corner _ _ st (λ k p. rw (e₁, e₂, e₃, e₄, f, g) (around_at w h m v k o (subst (λ (j : ℕ). k < j) n p)))
