-- Finding over cells with orders above their three bits, over plain lists. Assumes nothing.
--     byte_small     a cell's byte has no more than the three bits
--     above_at       a cell with its order above
--     found_above    finding leaves the orders as they are, and makes the tests that it would make without them
--     made_above
--     found_below    so what is left of plain cells once they are taken out is what finding leaves without them
--     flags_below    and the same cells have the error bit
use mathlib.Core.Path.{◌≡◌, refl, sym, ◌∙◌, ap, subst}
use mathlib.Core.Bool.{Bool, true, false, cond}
use mathlib.Core.List.{List}
use mathlib.Core.Logic.{dite}
use Prim.Native.Nat.{ℕ, ◌+◌, ◌*◌, ◌/◌, ◌%◌, ◌<◌}
use native.Mathlib.Decide.{ℕ_discrete}
use native.Mathlib.Omega.{arith}
use lib.Dec.{eqb}
use lib.ListN.{length, get_or}
use lib.Ieee.{Float}
use borrow.Author.Tests.{eq-eqb, ne_eqb}
use Rattle.ranges.specs.declared.config.Settings.{Settings}
use Rattle.ground.specs.Lists.{tab, total}
use Rattle.ground.proofs.Laws.Fill.{tab_length, tab_at, tab_same}
use Rattle.ground.proofs.Laws.Spent.{total_same}
use Rattle.detectors.specs.Orders.{order_code}
use Rattle.inputs.specs.Stencil.{stencil_byte, is_protected, is_error, set_error}
use Rattle.correction.specs.Bitmap.{texel}
use Rattle.correction.specs.Errors.{has_artifact}
use Rattle.correction.specs.Inner.{marked, found, made_for, made_in, with_orders, without_orders}

pub byte_small : (c p e : Bool) → stencil_byte c p e < 8
unfolding stencil_byte
byte_small true true true = omega arith
byte_small true true false = omega arith
byte_small true false true = omega arith
byte_small true false false = omega arith
byte_small false true true = omega arith
byte_small false true false = omega arith
byte_small false false true = omega arith
byte_small false false false = omega arith

-- ---- a byte v with an order o above it

protected_above : (v o : ℕ) → is_protected (v + 8 * o) ≡ is_protected v
unfolding is_protected
protected_above v o = let e : (v + 8 * o) / 2 % 2 ≡ v / 2 % 2 = omega arith in ap (λ (n : ℕ). eqb n 1) e

error_above : (v o : ℕ) → is_error (v + 8 * o) ≡ is_error v
unfolding is_error
error_above v o = let e : (v + 8 * o) % 2 ≡ v % 2 = omega arith in ap (λ (n : ℕ). eqb n 1) e

set_above : (v o : ℕ) → set_error (v + 8 * o) ≡ set_error v + 8 * o
unfolding set_error
set_above v o = ap (λ (b : Bool). cond b (v + 8 * o) (v + 8 * o + 1)) (error_above v o) ∙ go (is_error v)
  where
    go : (b : Bool) → cond b (v + 8 * o) (v + 8 * o + 1) ≡ cond b v (v + 1) + 8 * o
    go true = refl
    go false = omega arith

-- an error bit fits beside the other two
set_small : (v : ℕ) → v < 8 → set_error v < 8
unfolding set_error is_error
set_small v l = dite (ℕ_discrete (v % 2) 1) (λ e. subst (λ (b : Bool). cond b v (v + 1) < 8) (sym (eq-eqb (v % 2) 1 e)) l) (λ n. subst (λ (b : Bool). cond b v (v + 1) < 8) (sym (ne_eqb (v % 2) 1 n)) (omega arith))

pub above_at : (xs : List Float) (w ch : ℕ) (st : List ℕ) (k : ℕ) → k < length st → get_or (with_orders xs w ch st) k 0 ≡ get_or st k 0 + 8 * order_code (texel xs w ch (k % w) (k / w))
unfolding with_orders
above_at xs w ch st k l = tab_at (length st) (λ j. get_or st j 0 + 8 * order_code (texel xs w ch (j % w) (j / w))) k 0 l

module _ (xs : List Float) (w h ch : ℕ) (s : Settings) where
  abbrev order : ℕ → ℕ
  order k = order_code (texel xs w ch (k % w) (k / w))

  marked_above : (v o x y : ℕ) → marked xs w h ch s (v + 8 * o) x y ≡ marked xs w h ch s v x y + 8 * o
  unfolding marked
  marked_above v o x y =
      ap (λ (b : Bool). cond (has_artifact (texel xs w ch) w h s b x y) (set_error (v + 8 * o)) (v + 8 * o)) (protected_above v o)
      ∙ go (has_artifact (texel xs w ch) w h s (is_protected v) x y)
    where
      go : (b : Bool) → cond b (set_error (v + 8 * o)) (v + 8 * o) ≡ cond b (set_error v) v + 8 * o
      go true = set_above v o
      go false = refl

  marked_small : (v x y : ℕ) → v < 8 → marked xs w h ch s v x y < 8
  unfolding marked
  marked_small v x y l = go (has_artifact (texel xs w ch) w h s (is_protected v) x y)
    where
      go : (b : Bool) → cond b (set_error v) v < 8
      go true = set_small v l
      go false = l

  -- ---- cells st
  module _ (st : List ℕ) where
    abbrev n : ℕ
    n = length st

    long : length (with_orders xs w ch st) ≡ n
    unfolding with_orders
    long = tab_length n (λ k. get_or st k 0 + 8 * order k)

    abbrev mark : ℕ → ℕ
    mark k = marked xs w h ch s (get_or st k 0) (k % w) (k / w)

    found_above : found xs w h ch s (with_orders xs w ch st) ≡ tab (length st) (λ k. marked xs w h ch s (get_or st k 0) (k % w) (k / w) + 8 * order_code (texel xs w ch (k % w) (k / w)))
    unfolding found
    found_above =
        ap (λ (m : ℕ). tab m (λ k. marked xs w h ch s (get_or (with_orders xs w ch st) k 0) (k % w) (k / w))) long
        ∙ tab_same n _ _ (λ k l. ap (λ (v : ℕ). marked xs w h ch s v (k % w) (k / w)) (above_at xs w ch st k l) ∙ marked_above (get_or st k 0) (order k) (k % w) (k / w))

    pub made_above : made_in xs w h ch s (with_orders xs w ch st) ≡ made_in xs w h ch s st
    unfolding made_in made_for
    made_above =
        ap (λ (m : ℕ). total m (λ k. made_for xs w h ch s (get_or (with_orders xs w ch st) k 0) (k % w) (k / w))) long
        ∙ total_same n _ _ (λ k l. ap (λ (v : ℕ). made_for xs w h ch s v (k % w) (k / w)) (above_at xs w ch st k l) ∙ same k)
      where
        same : (k : ℕ) → made_for xs w h ch s (get_or st k 0 + 8 * order k) (k % w) (k / w) ≡ made_for xs w h ch s (get_or st k 0) (k % w) (k / w)
        same k = rw (protected_above (get_or st k 0) (order k))

    found_at : (k : ℕ) → k < n → get_or (found xs w h ch s st) k 0 ≡ mark k
    unfolding found
    found_at k l = tab_at n mark k 0 l

    module _ (st' : List ℕ) (e : st' ≡ found xs w h ch s (with_orders xs w ch st)) where
      at' : (k : ℕ) → k < n → get_or st' k 0 ≡ mark k + 8 * order k
      at' k l = ap (λ (z : List ℕ). get_or z k 0) (e ∙ found_above) ∙ tab_at n (λ j. mark j + 8 * order j) k 0 l

      pub found_below : ((k : ℕ) → k < length st → get_or st k 0 < 8) → without_orders st' ≡ found xs w h ch s st
      unfolding without_orders found
      found_below small =
          ap (λ (m : ℕ). tab m (λ k. get_or st' k 0 % 8)) (ap length (e ∙ found_above) ∙ tab_length n (λ j. mark j + 8 * order j))
          ∙ tab_same n _ _ (λ k l. ap (λ (v : ℕ). v % 8) (at' k l) ∙ low (mark k) (order k) (marked_small (get_or st k 0) (k % w) (k / w) (small k l)))
        where
          low : (v o : ℕ) → v < 8 → (v + 8 * o) % 8 ≡ v
          low v o l = omega arith

      pub flags_below : (k : ℕ) → k < length st → is_error (get_or st' k 0) ≡ is_error (get_or (found xs w h ch s st) k 0)
      flags_below k l = ap is_error (at' k l) ∙ error_above (mark k) (order k) ∙ ap is_error (sym (found_at k l))
