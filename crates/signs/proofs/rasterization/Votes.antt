-- Matches and their sums are small numbers, which their bits hold. Assumes nothing.
--     more            a small number is one by any larger bound
--     held8, held32   the bits of a small number give it again
--     read_again      a match that is widened to 32 bits
--     is_nought_law       a number whose bits are 0
--     sum_small       a sum of two small numbers
--     first_fits, second_fits, third_fits, four_sum   four matches are added in 32 bits
--     match_small, match_at_small   a match is from -1 to 1
--     near_small      a match near a texel, inside or not
--     vote_small      so a vote is from -4 to 4
use mathlib.Core.Path.{◌≡◌, refl, sym, ap, ◌∙◌, subst}
use mathlib.Core.Bool.{Bool, true, false, cond}
use mathlib.Core.List.{List}
use Prim.Native.Nat.{ℕ, suc, ◌+◌, ◌-◌, ◌*◌, ◌<◌, ◌≤◌, zero-le}
use native.Mathlib.Nat.{le_trans, le_refl}
use native.Mathlib.Omega.{arith}
use lib.Dec.{ltb}
use lib.IntN.{ℤ, pos, negsuc, nat_abs, sub_ℕ, ◌+ℤ◌}
use lib.Ieee.{Float, eq}
use lib.ListN.{get_or}
use mir.Syntax.{w8, w32}
use mir.Val.{SFits, to_z, of_z}
use mir.Facts.{to_z-of_z}
use borrow.Author.Tests.{ltb-true}
use Rattle.inputs.specs.Bounds.{in_bounds}
use Rattle.signs.specs.Signs.{filled_at, median_at, match_of, match_at, match_near, vote}
use Rattle.signs.specs.Flip.{is_amiss}
use Rattle.signs.specs.Inner.{UpTo}

-- a larger bound
pub more : {m n : ℕ} {z : ℤ} → UpTo m z → m ≤ n → UpTo n z
more p l = record { size = le_trans p.size l }

pub fits8 : (z : ℤ) → UpTo 1 z → SFits w8 z
fits8 (pos n) h = record { sfits = omega (arith, h.size) }
fits8 (negsuc n) h = record { sfits = omega (arith, h.size) }

pub fits32 : (z : ℤ) → UpTo 4 z → SFits w32 z
fits32 (pos n) h = record { sfits = omega (arith, h.size) }
fits32 (negsuc n) h = record { sfits = omega (arith, h.size) }

pub held8 : (z : ℤ) → UpTo 1 z → to_z w8 (of_z w8 z) ≡ z
held8 z h = to_z-of_z {w = w8} {z = z} (fits8 z h)

pub held32 : (z : ℤ) → UpTo 4 z → to_z w32 (of_z w32 z) ≡ z
held32 z h = to_z-of_z {w = w32} {z = z} (fits32 z h)

pub is_nought_law : (z : ℤ) → UpTo 1 z → of_z w8 z ≡ 0 → z ≡ pos 0
is_nought_law z h e = sym (held8 z h) ∙ ap (to_z w8) e

-- a match that is widened
pub read_again : (z : ℤ) → UpTo 1 z → to_z w32 (of_z w32 (to_z w8 (of_z w8 z))) ≡ z
read_again z h = ap (λ (x : ℤ). to_z w32 (of_z w32 x)) (held8 z h) ∙ held32 z (more h (omega arith))

apart : (a b m : ℕ) (t : Bool) → ltb a b ≡ t → a ≤ m → b ≤ m → nat_abs (cond t (negsuc (b - suc a)) (pos (a - b))) ≤ m
apart a b m true e p q = let l : a < b = ltb-true a b e in omega arith
apart a b m false e p q = omega arith

between : (a b m n : ℕ) → a ≤ m → b ≤ n → nat_abs (sub_ℕ a b) ≤ m + n
between a b m n p q = apart a b (m + n) (ltb a b) refl (omega arith) (omega arith)

sized : (m n : ℕ) (a b : ℤ) → nat_abs a ≤ m → nat_abs b ≤ n → nat_abs (a +ℤ b) ≤ m + n
sized m n (pos a) (pos b) p q = omega arith
sized m n (pos a) (negsuc b) p q = between a (suc b) m n p q
sized m n (negsuc a) (pos b) p q = let h = between b (suc a) n m q p in omega arith
sized m n (negsuc a) (negsuc b) p q = omega arith

pub sum_small : (m n : ℕ) (a b : ℤ) → UpTo m a → UpTo n b → UpTo (m + n) (a +ℤ b)
sum_small m n a b p q = record { size = sized m n a b p.size q.size }

-- what is read back of its bits
abbrev read : ℤ → ℤ
read z = to_z w32 (of_z w32 z)

-- four matches, added one after the other
module _ (a b d e : ℤ) (p : UpTo 1 a) (q : UpTo 1 b) (r : UpTo 1 d) (s : UpTo 1 e) where
  two : UpTo 2 (a +ℤ b)
  two = sum_small 1 1 a b p q

  three : UpTo 3 (a +ℤ b +ℤ d)
  three = sum_small 2 1 (a +ℤ b) d two r

  four : UpTo 4 (a +ℤ b +ℤ d +ℤ e)
  four = sum_small 3 1 (a +ℤ b +ℤ d) e three s

  first_is : read a +ℤ read b ≡ a +ℤ b
  first_is = ap (λ (x : ℤ). x +ℤ read b) (held32 a (more p (omega arith))) ∙ ap (λ (x : ℤ). a +ℤ x) (held32 b (more q (omega arith)))

  second_is : read (read a +ℤ read b) +ℤ read d ≡ a +ℤ b +ℤ d
  second_is =
      ap (λ (x : ℤ). read x +ℤ read d) first_is
      ∙ ap (λ (x : ℤ). x +ℤ read d) (held32 (a +ℤ b) (more two (omega arith)))
      ∙ ap (λ (x : ℤ). a +ℤ b +ℤ x) (held32 d (more r (omega arith)))

  third_is : read (read (read a +ℤ read b) +ℤ read d) +ℤ read e ≡ a +ℤ b +ℤ d +ℤ e
  third_is =
      ap (λ (x : ℤ). read x +ℤ read e) second_is
      ∙ ap (λ (x : ℤ). x +ℤ read e) (held32 (a +ℤ b +ℤ d) (more three (omega arith)))
      ∙ ap (λ (x : ℤ). a +ℤ b +ℤ d +ℤ x) (held32 e (more s (omega arith)))

  pub first_fits : SFits w32 (read a +ℤ read b)
  first_fits = subst (SFits w32) (sym first_is) (fits32 (a +ℤ b) (more two (omega arith)))

  pub second_fits : SFits w32 (read (read a +ℤ read b) +ℤ read d)
  second_fits = subst (SFits w32) (sym second_is) (fits32 (a +ℤ b +ℤ d) (more three (omega arith)))

  pub third_fits : SFits w32 (read (read (read a +ℤ read b) +ℤ read d) +ℤ read e)
  third_fits = subst (SFits w32) (sym third_is) (fits32 (a +ℤ b +ℤ d +ℤ e) four)

  pub four_sum : read (read (read (read a +ℤ read b) +ℤ read d) +ℤ read e) ≡ a +ℤ b +ℤ d +ℤ e
  four_sum = ap read third_is ∙ held32 (a +ℤ b +ℤ d +ℤ e) four

chosen : (b c : Bool) → UpTo 1 (cond b (pos 0) (cond c (negsuc 0) (pos 1)))
chosen true c = record { size = zero-le }
chosen false true = record { size = le_refl 1 }
chosen false false = record { size = le_refl 1 }

pub match_small : (z : Float) (filled : Bool) (m : Float) → UpTo 1 (match_of z filled m)
unfolding match_of
match_small z filled m = chosen (eq m z) (is_amiss z filled m)

pub match_at_small : (xs : List Float) (ch : ℕ) (z : Float) (filled : List ℕ) (k : ℕ) → UpTo 1 (match_at xs ch z filled k)
unfolding match_at
match_at_small xs ch z filled k = match_small z (filled_at filled k) (median_at xs ch k)

either : (b : Bool) (z : ℤ) → UpTo 1 z → UpTo 1 (cond b z (pos 0))
either true z h = h
either false z h = record { size = zero-le }

pub near_small : (w h : ℕ) (ms : List ℤ) (nx ny : ℕ) → ((k : ℕ) → UpTo 1 (get_or ms k (pos 0))) → UpTo 1 (match_near w h ms nx ny)
unfolding match_near
near_small w h ms nx ny s = either (in_bounds w h nx ny) _ (s ((ny - 1) * w + (nx - 1)))

pub vote_small : (w h : ℕ) (ms : List ℤ) (x y : ℕ) → ((k : ℕ) → UpTo 1 (get_or ms k (pos 0))) → UpTo 4 (vote w h ms x y)
unfolding vote
vote_small w h ms x y s =
    four (match_near w h ms x (y + 1)) (match_near w h ms (x + 2) (y + 1)) (match_near w h ms (x + 1) y) (match_near w h ms (x + 1) (y + 2))
    (near_small w h ms x (y + 1) s) (near_small w h ms (x + 2) (y + 1) s) (near_small w h ms (x + 1) y s) (near_small w h ms (x + 1) (y + 2) s)
