-- The medians of two rows in the room by turns. Assumes nothing.
--     row_lies      a place of a row is one of the room's
--     row_again     two rows further the place is the same
--     rows_apart    two rows that follow one another have no place in common
--     Written       the medians of row y are written up to column x, and the other row is as it was
--     written_none  none is
--     written_more  one more is
--     row_kept      a row stays where the next is written
--     rows_near     the row and the next are in the room
use mathlib.Core.Path.{◌≡◌, refl, sym, ◌∙◌, ap, subst}
use mathlib.Core.List.{List}
use mathlib.Core.Logic.{dite}
use Prim.Native.Nat.{ℕ, ◌+◌, ◌*◌, ◌%◌, ◌<◌, ◌≤◌}
use native.Mathlib.Nat.{mul-le-mul_right, ne_of_lt}
use native.Mathlib.Decide.{ℕ_discrete}
use native.Mathlib.Omega.{arith}
use lib.ListN.{length, get_or, set, length-set}
use lib.Seq.{get_or-set_same, get_or-set_other}
use lib.Ieee.{Float, nan}
use borrow.Author.Count.{below_none, below_more}
use Rattle.inputs.specs.declared.sizes.Window.{Window}
use Rattle.inputs.specs.Window.{cut_samples}
use Rattle.detectors.specs.Texel.{texel_median}
use Rattle.correction.specs.Bitmap.{texel}
use Rattle.correction.specs.Inner.{row_place, Medians, Rows}

pub row_lies : (g : Window) (x y n : ℕ) → x < g.width → 2 * g.width ≤ n → row_place g y + x < n
row_lies g x y n l m =
    let h : y % 2 ≤ 1 = omega arith in
    omega (arith, mul-le-mul_right g.width h)

row_again : (g : Window) (y : ℕ) → row_place g (y + 1 + 1) ≡ row_place g y
row_again g y = let e : (y + 1 + 1) % 2 ≡ y % 2 = omega arith in ap (λ (k : ℕ). k * g.width) e

rows_apart : (g : Window) (x u y : ℕ) → x < g.width → u < g.width → row_place g (y + 1) + u ≡ row_place g y + x → ⊥
rows_apart g x u y l m e =
    dite (ℕ_discrete (y % 2) 0)
    (λ p. let q : (y + 1) % 2 ≡ 1 = omega arith in omega (arith, ap (λ (k : ℕ). k * g.width) p, ap (λ (k : ℕ). k * g.width) q))
    (λ n. let p : y % 2 ≡ 1 = omega (arith, n) in let q : (y + 1) % 2 ≡ 0 = omega arith in omega (arith, ap (λ (k : ℕ). k * g.width) p, ap (λ (k : ℕ). k * g.width) q))

-- the median of texel x, y
abbrev median : Window → List Float → ℕ → ℕ → Float
median g xs x y = texel_median (texel (cut_samples g xs) g.width g.channels x y)

pub record Written (g : Window) (xs room₀ : List Float) (y : ℕ) (room : List Float) (x : ℕ) : Type 0 where
  pub few : x ≤ g.width
  pub long : length room ≡ length room₀
  pub done : (u : ℕ) → u < x → get_or room (row_place g y + u) nan ≡ median g xs u y
  pub rest : (u : ℕ) → u < g.width → get_or room (row_place g (y + 1) + u) nan ≡ get_or room₀ (row_place g (y + 1) + u) nan

module _ (g : Window) (xs room₀ : List Float) (y : ℕ) where
  pub written_none : Written g xs room₀ y room₀ 0
  written_none = record { few = omega arith; long = refl; done = below_none (λ u. get_or room₀ (row_place g y + u) nan ≡ median g xs u y); rest = λ u l. refl }

  pub written_more : {room : List Float} {x : ℕ} {v : Float} (p : ℕ) → Written g xs room₀ y room x → x < g.width → 2 * g.width ≤ length room₀ → p ≡ row_place g y + x → v ≡ median g xs x y → Written g xs room₀ y (set room p v) (x + 1)
  written_more {room} {x} {v} p i l m e f = subst (λ (q : ℕ). Written g xs room₀ y (set room q v) (x + 1)) (sym e) more
    where
      lies : row_place g y + x < length room
      lies = subst (λ (n : ℕ). row_place g y + x < n) (sym i.long) (row_lies g x y (length room₀) l m)

      more : Written g xs room₀ y (set room (row_place g y + x) v) (x + 1)
      more =
          record {
            few = omega arith;
            long = length-set room (row_place g y + x) v ∙ i.long;
            done =
                below_more (λ u. get_or (set room (row_place g y + x) v) (row_place g y + u) nan ≡ median g xs u y) x
                (λ u h. get_or-set_other room (row_place g y + x) (row_place g y + u) v nan (λ q. let z : u ≡ x = omega (arith, q) in ne_of_lt h z) ∙ i.done u h)
                (get_or-set_same room (row_place g y + x) v nan lies ∙ f);
            rest = λ u h. get_or-set_other room (row_place g y + x) (row_place g (y + 1) + u) v nan (rows_apart g x u y l h) ∙ i.rest u h;
          }

pub row_kept : (g : Window) (xs room room' : List Float) (y : ℕ) → Medians g xs room y → ((x : ℕ) → x < g.width → get_or room' (row_place g (y + 1 + 1) + x) nan ≡ get_or room (row_place g (y + 1 + 1) + x) nan) → Medians g xs room' y
row_kept g xs room room' y p h x l =
    subst (λ (k : ℕ). get_or room' (k + x) nan ≡ get_or room (k + x) nan) (row_again g y) (h x l) ∙ p x l

pub rows_near : (g : Window) (xs room : List Float) (y v : ℕ) → Rows g xs room y → v < g.height → v ≤ y + 1 → y ≤ v → Medians g xs room v
rows_near g xs room y v r l m p =
    dite (ℕ_discrete y v)
    (λ e. subst (Medians g xs room) e r.own)
    (λ n. let e : y + 1 ≡ v = omega (arith, n) in subst (Medians g xs room) e (r.next (omega arith)))
