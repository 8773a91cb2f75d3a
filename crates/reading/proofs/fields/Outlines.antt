-- The loop through the contours: how far it has come, and that it ends where the definition has it. Assumes nothing.
use mathlib.Core.Bool.{true, false}
use mathlib.Core.List.{List}
use mathlib.Core.Path.{◌≡◌, refl, sym, ap, ◌∙◌}
use Prim.Native.Nat.{ℕ, zero, suc, ◌+◌, ◌-◌, ◌/◌, ◌≤◌}
use native.Mathlib.Numerals.{add-one}
use native.Mathlib.Omega.{arith}
use lib.ListN.{length, get_or}
use borrow.Author.Tests.{lt-ltb, eq-eqb, ne_eqb}
use Rattle.reading.specs.Grammar.{length_at, contour_breach, start, before, good_contour, contours_from, contours, is_contour, outline_breach}
use Rattle.reading.specs.Inner.{Reached, Outlined}
use Rattle.reading.proofs.fields.Breaches.{contour_tag, contour_fine}

-- before the first contour
pub reached_none : (s : List ℕ) {at : ℕ} → at ≡ 44 → at ≤ length s → Reached s at 0 0
unfolding start before contours
reached_none s e h = record { place = e; segments = refl; inside = h; few = omega arith; sparse = omega arith; same = refl }

-- where the next contour starts, and how many segments stand before it
pub start_next : (s : List ℕ) (k : ℕ) → start s (k + 1) ≡ start s k + 3 + length_at s (start s k)
unfolding start
start_next s k = ap (start s) (add-one k)

-- how many segments stand before the next contour
pub before_next : (s : List ℕ) (k : ℕ) → before s (k + 1) ≡ before s k + length_at s (start s k) / 17
unfolding before
before_next s k = ap (before s) (add-one k)

-- one more where contour k is good, and no more where it is not
from_good : (room : ℕ) (s : List ℕ) (k : ℕ) → good_contour s k ≡ true → contours_from (suc room) s k ≡ contours_from room s (suc k)
unfolding contours_from
from_good room s k e = simp e

from_bad : (room : ℕ) (s : List ℕ) (k : ℕ) → good_contour s k ≡ false → contours_from room s k ≡ k
unfolding contours_from
from_bad zero s k e = refl
from_bad (suc room) s k e = simp e

module _ (s : List ℕ) (short : length s ≤ 65536) (at k n : ℕ) (r : Reached s at k n) where
  good : contour_breach s at k n ≡ 65537 → good_contour s k ≡ true
  unfolding good_contour
  good e = rw (← r.place, ← r.segments) (eq-eqb (contour_breach s at k n) 65537 e)

  bad : (contour_breach s at k n ≡ 65537 → ⊥) → good_contour s k ≡ false
  unfolding good_contour
  bad e = rw (← r.place, ← r.segments) (ne_eqb (contour_breach s at k n) 65537 e)

  -- one more contour that is good
  pub reached_more : contour_breach s at k n ≡ 65537 → Reached s (at + 3 + length_at s at) (k + 1) (n + length_at s at / 17)
  reached_more e =
      let i = r.inside in
      let f = contour_fine s short at k n (omega arith) e in
      let z : 64 - k ≡ suc (64 - (k + 1)) = omega (arith, f.room) in
      record {
        place = ap (λ (a : ℕ). a + 3 + length_at s a) r.place ∙ sym (start_next s k);
        segments = rw (r.place, r.segments) (sym (before_next s k));
        inside = f.whole;
        few = omega (arith, f.room);
        sparse = f.few;
        same = r.same ∙ ap (λ (m : ℕ). contours_from m s k) z ∙ from_good (64 - (k + 1)) s k (good e) ∙ ap (contours_from (64 - (k + 1)) s) (sym (add-one k));
      }

  -- the first that is not
  reached_end : (contour_breach s at k n ≡ 65537 → ⊥) → Outlined s at k n
  reached_end e =
      record {
        count = sym (r.same ∙ from_bad (64 - k) s k (bad e));
        place = r.place;
        segments = r.segments;
        inside = r.inside;
        few = r.few;
        sparse = r.sparse;
      }

  -- no contour follows
  not_contour : is_contour s at ≡ false → contour_breach s at k n ≡ 65537 → ⊥
  unfolding is_contour
  not_contour i e =
      let l = r.inside in
      let f = contour_tag s short at k n (omega arith) e in
      let z : true ≡ false = sym (simp (lt-ltb at (length s) (omega arith), eq-eqb (get_or s at 0) 3 f.0)) ∙ i in
      let y : ◌≡◌ {A = ℕ} 0 1 = cc in
      omega arith

  -- the contours end where none follows, and none is broken
  pub outlined_all : is_contour s at ≡ false → Outlined s at k n
  outlined_all i = reached_end (not_contour i)

  pub outlined_unbroken : is_contour s at ≡ false → outline_breach s ≡ 65537
  unfolding outline_breach
  outlined_unbroken i = let o = outlined_all i in rw (← o.count, ← o.place) (simp i)

  -- one that follows and has a breach is broken
  pub outlined_broken : is_contour s at ≡ true → (contour_breach s at k n ≡ 65537 → ⊥) → outline_breach s ≡ contour_breach s at k n
  unfolding outline_breach
  outlined_broken i e = let o = reached_end e in rw (← o.count, ← o.place, ← o.segments) (simp i)
