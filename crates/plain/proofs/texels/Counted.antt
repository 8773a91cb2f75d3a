-- Columns and rows as the code has them, with the one before the first outside, and counted from 1 as the definitions have them. Assumes nothing.
--     Same                       a column of n, by itself and counted from 1, is the same one or outside both ways
--     same_previous, same_own, same_next   the one before x, x itself and the one after it
--     is_inside                  a texel's column and row are inside
--     side_same, across_same     what a texel is towards a neighbour
--     lower_same, upper_same     whether its pair with one protects it
--     missing                    where nothing is read there is no texel
--     four_sides, four_across, four_lower, four_upper   its neighbours as the code joins them are those of the definitions
use Rattle.std.proofs.Common.{◌≡◌, ℕ, zero, suc, ◌+◌, ◌-◌, ◌<◌, ◌≤◌, Bool, true, false, ◌&&◌, ◌||◌, ltb, leb, cond, List, sym, refl, ◌∙◌, subst, arith, ltb-true, le-ltb, lt-ltb, ne_eqb, le-leb}
use Rattle.std.specs.Prelude.{Some, None}
use Rattle.std.proofs.lemmas.Option.{none-some}
use mathlib.Core.Logic.{dite}
use native.Mathlib.Decide.{dec_lt}
use lib.Ieee.{Float}
use borrow.Author.Tests.{lt-leb}
use Rattle.ground.proofs.Laws.Bools.{both_hold, guarded}
use Rattle.detectors.specs.Texel.{texel_median}
use Rattle.inputs.specs.Bounds.{in_bounds}
use Rattle.correction.specs.Errors.{side_artifact, some_side, diagonal_artifact, some_diagonal}
use Rattle.correction.specs.Edges.{as_lower, as_upper, some_lower, some_upper}
use Rattle.plain.specs.Inner.{previous, is_texel, towards_side, towards_across, lower_with, upper_with}

pub record Same (n x c : ℕ) : Type 0 where
  pub there : ltb x n ≡ (ltb 0 c && leb c n)
  pub back : x < n → c - 1 ≡ x

before : (x : ℕ) → previous (suc x) ≡ x
unfolding previous
before x = simp (ne_eqb (suc x) 0 (omega arith)) (omega arith)

first : previous 0 ≡ 4096
unfolding previous
first = refl

pub same_previous : (n x : ℕ) → n ≤ 4096 → x < n → Same n (previous x) x
same_previous n zero l p = subst (λ (k : ℕ). Same n k 0) (sym first) (record { there = le-ltb 4096 n l; back = λ b. absurd (omega (arith, b, l)) })
same_previous n (suc x) l p =
    subst (λ (k : ℕ). Same n k (suc x)) (sym (before x))
    (record { there = lt-ltb x n (omega (arith, p)) ∙ sym (simp (lt-ltb 0 (suc x) (omega arith), le-leb (suc x) n (omega (arith, p)))); back = λ b. omega arith })

counted : (n x c : ℕ) → c ≡ x + 1 → Same n x c
counted n x c e =
    record {
      there =
          dite (dec_lt x n)
          (λ p. lt-ltb x n p ∙ sym (simp (lt-ltb 0 c (omega (arith, e)), le-leb c n (omega (arith, e, p)))))
          (λ p. le-ltb x n (omega arith) ∙ sym (simp (lt-ltb 0 c (omega (arith, e)), lt-leb c n (omega (arith, e, p)))));
      back = λ b. omega (arith, e);
    }

pub same_own : (n x : ℕ) → Same n x (x + 1)
same_own n x = counted n x (x + 1) refl

pub same_next : (n x : ℕ) → Same n (x + 1) (x + 2)
same_next n x = counted n (x + 1) (x + 2) (omega arith)

four : (a b c d : Bool) → ((a && b) && (c && d)) ≡ (a && (b && (c && d)))
four true b c d = refl
four false b c d = refl

-- a texel's column and row are inside
pub is_inside : (w h x y : ℕ) → is_texel w h x y ≡ true → (x < w) × (y < h)
unfolding is_texel
is_inside w h x y e = let b = both_hold (ltb x w) (ltb y h) e in (ltb-true x w b.0, ltb-true y h b.1)

-- what is read where there is no texel
pub missing : {A : Type 0} (b : Bool) (x : A) → None ≡ cond b (Some x) None → b ≡ false
missing true x e = absurd (none-some x e)
missing false x e = refl

module _ (tex : ℕ → ℕ → List Float) (w h x y nx ny cx cy : ℕ) (p : Same w nx cx) (q : Same h ny cy) where
  inside : is_texel w h nx ny ≡ in_bounds w h cx cy
  unfolding is_texel in_bounds
  inside = rw (p.there, q.there) (four (ltb 0 cx) (leb cx w) (ltb 0 cy) (leb cy h))

  -- where the neighbour is a texel its column and its row are those counted from 1, less 1
  at : is_texel w h nx ny ≡ true → (nx ≡ cx - 1) × (ny ≡ cy - 1)
  at e = let b = is_inside w h nx ny e in (sym (p.back b.0), sym (q.back b.1))

  pub side_same : (span : Float) (protected : Bool) → towards_side tex w h span protected x y nx ny ≡ side_artifact tex w h span protected (texel_median (tex x y)) (tex x y) cx cy
  unfolding towards_side side_artifact
  side_same span protected = guarded (is_texel w h nx ny) (in_bounds w h cx cy) _ _ inside (λ e. rw ((at e).0, (at e).1))

  pub across_same : (span : Float) (protected : Bool) → towards_across tex w h span protected x y nx ny ≡ diagonal_artifact tex w h span protected (texel_median (tex x y)) (tex x y) x y cx cy
  unfolding towards_across diagonal_artifact
  across_same span protected = guarded (is_texel w h nx ny) (in_bounds w h cx cy) _ _ inside (λ e. rw ((at e).0, (at e).1))

  pub lower_same : (r : Float) → lower_with tex w h r x y nx ny ≡ as_lower tex w h r x y cx cy
  unfolding lower_with as_lower
  lower_same r = guarded (is_texel w h nx ny) (in_bounds w h cx cy) _ _ inside (λ e. rw ((at e).0, (at e).1))

  pub upper_same : (r : Float) → upper_with tex w h r x y nx ny ≡ as_upper tex w h r x y cx cy
  unfolding upper_with as_upper
  upper_same r = guarded (is_texel w h nx ny) (in_bounds w h cx cy) _ _ inside (λ e. rw ((at e).0, (at e).1))

or_right : (a b c : Bool) → ((a || b) || c) ≡ (a || (b || c))
or_right true b c = refl
or_right false b c = refl

or_four : (a b c d : Bool) → (((a || b) || c) || d) ≡ (a || (b || (c || d)))
or_four true b c d = refl
or_four false b c d = or_right b c d

-- ---- texel x, y and its neighbours, four at a time; l and u are the column and the row before its own

module _ (tex : ℕ → ℕ → List Float) (w h x y : ℕ) (wide : w ≤ 4096) (high : h ≤ 4096) (column : x < w) (row : y < h) {l u : ℕ} (left : l ≡ previous x) (below : u ≡ previous y) where
  before_x : Same w l x
  before_x = subst (λ (k : ℕ). Same w k x) (sym left) (same_previous w x wide column)

  before_y : Same h u y
  before_y = subst (λ (k : ℕ). Same h k y) (sym below) (same_previous h y high row)

  pub four_sides : (hs vs : Float) (protected : Bool) {a b c d : Bool}
      → a ≡ towards_side tex w h hs protected x y l y → b ≡ towards_side tex w h vs protected x y x u → c ≡ towards_side tex w h hs protected x y (x + 1) y → d ≡ towards_side tex w h vs protected x y x (y + 1)
      → (((a || b) || c) || d) ≡ some_side tex w h hs vs protected (texel_median (tex x y)) (tex x y) x y
  unfolding some_side
  four_sides hs vs protected {a} {b} {c} {d} e f g i =
      or_four a b c d
      ∙ rw (
        e ∙ side_same tex w h x y l y x (y + 1) before_x (same_own h y) hs protected,
        f ∙ side_same tex w h x y x u (x + 1) y (same_own w x) before_y vs protected,
        g ∙ side_same tex w h x y (x + 1) y (x + 2) (y + 1) (same_next w x) (same_own h y) hs protected,
        i ∙ side_same tex w h x y x (y + 1) (x + 1) (y + 2) (same_own w x) (same_next h y) vs protected,
      )

  pub four_across : (ds : Float) (protected : Bool) {a b c d : Bool}
      → a ≡ towards_across tex w h ds protected x y l u → b ≡ towards_across tex w h ds protected x y (x + 1) u → c ≡ towards_across tex w h ds protected x y l (y + 1) → d ≡ towards_across tex w h ds protected x y (x + 1) (y + 1)
      → (((a || b) || c) || d) ≡ some_diagonal tex w h ds protected (texel_median (tex x y)) (tex x y) x y
  unfolding some_diagonal
  four_across ds protected {a} {b} {c} {d} e f g i =
      or_four a b c d
      ∙ rw (
        e ∙ across_same tex w h x y l u x y before_x before_y ds protected,
        f ∙ across_same tex w h x y (x + 1) u (x + 2) y (same_next w x) before_y ds protected,
        g ∙ across_same tex w h x y l (y + 1) x (y + 2) before_x (same_next h y) ds protected,
        i ∙ across_same tex w h x y (x + 1) (y + 1) (x + 2) (y + 2) (same_next w x) (same_next h y) ds protected,
      )

  pub four_lower : (rh rv rd : Float) {a b c d : Bool}
      → a ≡ lower_with tex w h rh x y (x + 1) y → b ≡ lower_with tex w h rv x y x (y + 1) → c ≡ lower_with tex w h rd x y (x + 1) (y + 1) → d ≡ lower_with tex w h rd x y l (y + 1)
      → (((a || b) || c) || d) ≡ some_lower tex w h rh rv rd x y
  unfolding some_lower
  four_lower rh rv rd {a} {b} {c} {d} e f g i =
      or_four a b c d
      ∙ rw (
        e ∙ lower_same tex w h x y (x + 1) y (x + 2) (y + 1) (same_next w x) (same_own h y) rh,
        f ∙ lower_same tex w h x y x (y + 1) (x + 1) (y + 2) (same_own w x) (same_next h y) rv,
        g ∙ lower_same tex w h x y (x + 1) (y + 1) (x + 2) (y + 2) (same_next w x) (same_next h y) rd,
        i ∙ lower_same tex w h x y l (y + 1) x (y + 2) before_x (same_next h y) rd,
      )

  pub four_upper : (rh rv rd : Float) {a b c d : Bool}
      → a ≡ upper_with tex w h rh x y l y → b ≡ upper_with tex w h rv x y x u → c ≡ upper_with tex w h rd x y l u → d ≡ upper_with tex w h rd x y (x + 1) u
      → (((a || b) || c) || d) ≡ some_upper tex w h rh rv rd x y
  unfolding some_upper
  four_upper rh rv rd {a} {b} {c} {d} e f g i =
      or_four a b c d
      ∙ rw (
        e ∙ upper_same tex w h x y l y x (y + 1) before_x (same_own h y) rh,
        f ∙ upper_same tex w h x y x u (x + 1) y (same_own w x) before_y rv,
        g ∙ upper_same tex w h x y l u x y before_x before_y rd,
        i ∙ upper_same tex w h x y (x + 1) u (x + 2) y (same_next w x) before_y rd,
      )
