-- What a breach says, and what is there where a field has none. Assumes nothing.
use mathlib.Core.Bool.{Bool, true, false, cond, not}
use mathlib.Core.List.{List}
use mathlib.Core.Path.{◌≡◌, refl, sym, ap, ◌∙◌}
use Prim.Native.Nat.{ℕ, zero, suc, ◌+◌, ◌-◌, ◌*◌, ◌/◌, ◌%◌, ◌≤◌, ◌<◌}
use native.Mathlib.Nat.{not-suc-le-zero}
use native.Mathlib.Omega.{arith}
use lib.Dec.{eqb, ltb, leb}
use lib.ListN.{length, get_or}
use borrow.Author.Tests.{eq-eqb, ne_eqb, eqb-true, eqb-false, ltb-false, leb-false, not-false}
use Rattle.reading.specs.Grammar.{fine, or_else, length_at, head_breach, body_breach, field_breach, contour_breach, rows_breach}

-- the first of two breaches, where the first is one, and where it is none
pub found : (a b : ℕ) → (a ≡ 65537 → ⊥) → or_else a b ≡ a
unfolding or_else
found a b n = simp (ne_eqb a 65537 n)

-- where the first is none
pub passed : (a b : ℕ) → a ≡ 65537 → or_else a b ≡ b
unfolding or_else
passed a b e = simp (eq-eqb a 65537 e)

-- a breach that the first of two checks finds
pub found_at : {a n : ℕ} (b : ℕ) → (n ≡ a) × (n ≡ 65537 → ⊥) → (n ≡ or_else a b) × (n ≡ 65537 → ⊥)
found_at {a} b q = (q.0 ∙ sym (found a b (λ z. q.1 (q.0 ∙ z))), q.1)

-- no breach where a test fails
pub test_fine : (t : Bool) (x y : ℕ) → (x ≡ 65537 → ⊥) → cond t x y ≡ 65537 → (t ≡ false) × (y ≡ 65537)
test_fine true x y n e = absurd (n e)
test_fine false x y n e = (refl, e)

both_go : (a b : ℕ) (t : Bool) → eqb a 65537 ≡ t → cond t b a ≡ 65537 → (a ≡ 65537) × (b ≡ 65537)
both_go a b true h e = (eqb-true a 65537 h, e)
both_go a b false h e = absurd (eqb-false a 65537 h e)

-- neither of two is a breach
pub both_fine : (a b : ℕ) → or_else a b ≡ 65537 → (a ≡ 65537) × (b ≡ 65537)
unfolding or_else
both_fine a b e = both_go a b (eqb a 65537) refl e

module _ (s : List ℕ) (short : length s ≤ 65536) (at : ℕ) where
  no_end : length s ≡ 65537 → ⊥
  no_end e = omega arith

  -- a head without a breach
  pub head_fine : (tag : ℕ) → at ≤ 65536 → head_breach s at tag ≡ 65537 → (get_or s at 0 ≡ tag) × (at + 3 ≤ length s)
  unfolding head_breach
  head_fine tag l e =
      let p = test_fine (leb (length s) at) (length s) _ no_end e in
      let q = test_fine (not (eqb (get_or s at 0) tag)) at _ (λ z. omega arith) p.1 in
      let r = test_fine (ltb (length s) (at + 3)) (length s) _ no_end q.1 in
      (eqb-true (get_or s at 0) tag (not-false (eqb (get_or s at 0) tag) q.0), ltb-false (length s) (at + 3) r.0)

  -- contents without a breach
  body_fine : (len : ℕ) → body_breach s at len ≡ 65537 → at + 3 + len ≤ length s
  unfolding body_breach
  body_fine len e = ltb-false (length s) (at + 3 + len) (test_fine (ltb (length s) (at + 3 + len)) (length s) fine no_end e).0

  -- a field of a given length without a breach
  pub field_fine : (tag len : ℕ) → at ≤ 65536 → field_breach s at tag len ≡ 65537 → at + 3 + len ≤ length s
  unfolding field_breach
  field_fine tag len l e =
      let p = both_fine (head_breach s at tag) _ e in
      body_fine len (test_fine (not (eqb (length_at s at) len)) at _ (λ z. omega arith) p.1).1

  -- and its length
  pub field_length : (tag len : ℕ) → at ≤ 65536 → field_breach s at tag len ≡ 65537 → length_at s at ≡ len
  unfolding field_breach
  field_length tag len l e =
      let p = both_fine (head_breach s at tag) _ e in
      eqb-true (length_at s at) len (not-false (eqb (length_at s at) len) (test_fine (not (eqb (length_at s at) len)) at _ (λ z. omega arith) p.1).0)

  -- a contour without a breach
  pub record Contour (k n : ℕ) : Type 0 where
    pub whole : at + 3 + length_at s at ≤ length s
    pub segments : length_at s at % 17 ≡ 0
    pub room : k < 64
    pub few : n + length_at s at / 17 ≤ 256

  -- its tag
  pub contour_tag : (k n : ℕ) → at ≤ 65536 → contour_breach s at k n ≡ 65537 → (get_or s at 0 ≡ 3) × (at + 3 ≤ length s)
  unfolding contour_breach
  contour_tag k n l e = head_fine 3 l (both_fine (head_breach s at 3) _ e).0

  -- what is there of a contour without a breach
  pub contour_fine : (k n : ℕ) → at ≤ 65536 → contour_breach s at k n ≡ 65537 → Contour k n
  unfolding contour_breach
  contour_fine k n l e =
      let no-at : at ≡ 65537 → ⊥ = λ z. omega arith in
      let p = both_fine (head_breach s at 3) _ e in
      let q = test_fine (not (eqb (length_at s at % 17) 0)) at _ no-at p.1 in
      let r = test_fine (leb 64 k) at _ no-at q.1 in
      let t = test_fine (ltb 256 (n + length_at s at / 17)) at _ no-at r.1 in
      record {
        whole = body_fine (length_at s at) t.1;
        segments = eqb-true (length_at s at % 17) 0 (not-false (eqb (length_at s at % 17) 0) q.0);
        room = leb-false 64 k r.0;
        few = ltb-false 256 (n + length_at s at / 17) t.0;
      }

-- ---- rows

-- the first of the rows, and the others
pub rows_step : (left : ℕ) (s : List ℕ) (at n : ℕ) → 0 < left → rows_breach left s at n ≡ or_else (field_breach s at 4 (4 * n)) (rows_breach (left - 1) s (at + (3 + 4 * n)) n)
unfolding rows_breach
rows_step zero s at n h = absurd (not-suc-le-zero h)
rows_step (suc left) s at n h =
    let z : left ≡ suc left - 1 = omega arith in
    ap (λ (m : ℕ). or_else (field_breach s at 4 (4 * n)) (rows_breach m s (at + (3 + 4 * n)) n)) z

-- no row is left
pub rows_none : (left : ℕ) (s : List ℕ) (at n : ℕ) → left ≤ 0 → rows_breach left s at n ≡ 65537
unfolding rows_breach
rows_none zero s at n h = refl
rows_none (suc left) s at n h = absurd (not-suc-le-zero h)
