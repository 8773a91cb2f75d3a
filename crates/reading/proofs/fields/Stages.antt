-- The walk through the fields: what each stage gives the next. Assumes nothing.
use mathlib.Core.Bool.{true, false}
use mathlib.Core.List.{List}
use mathlib.Core.Logic.{dite}
use mathlib.Core.Path.{◌≡◌, sym, ap, subst, ◌∙◌}
use Prim.Native.Nat.{ℕ, suc, ◌+◌, ◌-◌, ◌*◌, ◌≤◌, ◌<◌}
use native.Mathlib.Nat.{zero-mul, suc-mul}
use native.Mathlib.Decide.{dec_lt}
use native.Mathlib.Omega.{arith}
use lib.ListN.{length, get_or}
use borrow.Author.Tests.{lt-ltb, le-ltb, eq-eqb, ne_eqb}
use Rattle.reading.specs.Grammar.{length_at, size_breach, field_breach, contour_breach, rows_breach, end_breach, breach, is_contour, start, height, row_size, rows_at, end_at}
use Rattle.reading.specs.Inner.{Told, Outlined, Whole, Outlining, Rowing}
use Rattle.reading.specs.declared.reader.Field.{Field}
use Rattle.reading.proofs.fields.Breaches.{found, both_fine, passed, field_fine, field_length, contour_fine, rows_step, rows_none}
use Rattle.reading.proofs.fields.Layouts.{size_fine, breach_rows, breach_end}
use Rattle.reading.proofs.fields.Outlines.{outlined_all, outlined_unbroken}

-- ---- the field that is told

-- what is told of a field is so at its own place
pub told_here : {s t : List ℕ} {at : ℕ} {f : Field} → Told t at f → t ≡ s → Told s f.at f
told_here {s} {t} {at} {f} w e = subst (λ (x : List ℕ). Told x f.at f) e (subst (λ (n : ℕ). Told t n f) (sym w.place) w)

module _ (s : List ℕ) (short : length s ≤ 65536) (f : Field) (told : Told s f.at f) (l : f.at ≤ 65536) where
  -- where a field of a given length without a breach ends
  pub next_field : (tag len : ℕ) → field_breach s f.at tag len ≡ 65537 → (f.next ≡ f.at + 3 + len) × (f.at + 3 + len ≤ length s)
  next_field tag len e =
      let n = field_length s short f.at tag len l e in
      let w = field_fine s short f.at tag len l e in
      (told.behind (subst (λ (k : ℕ). f.at + 3 + k ≤ length s) (sym n) w) ∙ ap (λ (k : ℕ). f.at + 3 + k) n, w)

  -- where the size field ends
  pub after_size : f.at ≡ 0 → size_breach s ≡ 65537 → (f.next ≡ 8) × (8 ≤ length s)
  unfolding size_breach
  after_size z e =
      let p = next_field 1 5 (rw z (both_fine (field_breach s 0 1 5) _ e).0) in
      (omega (arith, p.0), omega (arith, p.1))

  -- where a contour without a breach ends, and its length
  pub next_contour : (k n : ℕ) → contour_breach s f.at k n ≡ 65537 → (f.next ≡ f.at + 3 + length_at s f.at) × (f.len ≡ length_at s f.at)
  next_contour k n e =
      let w = (contour_fine s short f.at k n l e).whole in
      (told.behind w, told.sized (omega arith))

  -- whether the tag is a contour's
  pub told_contour : f.tag ≡ 3 → is_contour s f.at ≡ true
  unfolding is_contour
  told_contour e =
      dite (dec_lt f.at (length s))
      (λ a. simp (lt-ltb f.at (length s) a, eq-eqb (get_or s f.at 0) 3 (sym (told.tagged a) ∙ e)))
      (λ a. let z = told.untagged (omega arith) in absurd (omega arith))

  pub told_other : (f.tag ≡ 3 → ⊥) → is_contour s f.at ≡ false
  unfolding is_contour
  told_other n =
      dite (dec_lt f.at (length s))
      (λ a. simp (lt-ltb f.at (length s) a, ne_eqb (get_or s f.at 0) 3 (λ z. n (told.tagged a ∙ z))))
      (λ a. simp (le-ltb f.at (length s) (omega arith)))

-- ---- 04 and 00

-- where no contour follows the rows do
pub rowing_first : (s : List ℕ) {at left row rows k n : ℕ} → is_contour s at ≡ false → Outlining s at left row rows k n → Rowing s at left row rows k n
rowing_first s {at} {left} {row} {rows} {k} {n} i o =
    let short = o.measured.short in
    let z = outlined_all s short at k n o.reached i in
    let e : at ≡ rows_at s = z.place ∙ ap (start s) z.count in
    record {
      measured = o.measured;
      set = o.set;
      outlined = subst (λ (a : ℕ). Outlined s a k n) (sym o.place) z;
      unbroken = outlined_unbroken s short at k n o.reached i;
      same = rw (o.place, o.all);
      ends = rw o.all (ap (λ (a : ℕ). a + height s * (3 + 4 * row_size s)) e);
      inside = o.reached.inside;
    }

module _ (s : List ℕ) {at left row rows k n : ℕ} (g : Rowing s at left row rows k n) where
  -- the rows as they are left
  rows_left : rows_breach (height s) s (rows_at s) (row_size s) ≡ rows_breach left s at (row_size s)
  rows_left = ap (λ (a : ℕ). rows_breach (height s) s a (row_size s)) (sym (g.outlined.place ∙ ap (start s) g.outlined.count)) ∙ g.same

  -- a row has the breach
  pub row_broken : {b : ℕ} → 0 < left → b ≡ field_breach s at 4 row → (b ≡ 65537 → ⊥) → b ≡ breach s
  row_broken {b} p e m =
      let f : field_breach s at 4 (4 * row_size s) ≡ b = sym (e ∙ ap (field_breach s at 4) g.measured.wide) in
      let z : rows_breach (height s) s (rows_at s) (row_size s) ≡ b = rows_left ∙ rows_step left s at (row_size s) p ∙ found (field_breach s at 4 (4 * row_size s)) _ (λ y. m (sym f ∙ y)) ∙ f in
      sym (breach_rows s g.measured.short g.measured.sized g.set g.unbroken (λ y. m (sym z ∙ y)) ∙ z)

  -- one row less is left
  pub rowing_more : {next : ℕ} → 0 < left → field_breach s at 4 row ≡ 65537 → next ≡ at + 3 + row → next ≤ length s → Rowing s next (left - 1) row rows k n
  rowing_more {next} p e t i =
      let f : field_breach s at 4 (4 * row_size s) ≡ 65537 = sym (ap (field_breach s at 4) g.measured.wide) ∙ e in
      let w = g.measured.wide in
      let v : next ≡ at + (3 + 4 * row_size s) = omega arith in
      let one : left ≡ suc (left - 1) = omega arith in
      let z = ap (λ (m : ℕ). m * (3 + 4 * row_size s)) one ∙ suc-mul (left - 1) (3 + 4 * row_size s) in
      let y = g.ends in
      record {
        measured = g.measured;
        set = g.set;
        outlined = g.outlined;
        unbroken = g.unbroken;
        same = g.same ∙ rows_step left s at (row_size s) p ∙ passed (field_breach s at 4 (4 * row_size s)) _ f ∙ ap (λ (a : ℕ). rows_breach (left - 1) s a (row_size s)) (sym v);
        ends = omega arith;
        inside = i;
      }

  -- no row is left
  module _ (none : left ≡ 0) where
    at_end : at ≡ end_at s
    at_end = let y = g.ends in omega (arith, ap (λ (m : ℕ). m * (3 + 4 * row_size s)) none ∙ zero-mul (3 + 4 * row_size s))

    -- the end decides
    pub end_decides : breach s ≡ end_breach s at
    end_decides =
        breach_end s g.measured.short g.measured.sized g.set g.unbroken
        (rows_left ∙ rows_none left s at (row_size s) (omega arith)) ∙ ap (end_breach s) (sym at_end)

    -- everything is there
    pub whole_read : Whole s rows k n
    whole_read =
        record {
          short = g.measured.short;
          headed = field_fine s g.measured.short 8 2 33 (omega arith) g.set;
          small = (size_fine s g.measured.short g.measured.sized).1;
          outlined = g.outlined;
          rowed = subst (λ (a : ℕ). a ≤ length s) at_end g.inside;
        }
