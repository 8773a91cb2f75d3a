-- The columns and rows beside one, and the orders that a scan along a row has seen. Assumes nothing.
--     next_inside    the one after one that is inside is inside
--     column_seen    the order of a column, as it is worked out
--     turn_settled   a texel around which three columns have one order is settled
--     scan_first     a scan at the first column
--     scan_next      a scan one column further
use mathlib.Core.Path.{◌≡◌, refl, sym, ◌∙◌, ap, subst}
use mathlib.Core.Bool.{Bool, true, false, cond, ◌&&◌}
use mathlib.Core.List.{List}
use mathlib.Core.Logic.{dite}
use Prim.Native.Nat.{ℕ, ◌+◌, ◌-◌, ◌<◌, ◌≤◌}
use native.Mathlib.Decide.{dec_lt}
use native.Mathlib.Omega.{arith}
use lib.Dec.{eqb}
use borrow.Author.Tests.{lt-ltb, le-ltb, eqb-true}
use Rattle.ground.proofs.Laws.Bools.{both_hold}
use Rattle.inputs.specs.declared.sizes.Window.{Window}
use Rattle.correction.specs.declared.errors.Scan.{Scan}
use Rattle.correction.specs.Inner.{order_in, Settled, next_in, column_in, Scanned}

pub next_inside : (x n : ℕ) → x < n → next_in x n < n
next_inside x n l = dite (dec_lt (x + 1) n) (λ m. rw (lt-ltb (x + 1) n m) m) (λ m. rw (le-ltb (x + 1) n (omega arith)) l)

next_is : (x n : ℕ) → x + 1 < n → next_in x n ≡ x + 1
next_is x n l = rw (lt-ltb (x + 1) n l)

-- what holds of one, of the one before and of the one after holds of all that are near
near : (P : ℕ → Type 0) (u x n : ℕ) → u < n → x < n → u ≤ x + 1 → x ≤ u + 1 → P (x - 1) → P x → P (next_in x n) → P u
near P u x n l m a b p q r =
    dite (dec_lt u x)
    (λ o. let e : x - 1 ≡ u = omega arith in subst P e p)
    (λ o.
    dite (dec_lt x u)
    (λ k. let e : x + 1 ≡ u = omega arith in subst P (next_is x n (omega arith) ∙ e) r)
    (λ k. let e : x ≡ u = omega arith in subst P e q))

module _ (g : Window) (st : List ℕ) where
  pub column_seen : (x y p q : ℕ) {o d u : ℕ} → o ≡ order_in g st x y → p ≡ y - 1 → d ≡ order_in g st x p → q ≡ next_in y g.height → u ≡ order_in g st x q → (t : Bool) → (eqb d o && eqb u o) ≡ t → cond t o 0 ≡ column_in g st x y
  column_seen x y p q {o} {d} {u} e a f b h t k =
      ap (λ (z : Bool). cond z o 0) (sym k)
      ∙ rw (e, f, h, a, b)

  -- a column of one order has it in the three rows
  by_test : (a b c o : ℕ) (t : Bool) → (eqb a b && eqb c b) ≡ t → cond t b 0 ≡ o → 1 ≤ o → (a ≡ o) × (b ≡ o) × (c ≡ o)
  by_test a b c o true k e l = let h = both_hold (eqb a b) (eqb c b) k in (eqb-true a b h.0 ∙ e, e, eqb-true c b h.1 ∙ e)
  by_test a b c o false k e l = absurd (omega arith)

  in_column : (x y o : ℕ) → column_in g st x y ≡ o → 1 ≤ o → y < g.height → (v : ℕ) → v < g.height → v ≤ y + 1 → y ≤ v + 1 → order_in g st x v ≡ o
  in_column x y o e l h v k a b =
      let s = by_test (order_in g st x (y - 1)) (order_in g st x y) (order_in g st x (next_in y g.height)) o _ refl e l in
      near (λ v. order_in g st x v ≡ o) v y g.height k h a b s.0 s.1 s.2

  pub turn_settled : (x y o : ℕ) → x < g.width → y < g.height → 1 ≤ o → column_in g st (x - 1) y ≡ o → column_in g st x y ≡ o → column_in g st (next_in x g.width) y ≡ o → Settled g st x y
  turn_settled x y o l h p a b c =
      let own : order_in g st x y ≡ o = in_column x y o b p h y h (omega arith) (omega arith) in
      record {
        beyond = subst (λ (n : ℕ). 1 ≤ n) (sym own) p;
        around =
            λ u v m n i j r s.
            near (λ z. order_in g st z v ≡ o) u x g.width m l i j (in_column (x - 1) y o a p h v n r s) (in_column x y o b p h v n r s) (in_column (next_in x g.width) y o c p h v n r s) ∙ sym own;
      }

  pub scan_first : (y : ℕ) (at : Scan) {first : ℕ} → first ≡ column_in g st 0 y → at.x ≡ 0 → at.left ≡ first → at.here ≡ first → Scanned g st y at
  scan_first y at e z l h = record { few = omega arith; left = λ m. rw z (l ∙ e); here = λ m. rw z (h ∙ e) }

  pub scan_next : (y : ℕ) (at to : Scan) → Scanned g st y at → at.x < g.width → (to.x ≡ at.x + 1) × (to.left ≡ at.here) × (to.here ≡ column_in g st (next_in at.x g.width) y) → Scanned g st y to
  scan_next y at to i l p =
      let back : to.x - 1 ≡ at.x = omega (arith, p.0) in
      record {
        few = omega (arith, p.0);
        left = λ m. p.1 ∙ i.here l ∙ ap (λ (u : ℕ). column_in g st u y) (sym back);
        here = λ m.
            let e : next_in at.x g.width ≡ to.x = next_is at.x g.width (omega (arith, p.0)) ∙ sym p.0 in
            p.2 ∙ ap (λ (u : ℕ). column_in g st u y) e;
      }
