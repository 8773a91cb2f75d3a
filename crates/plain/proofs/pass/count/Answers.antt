-- `plain::pass::count` meets its contract: before cell k the three numbers count the cells below it. Assumes nothing.
use Rattle.std.proofs.Common.{◌≡◌, ℕ, ◌+◌, ◌/◌, ◌%◌, ◌<◌, ◌≤◌, List, length, get_or, sym, refl, le_antisymm, arith}
use Rattle.ground.proofs.Laws.Count.{none_counted, one_more, count_small}
use Rattle.inputs.specs.Stencil.{has_corner, is_protected, is_error, protected_count, error_count, corner_count}
use Rattle.plain.proofs.pass.count.Goals as goal
use Rattle.plain.proofs.pass.count.Invariants.{Counted}

module _ (st : List ℕ) {p e c k : ℕ} (v : Counted st p e c k) where
  few : (p ≤ k) × (e ≤ k) × (c ≤ k)
  few = (omega (arith, v.protected, count_small (λ j. is_protected (get_or st j 0)) k), omega (arith, v.error, count_small (λ j. is_error (get_or st j 0)) k), omega (arith, v.corner, count_small (λ j. has_corner (get_or st j 0)) k))

  more : k < length st → Counted st (p + get_or st k 0 / 2 % 2) (e + get_or st k 0 % 2) (c + get_or st k 0 / 4 % 2) (k + 1)
  unfolding is_protected is_error has_corner
  more l =
      record {
        in_range_law = omega arith;
        protected = one_more (λ j. is_protected (get_or st j 0)) k p (get_or st k 0 / 2 % 2) v.protected (omega arith) refl;
        error = one_more (λ j. is_error (get_or st j 0)) k e (get_or st k 0 % 2) v.error (omega arith) refl;
        corner = one_more (λ j. has_corner (get_or st j 0)) k c (get_or st k 0 / 4 % 2) v.corner (omega arith) refl;
      }

  all : length st ≤ k → (p ≡ protected_count st) × (e ≡ error_count st) × (c ≡ corner_count st)
  unfolding protected_count error_count corner_count
  all l = let q : length st ≡ k = le_antisymm l v.in_range_law in (rw q v.protected, rw q v.error, rw q v.corner)

pub loop-v-init : goal.loop-v-init
loop-v-init c = record { in_range_law = omega arith; protected = sym (none_counted _); error = sym (none_counted _); corner = sym (none_counted _) }

pub overflow_add-corner : goal.overflow_add-corner
overflow_add-corner c = omega (arith, (few _ c.loop-v.invariant).2)

pub overflow_add-protected : goal.overflow_add-protected
overflow_add-protected c = omega (arith, (few _ c.loop-v.invariant).0)

pub overflow_add-error : goal.overflow_add-error
overflow_add-error c = omega (arith, (few _ c.loop-v.invariant).1)

pub returns : goal.returns
returns c = let r = all _ c.loop-v.invariant c.loop-v-test.false in rw (r.0, r.1, r.2)

pub loop-v-preserved : goal.loop-v-preserved
loop-v-preserved c = more _ c.loop-v.invariant c.loop-v-test.true
