-- `inputs::stencil::count_cells` meets its contract: before cell i the three numbers count the cells below it. Assumes nothing.
use mathlib.Core.Path.{◌≡◌, refl, sym}
use mathlib.Core.List.{List}
use Prim.Native.Nat.{ℕ, ◌+◌, ◌/◌, ◌%◌, ◌≤◌}
use native.Mathlib.Nat.{div-one}
use native.Mathlib.Omega.{arith}
use lib.ListN.{length, get_or}
use Rattle.inputs.specs.Stencil.{has_corner, is_protected, is_error, protected_count, error_count, corner_count}
use Rattle.ground.proofs.Laws.Count.{none_counted, one_more, count_small}
use Rattle.inputs.proofs.stencil.count_cells.Goals as goal
use Rattle.inputs.proofs.stencil.count_cells.Invariants.{Inv}

short : (st : List ℕ) (p e c i : ℕ) → Inv st p e c i → (p ≤ i) × (e ≤ i) × (c ≤ i)
short st p e c i v =
    (omega (arith, v.protected, count_small (λ k. is_protected (get_or st k 0)) i), omega (arith, v.error, count_small (λ k. is_error (get_or st k 0)) i), omega (arith, v.corner, count_small (λ k. has_corner (get_or st k 0)) i))

turns : (st : List ℕ) (p e c i : ℕ) → Inv st p e c i → Inv st (p + get_or st i 0 / 2 % 2) (e + get_or st i 0 / 1 % 2) (c + get_or st i 0 / 4 % 2) (i + 1)
unfolding is_protected is_error has_corner
turns st p e c i v =
    record {
      protected = one_more (λ k. is_protected (get_or st k 0)) i p (get_or st i 0 / 2 % 2) v.protected (omega arith) refl;
      error = one_more (λ k. is_error (get_or st k 0)) i e (get_or st i 0 / 1 % 2) v.error (omega arith) (rw div-one);
      corner = one_more (λ k. has_corner (get_or st k 0)) i c (get_or st i 0 / 4 % 2) v.corner (omega arith) refl;
    }

pub overflow_add-protected : goal.overflow_add-protected
overflow_add-protected c = omega (arith, (short _ _ _ _ _ c.loop-v.invariant).0)

pub overflow_add-error : goal.overflow_add-error
overflow_add-error c = omega (arith, (short _ _ _ _ _ c.loop-v.invariant).1)

pub overflow_add-corner : goal.overflow_add-corner
overflow_add-corner c = omega (arith, (short _ _ _ _ _ c.loop-v.invariant).2)

pub loop-v-preserved : goal.loop-v-preserved
loop-v-preserved c = turns _ _ _ _ _ c.loop-v.invariant

pub returns : goal.returns
unfolding protected_count error_count corner_count
returns c =
    let l = c.loop-v in
    let e : l.v-index ≡ length c.args.stencil.now = omega (arith, c.loop-v-test.false, l.auto.v-index-end) in
    rw (← e, l.invariant.protected, l.invariant.error, l.invariant.corner)

pub loop-v-init : goal.loop-v-init
loop-v-init c = record { protected = sym (none_counted _); error = sym (none_counted _); corner = sym (none_counted _) }
