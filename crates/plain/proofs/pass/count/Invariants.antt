-- `plain::pass::count` meets its contract: before cell k the three numbers count the cells below it. Assumes nothing.
use Rattle.std.proofs.Common.{◌≡◌, ℕ, ◌≤◌, List, length, get_or}
use Rattle.ground.specs.Lists.{count}
use Rattle.inputs.specs.Stencil.{has_corner, is_protected, is_error}
use Rattle.plain.proofs.pass.count.Given as goal

pub record Counted (st : List ℕ) (p e c k : ℕ) : Type 0 where
  pub in_range_law : k ≤ length st
  pub protected : p ≡ count k (λ j. is_protected (get_or st j 0))
  pub error : e ≡ count k (λ j. is_error (get_or st j 0))
  pub corner : c ≡ count k (λ j. has_corner (get_or st j 0))

abbrev pub invariant-loop-v : goal.invariant-loop-v
invariant-loop-v l = Counted l.stencil l.protected l.error l.corner l.v-index
