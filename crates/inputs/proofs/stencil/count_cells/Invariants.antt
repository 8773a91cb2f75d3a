-- `inputs::stencil::count_cells` meets its contract: before cell i the three numbers count the cells below it. Assumes nothing.
use mathlib.Core.Path.{◌≡◌}
use mathlib.Core.Bool.{Bool}
use mathlib.Core.List.{List}
use Prim.Native.Nat.{ℕ}
use lib.ListN.{get_or}
use Rattle.ground.specs.Lists.{count}
use Rattle.inputs.specs.Stencil.{has_corner, is_protected, is_error}
use Rattle.inputs.proofs.stencil.count_cells.Given as goal

-- a number that counts the cells below i whose byte says so
abbrev pub Counted : (ℕ → Bool) → List ℕ → ℕ → ℕ → Type 0
Counted says st n i = n ≡ count i (λ k. says (get_or st k 0))

pub record Inv (st : List ℕ) (p e c i : ℕ) : Type 0 where
  pub protected : Counted is_protected st p i
  pub error : Counted is_error st e i
  pub corner : Counted has_corner st c i

abbrev pub invariant-loop-v : goal.invariant-loop-v
invariant-loop-v l = Inv l.stencil l.protected l.error l.corner l.v-index
