-- The end before an end. Assumes nothing.
use mathlib.Core.Path.{◌≡◌, refl}
use mathlib.Core.List.{List}
use Prim.Native.Nat.{ℕ, suc, ◌-◌}
use native.Mathlib.Omega.{arith}
use lib.ListN.{get_or}
use borrow.Author.Tests.{ne_eqb}
use Rattle.inputs.specs.Checks.{end_before}

pub before_first : (ends : List ℕ) → end_before ends 0 ≡ 0
unfolding end_before
before_first ends = refl

pub before_next : (ends : List ℕ) (i j : ℕ) → j ≡ suc i → end_before ends j ≡ get_or ends i 0
unfolding end_before
before_next ends i j e =
    let p : j - 1 ≡ i = omega arith in
    rw (ne_eqb j 0 (λ z. omega arith), p)
