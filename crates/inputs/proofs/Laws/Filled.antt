-- A list with one value in every place, as the library's `fill` leaves it and as `tab` has it. Assumes nothing.
use mathlib.Core.Path.{◌≡◌, refl, ap}
use mathlib.Core.List.{◌∷◌}
use Prim.Native.Nat.{ℕ, zero, suc}
use lib.ListN.{replicate}
use Rattle.ground.specs.Lists.{tab}

pub replicate_tab : {A : Type 0} (n : ℕ) (v : A) → replicate n v ≡ tab n (λ k. v)
unfolding tab
replicate_tab zero v = refl
replicate_tab (suc n) v = ap (λ xs. v ∷ xs) (replicate_tab n v)
