-- What `find` over the cells answers, as the definitions count. Assumes nothing.
--     found_first    the first cell of which the test holds, and none where there is none
use mathlib.Core.Path.{◌≡◌, sym}
use mathlib.Core.Bool.{Bool, true, false}
use Prim.Native.Nat.{ℕ, ◌<◌, ◌≤◌}
use native.Mathlib.Omega.{arith}
use Rattle.std.proofs.Common.{Option, Some, None, MatchOption}
use Rattle.ground.specs.Lists.{first}
use Rattle.ground.proofs.Laws.Search.{first_is, first_is_end}
use Rattle.correction.specs.Cells.{Found}

pub found_first : (f : ℕ → Bool) (n : ℕ) (r : Option ℕ) → MatchOption r ((k : ℕ) → 0 ≤ k → k < n → f k ≡ false) (λ i. (0 ≤ i) × (i < n) × (f i ≡ true) × ((k : ℕ) → 0 ≤ k → k < i → f k ≡ false)) → Found (first n f) n r
found_first f n None h = first_is_end f n (λ k l. h k (omega arith) l)
found_first f n (Some i) h = (sym (first_is f n i (λ k l. h.3 k (omega arith) l) h.1 h.2), h.1)
