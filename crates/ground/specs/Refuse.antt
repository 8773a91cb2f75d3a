-- Refusal by the first of several checks. Definitions only.
use Rattle.std.specs.Prelude.{ℕ, Bool, cond, List, [], ◌∷◌}

-- Of checks in order, each with whether it fails and the number that it refuses with, the number of the first that fails, and 0 where none does.
unfoldable pub first_failing : List (Bool × ℕ) → ℕ
first_failing [] = 0
first_failing (c ∷ cs) = cond c.0 c.1 (first_failing cs)
