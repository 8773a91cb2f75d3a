-- The checks of both ways, and the first that fails. Definitions only.
use Rattle.std.specs.Prelude.{ℕ, Bool, cond, not, List, [], ◌∷◌, length, eqb, Float}
use Rattle.ground.specs.Refuse.{first_failing}
use Rattle.inputs.specs.Checks as Pass

-- check 40: the output's length m differs from the count n of what comes in
unfoldable pub bad_output : ℕ → ℕ → Bool
bad_output n m = not (eqb m n)

-- ---- samples to m bytes

-- check 40, then 6, which is the pass's own
abbrev pub checks : List Float → ℕ → List (Bool × ℕ)
checks xs m = (bad_output (length xs) m, 40) ∷ (Pass.bad_samples xs, 6) ∷ []

-- the number of the first that fails, and 0 where both pass
unfoldable pub refusal_number : List Float → ℕ → ℕ
refusal_number xs m = first_failing (checks xs m)

-- its place: that of check 6 is the first bad sample, and 40 has 0
unfoldable pub refusal_place : List Float → ℕ → ℕ
refusal_place xs m = cond (eqb (refusal_number xs m) 6) (Pass.samples_place xs) 0

-- both pass
unfoldable pub accepted : List Float → ℕ → Bool
accepted xs m = eqb (refusal_number xs m) 0

-- ---- n bytes to m samples: every byte is good, and the place is always 0

-- check 40 alone: its number where it fails, and 0 where it passes
unfoldable pub length_refusal : ℕ → ℕ → ℕ
length_refusal n m = first_failing ((bad_output n m, 40) ∷ [])

-- it passes
unfoldable pub length_accepted : ℕ → ℕ → Bool
length_accepted n m = eqb (length_refusal n m) 0
