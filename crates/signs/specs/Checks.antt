-- The checks of the sign correction, in the order of their numbers, and the first that fails. Definitions only.
use Rattle.std.specs.Prelude.{ℕ, ◌*◌, Bool, cond, not, ◌&&◌, ◌||◌, List, [], ◌∷◌, ◌++◌, get_or, length, eqb, ltb, ℤ, Float}
use Rattle.std.specs.Float.{binary32}
use Rattle.ground.specs.Lists.{any}
use Rattle.ground.specs.Refuse.{first_failing}
use Rattle.inputs.specs.Checks as Pass

-- All that comes in: `zero` is the value on the outline, `filled` has a byte a texel, 1 where it is filled and 0 where not.
pub record Input : Type 0 where
  pub width : ℕ
  pub height : ℕ
  pub channels : ℕ
  pub samples : List Float
  pub zero : Float
  pub filled : List ℕ
  pub matches : List ℤ

abbrev pub input : ℕ → ℕ → ℕ → List Float → Float → List ℕ → List ℤ → Input
input w h ch xs zero filled ms = record { width = w; height = h; channels = ch; samples = xs; zero = zero; filled = filled; matches = ms }

-- check 1: channels not 1, 3 or 4
unfoldable pub bad_channels : ℕ → Bool
bad_channels ch = not (eqb ch 1) && Pass.bad_channels ch

-- checks 2, 3 and 6 are the pass's own: its bad_size, bad_sample_count and bad_samples

-- check 10: the zero value NaN or of size above 1,048,576
unfoldable pub bad_zero : Float → Bool
bad_zero zero = Pass.oversize binary32 zero

-- check 11: the filled map's length not the number n of texels, or one of its bytes above 1
unfoldable pub some_above : List ℕ → Bool
some_above filled = any (length filled) (λ k. ltb 1 (get_or filled k 0))

unfoldable pub bad_filled : ℕ → List ℕ → Bool
bad_filled n filled = not (eqb (length filled) n) || some_above filled

-- check 12: the match map's length m not the number n of texels
unfoldable pub bad_matches : ℕ → ℕ → Bool
bad_matches n m = not (eqb m n)

-- checks 1 to 3, of a bitmap with n samples
abbrev pub size_checks : ℕ → ℕ → ℕ → ℕ → List (Bool × ℕ)
size_checks w h ch n = (bad_channels ch, 1) ∷ (Pass.bad_size w h, 2) ∷ (Pass.bad_sample_count w h ch n, 3) ∷ []

unfoldable pub size_refusal : ℕ → ℕ → ℕ → ℕ → ℕ
size_refusal w h ch n = first_failing (size_checks w h ch n)

-- checks 6 and 10 to 12
abbrev pub content_checks : Input → List (Bool × ℕ)
content_checks i =
    let n = i.width * i.height in
    (Pass.bad_samples i.samples, 6) ∷ (bad_zero i.zero, 10) ∷ (bad_filled n i.filled, 11) ∷ (bad_matches n (length i.matches), 12) ∷ []

-- all checks
abbrev pub checks : Input → List (Bool × ℕ)
checks i = size_checks i.width i.height i.channels (length i.samples) ++ content_checks i

-- the number of the first that fails, and 0 where all pass
unfoldable pub refusal_number : Input → ℕ
refusal_number i = first_failing (checks i)

-- its place: that of check 6 is the first bad sample, and all others have 0
unfoldable pub refusal_place : Input → ℕ
refusal_place i = cond (eqb (refusal_number i) 6) (Pass.samples_place i.samples) 0

unfoldable pub accepted : Input → Bool
accepted i = eqb (refusal_number i) 0
