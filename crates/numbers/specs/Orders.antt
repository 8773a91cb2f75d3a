-- What it means that the order of three numbers does not matter. Definitions only.
use Rattle.std.specs.Prelude.{◌≡◌, not, T, is_nan, Float}
use Rattle.std.specs.Float.{Format}
use Rattle.std.specs.Float.Ieee.{fits}

-- a value of the format that is no NaN
abbrev pub Number : Format → Float → Type 0
Number f x = T (fits f x) × T (not (is_nan x))

-- g makes the same of a, b and c in all six orders
abbrev pub InEveryOrder : {X : Type 0} → (Float → Float → Float → X) → Float → Float → Float → Type 0
InEveryOrder g a b c = (g a b c ≡ g a c b) × (g a b c ≡ g b a c) × (g a b c ≡ g b c a) × (g a b c ≡ g c a b) × (g a b c ≡ g c b a)
