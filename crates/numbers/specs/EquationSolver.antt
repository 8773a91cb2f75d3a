-- The roots of a * x * x + b * x + c. Definitions only.
use Rattle.std.specs.Prelude.{◌≡◌, ℕ, Bool, cond, ◌||◌, List, [], ◌∷◌, length, slice_index_or, to_bits, Float}
use Rattle.std.specs.Float.{binary64}
use Rattle.std.specs.Float.Ieee.{add, sub, mul, div, neg, lt, eq}
use Rattle.numbers.specs.Constants.{zero_of, dominance, two, four}
use Rattle.numbers.specs.Scalar.{abs_of}
use Rattle.numbers.specs.SquareRoot.{sqrt_of, normal_root}
use Rattle.numbers.specs.declared.equation_solver.Roots.{Roots}
use Rattle.numbers.specs.declared.equation_solver.Roots.TheVariants.{None, One, Two}

-- a = 0 or |b| > 1e12·|a|
unfoldable pub is_linear : Float → Float → Bool
is_linear a b = eq a (zero_of binary64) || lt (mul binary64 dominance (abs_of a)) (abs_of b)

-- −c/b, or no root if b = 0, also where c = 0 and every x would do
unfoldable pub linear_roots : Float → Float → List Float
linear_roots b c = cond (eq b (zero_of binary64)) [] (div binary64 (neg c) b ∷ [])

-- D = b·b − 4·a·c
unfoldable pub discriminant : Float → Float → Float → Float
discriminant a b c = sub binary64 (mul binary64 b b) (mul binary64 (mul binary64 four a) c)

-- (−b+s)/(2a)
unfoldable pub upper_root : Float → Float → Float → Float
upper_root a b s = div binary64 (add binary64 (neg b) s) (mul binary64 two a)

-- (−b−s)/(2a)
unfoldable pub lower_root : Float → Float → Float → Float
lower_root a b s = div binary64 (sub binary64 (neg b) s) (mul binary64 two a)

-- D > 0 gives (−b+s)/(2a), then (−b−s)/(2a), for the s that is taken for its root; D = 0 gives −b/(2a); otherwise none
unfoldable pub square_roots_by : Float → Float → Float → Float → List Float
square_roots_by s a b d =
    cond (lt (zero_of binary64) d) (upper_root a b s ∷ lower_root a b s ∷ [])
    (cond (eq d (zero_of binary64)) (div binary64 (neg b) (mul binary64 two a) ∷ []) [])

-- with D's square root
unfoldable pub square_roots : Float → Float → Float → List Float
square_roots a b d = square_roots_by (sqrt_of d) a b d

-- the roots, in the order in which they are tried
unfoldable pub roots_of : Float → Float → Float → List Float
roots_of a b c = cond (is_linear a b) (linear_roots b c) (square_roots a b (discriminant a b c))

-- the same with the root of the normal number that D's pattern stands for: they are the roots wherever a positive D is normal
unfoldable pub normal_roots_of : Float → Float → Float → List Float
normal_roots_of a b c =
    let d = discriminant a b c in
    cond (is_linear a b) (linear_roots b c) (square_roots_by (normal_root (to_bits binary64 d)) a b d)

-- the roots that a solver's answer has
abbrev pub listed : Roots → List Float
listed None = []
listed (One x) = x ∷ []
listed (Two x y) = x ∷ y ∷ []

-- a list of at most two values as a count and two values, the unused ones 0
pub record Listed (xs : List Float) (count : ℕ) (first second : Float) : Type 0 where
  pub counted : count ≡ length xs
  pub one : first ≡ slice_index_or xs 0 (zero_of binary64)
  pub two : second ≡ slice_index_or xs 1 (zero_of binary64)
