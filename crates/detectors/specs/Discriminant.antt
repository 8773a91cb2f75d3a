-- The discriminant of a diagonal pair's quadratic, as the solver works it out: in f64, from the coefficients as they are stored, in f32. Definitions only.
-- `Laws/Discriminant.antt` below `proofs/` shows that a positive one is a normal value, so that nothing else reaches the root and the roots that are tried are the pair's.
use Rattle.std.specs.Prelude.{ℕ, List, [], slice_index_or, Float}
use Rattle.numbers.specs.EquationSolver.{discriminant, normal_roots_of}
use Rattle.detectors.specs.Pairs.{difference}
use Rattle.detectors.specs.Diagonal.{middle_difference, square_coefficient, linear_coefficient}

-- of the pair quadratic, from the differences of a, of b and c, and of d
unfoldable pub quadratic_discriminant : Float → Float → Float → Float
quadratic_discriminant dA dBC dD = discriminant (square_coefficient dA dBC dD) (linear_coefficient dA dBC) dA

-- of pair p
unfoldable pub pair_discriminant : List (List Float) → ℕ → Float
pair_discriminant m p = quadratic_discriminant (difference (slice_index_or m 0 []) p) (middle_difference m p) (difference (slice_index_or m 3 []) p)

-- the pair quadratic's roots as the detector works them out, by the root without branches, which takes a positive discriminant for a normal number
unfoldable pub normal_quadratic_roots : Float → Float → Float → List Float
normal_quadratic_roots dA dBC dD = normal_roots_of (square_coefficient dA dBC dD) (linear_coefficient dA dBC) dA

unfoldable pub normal_pair_roots : List (List Float) → ℕ → List Float
normal_pair_roots m p = normal_quadratic_roots (difference (slice_index_or m 0 []) p) (middle_difference m p) (difference (slice_index_or m 3 []) p)
