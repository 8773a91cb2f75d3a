-- How many roots a diagonal pair has, said over whole numbers: by the pair quadratic's coefficients as they are stored, in f32. Definitions only.
-- `Laws/RootCount.antt` below `proofs/` shows that the detector tries that many. Neither says where a root lies, which is rounded; and the coefficients are themselves
-- rounded differences, so that the quadratic is the stored one and not that of the samples' exact differences.
use Rattle.std.specs.Prelude.{ℕ, List, [], slice_index_or, Float}
use Rattle.std.specs.Float.{binary32}
use Rattle.numbers.specs.Whole.{whole_of}
use Rattle.numbers.specs.RootCount.{true_count}
use Rattle.detectors.specs.Pairs.{difference}
use Rattle.detectors.specs.Diagonal.{middle_difference, square_coefficient, linear_coefficient}

-- of the pair quadratic, from the differences of a, of b and c, and of d
unfoldable pub quadratic_count : Float → Float → Float → ℕ
quadratic_count dA dBC dD = true_count (whole_of binary32 (square_coefficient dA dBC dD)) (whole_of binary32 (linear_coefficient dA dBC)) (whole_of binary32 dA)

-- of pair p
unfoldable pub pair_count : List (List Float) → ℕ → ℕ
pair_count m p = quadratic_count (difference (slice_index_or m 0 []) p) (middle_difference m p) (difference (slice_index_or m 3 []) p)
