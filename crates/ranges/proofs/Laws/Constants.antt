-- Each constant of the pass is what it is called: the value of its format that is nearest to its decimal. Assumes nothing.
use Rattle.std.proofs.Common.{◌≡◌, ◌^◌, false, refl, zero-lt-suc}
use lib.Ieee.{Format, binary32, binary64, of_bits, round, sub}
use Rattle.numbers.specs.Constants.{one_of}
use Rattle.numbers.specs.Nearest.{Nearest}
use Rattle.numbers.proofs.Laws.Constants.{named}
use Rattle.ranges.specs.Constants.{half_of, limit_of, epsilon, one_less_epsilon, tolerance}

-- The constants by their fractions, and 1 - 0.01 also as the rounded difference of the two.
pub record Named : Type 0 where
  pub half_is : (f : Format) → Nearest f false 1 2 (half_of f)
  pub limit_is : (f : Format) → Nearest f false (2 ^ 20) 1 (limit_of f)
  pub epsilon_is : Nearest binary64 false 1 100 epsilon
  pub one_less_epsilon_is : Nearest binary64 false 99 100 one_less_epsilon
  pub one_less_epsilon_difference : one_less_epsilon ≡ sub binary64 (one_of binary64) epsilon
  pub tolerance_is : Nearest binary64 false 1001 1000 tolerance

-- Each constant is the value that is nearest to its decimal.
pub constants : Named
unfolding of_bits round sub
constants = record {
  half_is = λ f. named f 1 2 (half_of f) (zero-lt-suc 1) (half f);
  limit_is = λ f. named f (2 ^ 20) 1 (limit_of f) (zero-lt-suc 0) (limit f);
  epsilon_is = named binary64 1 100 epsilon (zero-lt-suc 99) refl;
  one_less_epsilon_is = named binary64 99 100 one_less_epsilon (zero-lt-suc 99) refl;
  one_less_epsilon_difference = refl;
  tolerance_is = named binary64 1001 1000 tolerance (zero-lt-suc 999) refl;
}
  where
    half : (f : Format) → round f false 1 2 ≡ half_of f
    half binary32 = refl
    half binary64 = refl

    limit : (f : Format) → round f false (2 ^ 20) 1 ≡ limit_of f
    limit binary32 = refl
    limit binary64 = refl
