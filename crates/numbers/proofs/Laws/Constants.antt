-- Each constant is what it is called: the value of its format that is nearest to its decimal. Assumes nothing.
--     Named, constants  each constant of the number rules is the value nearest to its fraction
--     named             what a fraction rounds to is nearest to it
use Rattle.std.proofs.Common.{◌≡◌, ℕ, ◌^◌, ◌<◌, false, refl, subst, zero-lt-suc}
use lib.Ieee.{Float, Format, binary32, binary64, of_bits, round}
use Rattle.numbers.specs.Constants.{zero_of, one_of, dominance, two, four}
use Rattle.numbers.specs.Nearest.{Nearest}
use Rattle.numbers.proofs.Laws.Nearest.{round_nearest}

pub record Named : Type 0 where
  pub zero_is : (f : Format) → Nearest f false 0 1 (zero_of f)
  pub one_is : (f : Format) → Nearest f false 1 1 (one_of f)
  pub dominance_is : Nearest binary64 false (10 ^ 12) 1 dominance
  pub two_is : Nearest binary64 false 2 1 two
  pub four_is : Nearest binary64 false 4 1 four

pub named : (f : Format) (num den : ℕ) (x : Float) → 0 < den → round f false num den ≡ x → Nearest f false num den x
named f num den x D e = subst (Nearest f false num den) e (round_nearest f false num den D)

pub constants : Named
unfolding of_bits round
constants = record {
  zero_is = λ f. named f 0 1 (zero_of f) (zero-lt-suc 0) (zero f);
  one_is = λ f. named f 1 1 (one_of f) (zero-lt-suc 0) (one f);
  dominance_is = named binary64 (10 ^ 12) 1 dominance (zero-lt-suc 0) refl;
  two_is = named binary64 2 1 two (zero-lt-suc 0) refl;
  four_is = named binary64 4 1 four (zero-lt-suc 0) refl;
}
  where
    zero : (f : Format) → round f false 0 1 ≡ zero_of f
    zero binary32 = refl
    zero binary64 = refl

    one : (f : Format) → round f false 1 1 ≡ one_of f
    one binary32 = refl
    one binary64 = refl
