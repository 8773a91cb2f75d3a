-- The order of a texel's three channels, as one number: which of the pairs' differences are below zero, where each is zero or of a size that leaves no doubt. Definitions only.
-- What this page is for: texels of one order have no crossing between them (`Laws/Orders.antt` below `proofs/`). No answer of the pass rests on it.
use Rattle.std.specs.Prelude.{◌≡◌, ℕ, ◌+◌, ◌/◌, ◌%◌, Bool, false, cond, ◌&&◌, ◌||◌, List, pos, negsuc, ◌==◌, bit_or, bit_xor, nat_lt, Float}
use Rattle.std.specs.Float.{binary32, fin}
use Rattle.std.specs.Float.Ieee.{neg, lt, le, eq, fits}
use Rattle.numbers.specs.Constants.{zero_of}
use Rattle.ground.specs.Lists.{some}
use Rattle.detectors.specs.Texel.{channel}
use Rattle.detectors.specs.Pairs.{inside, difference}
use Rattle.detectors.specs.Diagonal.{pair_roots, diagonal_pair, diagonal_pair_tests}

-- the least size of a difference whose sign is beyond doubt, 2^-6, and the largest of a channel, 2^11
abbrev pub least_difference : Float
least_difference = fin false 1 (negsuc 5)

abbrev pub largest_channel : Float
largest_channel = fin false 1 (pos 11)

-- a difference that is zero or of at least that size
unfoldable pub clear : Float → Bool
clear d = eq d (zero_of binary32) || (le least_difference d || le d (neg least_difference))

-- a channel of binary32 of at most that size
unfoldable pub moderate : Float → Bool
moderate v = fits binary32 v && (le (neg largest_channel) v && le v largest_channel)

-- all three channels are moderate and all three differences clear
unfoldable pub ordered : List Float → Bool
ordered a =
    moderate (channel a 0) && (moderate (channel a 1) && (moderate (channel a 2)
    && (clear (difference a 0) && (clear (difference a 1) && clear (difference a 2)))))

-- n where a difference is below zero, else 0
unfoldable pub sign : Float → ℕ → ℕ
sign d n = cond (lt d (zero_of binary32)) n 0

-- which of the differences are below zero, as three bits beside that of 8; 0 where the order is not beyond doubt
unfoldable pub order_code : List Float → ℕ
order_code a = cond (ordered a) (8 + sign (difference a 0) 1 + sign (difference a 1) 2 + sign (difference a 2) 4) 0

-- the pairs of channels, as bits, whose signs four texels of these orders do not share: all three where an order is not beyond doubt
unfoldable pub doubt : ℕ → ℕ → ℕ → ℕ → ℕ
doubt a b c d = let x = bit_or (bit_xor a b) (bit_or (bit_xor a c) (bit_xor a d)) in cond (nat_lt 0 a && nat_lt x 8) x 7

-- the bit of pair p among three
abbrev pub doubt_bit : ℕ → ℕ → ℕ
doubt_bit bits p = cond (p == 0) (bits % 2) (cond (p == 1) (bits / 2 % 2) (bits / 4 % 2))

-- pair p is among those that these bits name
unfoldable pub doubted : ℕ → ℕ → Bool
doubted bits p = doubt_bit bits p == 1

-- pair p of four texels, tried where these bits name it: whether it is an artifact, and the tests that it takes
unfoldable pub doubted_pair : ℕ → Float → Bool → Float → Float → List (List Float) → ℕ → Bool
doubted_pair bits span protected am dm m p = doubted bits p && diagonal_pair span protected am dm m p

unfoldable pub doubted_tests : ℕ → Float → Bool → Float → Float → List (List Float) → ℕ → ℕ
doubted_tests bits span protected am dm m p = cond (doubted bits p) (diagonal_pair_tests span protected am dm m p) 0

-- no root of pair p of four texels is inside
abbrev pub NoRoot : List (List Float) → ℕ → Type 0
NoRoot m p = some inside (pair_roots m p) ≡ false

-- a pair of four texels that these bits leave out has no root inside
pub record Doubts (bits : ℕ) (m : List (List Float)) : Type 0 where
  pub first : bits % 2 ≡ 0 → NoRoot m 0
  pub second : bits / 2 % 2 ≡ 0 → NoRoot m 1
  pub third : bits / 4 % 2 ≡ 0 → NoRoot m 2
