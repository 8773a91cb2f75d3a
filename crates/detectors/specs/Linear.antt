-- The linear detector, of texel a against a side neighbour b. Definitions only.
use Rattle.std.specs.Prelude.{ℕ, Bool, cond, ◌&&◌, List, Float}
use Rattle.std.specs.Float.{binary32, binary64}
use Rattle.std.specs.Float.Ieee.{sub, div}
use Rattle.numbers.specs.Constants.{zero_of, one_of}
use Rattle.ground.specs.Lists.{any, spent}
use Rattle.detectors.specs.Texel.{texel_median}
use Rattle.ranges.specs.Classifier.{range_test}
use Rattle.detectors.specs.Pairs.{guard, inside, mixed_median, difference}

-- t = dA/(dA−dB), f32 differences, f64 quotient
unfoldable pub crossing : Float → Float → Float
crossing dA dB = div binary64 dA (sub binary32 dA dB)

-- the range test at t, where t is inside
unfoldable pub linear_at : Float → Bool → Float → Float → List Float → List Float → Float → Bool
linear_at span protected am bm a b t = inside t && range_test span protected (zero_of binary64) (one_of binary64) t am bm (mixed_median a b t)

-- pair p
unfoldable pub linear_pair : Float → Bool → Float → Float → List Float → List Float → ℕ → Bool
linear_pair span protected am bm a b p = linear_at span protected am bm a b (crossing (difference a p) (difference b p))

-- some pair gives an artifact; am and bm are the medians of a and b
unfoldable pub linear_pairs : Float → Bool → Float → Float → List Float → List Float → Bool
linear_pairs span protected am bm a b = guard am bm && any 3 (linear_pair span protected am bm a b)

-- the detector
unfoldable pub has_linear_artifact : Float → Bool → Float → List Float → List Float → Bool
has_linear_artifact span protected am a b = linear_pairs span protected am (texel_median b) a b

-- ---- how many range tests the detector makes

-- at t: one where t is inside, whatever comes of it
unfoldable pub linear_tests_at : Float → ℕ
linear_tests_at t = cond (inside t) 1 0

-- for pair p
unfoldable pub linear_pair_tests : List Float → List Float → ℕ → ℕ
linear_pair_tests a b p = linear_tests_at (crossing (difference a p) (difference b p))

-- for the pairs in order, up to the first artifact
unfoldable pub linear_pairs_tests : Float → Bool → Float → Float → List Float → List Float → ℕ
linear_pairs_tests span protected am bm a b = cond (guard am bm) (spent 3 (linear_pair span protected am bm a b) (linear_pair_tests a b)) 0

-- of the detector
unfoldable pub linear_tests : Float → Bool → Float → List Float → List Float → ℕ
linear_tests span protected am a b = linear_pairs_tests span protected am (texel_median b) a b
