-- A pair of texels that an edge crosses, and which of the two it protects. In a pair a is the lower texel (in a row the left) and b the other. Definitions only.
use Rattle.std.specs.Prelude.{ℕ, Bool, ◌&&◌, List, Float}
use Rattle.std.specs.Float.{binary32, binary64}
use Rattle.std.specs.Float.Ieee.{lt, eq, ne, add, sub, div}
use Rattle.numbers.specs.Constants.{zero_of, one_of}
use Rattle.ranges.specs.Constants.{half_of}
use Rattle.numbers.specs.Scalar.{abs_of}
use Rattle.ground.specs.Lists.{any}
use Rattle.detectors.specs.Texel.{channel, texel_median}
use Rattle.detectors.specs.Pairs.{mixed_channel, mixed_median}

-- |m1−0.5| + |m2−0.5| < radius in f32
unfoldable pub near : Float → Float → Float → Bool
near r am bm = lt (add binary32 (abs_of (sub binary32 am (half_of binary32))) (abs_of (sub binary32 bm (half_of binary32)))) r

-- t = (a_i − 0.5)/(a_i − b_i), numerator in f64 and divisor subtracted in f32
unfoldable pub edge_point : Float → Float → Float
edge_point ai bi = div binary64 (sub binary64 ai (half_of binary64)) (sub binary32 ai bi)

-- 0 < t < 1 and the mixed channel i equals the median of the three mixed
unfoldable pub edge_at : List Float → List Float → ℕ → Float → Bool
edge_at a b i t = lt (zero_of binary64) t && (lt t (one_of binary64) && eq (mixed_median a b t) (mixed_channel a b t i))

-- channel i joins the mask
unfoldable pub masked : List Float → List Float → ℕ → Bool
masked a b i = edge_at a b i (edge_point (channel a i) (channel b i))

-- a masked channel of texel c differs from its median m
unfoldable pub extreme : List Float → List Float → List Float → Float → ℕ → Bool
extreme a b c m i = masked a b i && ne (channel c i) m

-- Texel c of the pair, whose median is m, is protected; am and bm are the medians of a and b.
unfoldable pub pair_protects : Float → List Float → List Float → Float → Float → List Float → Float → Bool
pair_protects r a b am bm c m = near r am bm && any 3 (extreme a b c m)

-- the pair protects its lower texel a
unfoldable pub protects_lower : Float → List Float → List Float → Bool
protects_lower r a b = pair_protects r a b (texel_median a) (texel_median b) a (texel_median a)

-- the pair protects its other texel b
unfoldable pub protects_upper : Float → List Float → List Float → Bool
protects_upper r a b = pair_protects r a b (texel_median a) (texel_median b) b (texel_median b)
