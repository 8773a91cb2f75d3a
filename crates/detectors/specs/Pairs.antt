-- What both detectors and the edges share: which texel of two is tested, where a crossing counts, the channel pairs, and the way between two texels. Definitions only.
use Rattle.std.specs.Prelude.{ℕ, ◌+◌, Bool, cond, ◌&&◌, List, nat_lt, Float}
use Rattle.std.specs.Float.{binary32}
use Rattle.std.specs.Float.Ieee.{lt, le, sub}
use Rattle.numbers.specs.Scalar.{median_of, abs_of, mix_of}
use Rattle.ranges.specs.Constants.{half_of, epsilon, one_less_epsilon}
use Rattle.detectors.specs.Texel.{channel}

-- |am−0.5| ≥ |bm−0.5| in f32
unfoldable pub guard : Float → Float → Bool
guard am bm = le (abs_of (sub binary32 bm (half_of binary32))) (abs_of (sub binary32 am (half_of binary32)))

-- t lies strictly between 0.01 and 1 − 0.01
unfoldable pub inside : Float → Bool
inside t = lt epsilon t && lt t one_less_epsilon

-- the three channels mixed at t
unfoldable pub mixed_channel : List Float → List Float → Float → ℕ → Float
mixed_channel a b t i = mix_of (channel a i) (channel b i) t

-- and their median
unfoldable pub mixed_median : List Float → List Float → Float → Float
mixed_median a b t = median_of (mixed_channel a b t 0) (mixed_channel a b t 1) (mixed_channel a b t 2)

-- The channel pairs (1−0), (2−1), (0−2) are 0, 1 and 2: pair p is of channel `next p` and channel p.
unfoldable pub next : ℕ → ℕ
next p = cond (nat_lt p 2) (p + 1) 0

-- the pair's difference, in f32
unfoldable pub difference : List Float → ℕ → Float
difference a p = sub binary32 (channel a (next p)) (channel a p)
