-- A texel is a list of its first three channels. Definitions only.
use Rattle.std.specs.Prelude.{ℕ, List, slice_index_or, Float}
use Rattle.std.specs.Float.{nan}
use Rattle.numbers.specs.Scalar.{middle_of}
use Rattle.numbers.specs.declared.scalar.Middle.{Middle}

-- channel i of a texel
abbrev pub channel : List Float → ℕ → Float
channel a i = slice_index_or a i nan

-- the median of a texel's three channels: its value and the lowest channel whose value compares equal to it
unfoldable pub texel_middle : List Float → Middle
texel_middle a = middle_of (channel a 0) (channel a 1) (channel a 2)

-- its value
abbrev pub texel_median : List Float → Float
texel_median a = (texel_middle a).value
