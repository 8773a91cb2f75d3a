-- The constants of the pass, each by its bit pattern. Definitions only.
use Rattle.std.specs.Prelude.{from_bits, Float}
use Rattle.std.specs.Float.{Format, binary32, binary64}

-- 0.5, where a field crosses the outline
abbrev pub half_of : Format → Float
half_of binary32 = from_bits binary32 0x3f00_0000
half_of binary64 = from_bits binary64 0x3fe0_0000_0000_0000

-- 1,048,576 = 2 ^ 20, the largest size of a sample, a length, a ratio and a coordinate
abbrev pub limit_of : Format → Float
limit_of binary32 = from_bits binary32 0x4980_0000
limit_of binary64 = from_bits binary64 0x4130_0000_0000_0000

-- 0.01: a crossing lies strictly above it
abbrev pub epsilon : Float
epsilon = from_bits binary64 0x3f84_7ae1_47ae_147b

-- 1 - 0.01: a crossing lies strictly below it
abbrev pub one_less_epsilon : Float
one_less_epsilon = from_bits binary64 0x3fef_ae14_7ae1_47ae

-- 1.001: the radius of edge protection is that many times a length
abbrev pub tolerance : Float
tolerance = from_bits binary64 0x3ff0_0418_9374_bc6a
