-- The constants of the number rules, each by its bit pattern. Definitions only.
use Rattle.std.specs.Prelude.{from_bits, Float}
use Rattle.std.specs.Float.{Format, binary32, binary64}

-- 0
abbrev pub zero_of : Format → Float
zero_of binary32 = from_bits binary32 0x0000_0000
zero_of binary64 = from_bits binary64 0x0000_0000_0000_0000

-- 1
abbrev pub one_of : Format → Float
one_of binary32 = from_bits binary32 0x3f80_0000
one_of binary64 = from_bits binary64 0x3ff0_0000_0000_0000

-- 1e12: b dominates a quadratic's a where |b| is more than that many times |a|
abbrev pub dominance : Float
dominance = from_bits binary64 0x426d_1a94_a200_0000

-- 2 and 4, the factors of the quadratic formula
abbrev pub two : Float
two = from_bits binary64 0x4000_0000_0000_0000

abbrev pub four : Float
four = from_bits binary64 0x4010_0000_0000_0000
