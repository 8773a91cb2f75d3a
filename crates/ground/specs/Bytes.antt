-- Big-endian numbers and floats in a list of bytes. Definitions only.
use Rattle.std.specs.Prelude.{ℕ, ◌+◌, ◌*◌, List, get_or, Float}
use Rattle.std.specs.Float.{binary32, binary64}
use Rattle.std.specs.Float.Ieee.{of_bits}

-- the number of two, of four and of eight bytes from a place on
unfoldable pub be16 : List ℕ → ℕ → ℕ
be16 s at = get_or s at 0 * 256 + get_or s (at + 1) 0

unfoldable pub be32 : List ℕ → ℕ → ℕ
be32 s at = be16 s at * 65536 + be16 s (at + 2)

unfoldable pub be64 : List ℕ → ℕ → ℕ
be64 s at = be32 s at * 4294967296 + be32 s (at + 4)

-- the float of four and of eight bytes; every NaN pattern is the one NaN
unfoldable pub f32_at : List ℕ → ℕ → Float
f32_at s at = of_bits binary32 (be32 s at)

unfoldable pub f64_at : List ℕ → ℕ → Float
f64_at s at = of_bits binary64 (be64 s at)
