-- What the inner functions promise each other. No public function's promise rests on this page. Definitions only.
use Rattle.std.specs.Prelude.{cond, Float}
use Rattle.std.specs.Float.{binary32}
use Rattle.std.specs.Float.Ieee.{lt, of_bits}

-- v held to 0..1, as a value: 0 where it is not above 0, then 1 where it is not below 1
unfoldable pub hold_of : Float → Float
hold_of v =
    let low = cond (lt (of_bits binary32 0) v) v (of_bits binary32 0) in
    cond (lt low (of_bits binary32 0x3f80_0000)) low (of_bits binary32 0x3f80_0000)
