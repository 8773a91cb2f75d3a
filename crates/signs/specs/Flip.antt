-- A value and the outline: on which side of the zero value it lies, and what it is when it is turned over to the other. Definitions only.
use Rattle.std.specs.Prelude.{◌≡◌, ℕ, Bool, not, cond, pos, nat_abs, ◌-ℤ◌, ◌*ℤ◌, Float}
use Rattle.std.specs.Float.{binary32}
use Rattle.std.specs.Float.Ieee.{add, sub, lt, le}
use Rattle.numbers.specs.Whole.{whole_of}

-- zero + zero, in f32
unfoldable pub double_of : Float → Float
double_of zero = add binary32 zero zero

-- double − v, one operation in f32
unfoldable pub flip_of : Float → Float → Float
flip_of zero v = sub binary32 (double_of zero) v

-- (v > zero) ≠ filled: the value lies on the wrong side
unfoldable pub is_amiss : Float → Bool → Float → Bool
is_amiss zero filled v = cond filled (not (lt zero v)) (lt zero v)

-- v, flipped where a test holds
unfoldable pub flipped_if : Float → Bool → Float → Float
flipped_if zero b v = cond b (flip_of zero v) v

-- the value lies on the side that the map says, or on the zero value
unfoldable pub on_side : Float → Bool → Float → Bool
on_side zero filled v = cond filled (le zero v) (le v zero)

-- the flip is 2 · zero − v, counted in 2 ^ -149: nothing was rounded
abbrev pub Exact : Float → Float → Type 0
Exact zero v = whole_of binary32 (flip_of zero v) ≡ pos 2 *ℤ whole_of binary32 zero -ℤ whole_of binary32 v

-- how far rounding moved it from there, counted so
unfoldable pub slip : Float → Float → ℕ
slip zero v = nat_abs (whole_of binary32 (flip_of zero v) -ℤ (pos 2 *ℤ whole_of binary32 zero -ℤ whole_of binary32 v))
