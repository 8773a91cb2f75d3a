-- Corners: outlines as contours of segments, which of their segments are corners, and which texels a corner protects. Definitions only.
use Rattle.std.specs.Prelude.{ℕ, zero, suc, ◌+◌, ◌-◌, ◌*◌, ◌/◌, ◌%◌, Bool, false, cond, ◌&&◌, ◌||◌, List, [], ◌∷◌, get_or, length, take, drop, eqb, ltb, ℤ, pos, negsuc, Float}
use Rattle.std.specs.Float.{nan, binary64}
use Rattle.std.specs.Float.Ieee.{sub}
use Rattle.ranges.specs.Constants.{half_of}
use Rattle.numbers.specs.Rounding.{floor_of}
use Rattle.ground.specs.Lists.{tab, any, some}

-- a segment: its colour, and where it starts
pub record Segment : Type 0 where
  pub colour : ℕ
  pub x : Float
  pub y : Float

-- segment i: a colour byte and two coordinates
abbrev pub segment_at : List ℕ → List Float → ℕ → Segment
segment_at colours coords i = record { colour = get_or colours i 0; x = get_or coords (2 * i) nan; y = get_or coords (2 * i + 1) nan }

-- the segments between two ends
abbrev pub between : List Segment → ℕ → ℕ → List Segment
between segments from end = take (end - from) (drop from segments)

-- An end is the number of segments up to there: each contour goes from the end before it to its own.
unfoldable pub split : List Segment → ℕ → List ℕ → List (List Segment)
split segments from [] = []
split segments from (end ∷ ends) = between segments from end ∷ split segments end ends

-- the contours
unfoldable pub contours : List ℕ → List Float → List ℕ → List (List Segment)
contours colours coords ends = split (tab (length colours) (segment_at colours coords)) 0 ends

-- the predecessor of segment i, cyclic in its contour of n
unfoldable pub before : ℕ → ℕ → ℕ
before n i = cond (eqb i 0) (n - 1) (i - 1)

-- how many of the three colour bits both have
unfoldable pub shared : ℕ → ℕ → ℕ
shared a b = a % 2 * (b % 2) + a / 2 % 2 * (b / 2 % 2) + a / 4 % 2 * (b / 4 % 2)

-- no segment
abbrev pub no_segment : Segment
no_segment = record { colour = 0; x = nan; y = nan }

-- Segment i and its predecessor share colour bits: none or one shared bit is a corner, two or three aren't.
unfoldable pub is_corner : List Segment → ℕ → Bool
is_corner contour i = ltb (shared (get_or contour (before (length contour) i) no_segment).colour (get_or contour i no_segment).colour) 2

-- l = floor(x − 0.5)
unfoldable pub lower : Float → ℤ
lower x = floor_of (sub binary64 x (half_of binary64))

-- x is l or l + 1
unfoldable pub beside : ℤ → ℕ → Bool
beside (pos l) x = eqb x l || eqb x (l + 1)
beside (negsuc zero) x = eqb x 0
beside (negsuc (suc l)) x = false

-- texel x, y is one of (l,b), (l+1,b), (l,b+1), (l+1,b+1)
unfoldable pub around : Segment → ℕ → ℕ → Bool
around s x y = beside (lower s.x) x && beside (lower s.y) y

-- segment i is a corner with texel x, y around it
unfoldable pub corner_at : List Segment → ℕ → ℕ → ℕ → Bool
corner_at contour x y i = is_corner contour i && around (get_or contour i no_segment) x y

-- some corner of the contour
unfoldable pub contour_protects : ℕ → ℕ → List Segment → Bool
contour_protects x y contour = any (length contour) (corner_at contour x y)

-- some corner protects texel x, y
unfoldable pub corners_protect : List (List Segment) → ℕ → ℕ → Bool
corners_protect cs x y = some (contour_protects x y) cs
