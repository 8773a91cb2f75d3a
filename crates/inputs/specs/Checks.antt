-- The checks, each with its number, its test and its place, and the first that fails. Definitions only.
use Rattle.std.specs.Prelude.{◌≡◌, ℕ, ◌+◌, ◌-◌, ◌*◌, ◌<◌, Option, MatchOption, Bool, cond, not, ◌&&◌, ◌||◌, List, [], ◌∷◌, ◌++◌, get_or, length, eqb, ltb, leb, Float}
use Rattle.std.specs.Float.{Format, binary32, binary64, nan}
use Rattle.std.specs.Float.Ieee.{le, neg}
use Rattle.numbers.specs.Constants.{zero_of}
use Rattle.ranges.specs.Constants.{limit_of}
use Rattle.ranges.specs.declared.config.Settings.{Settings}
use Rattle.ground.specs.Lists.{first}
use Rattle.ground.specs.Refuse.{first_failing}

-- All that comes in.
pub record Input : Type 0 where
  pub width : ℕ
  pub height : ℕ
  pub channels : ℕ
  pub samples : List Float
  pub stencil : List ℕ
  pub room : List Float
  pub mode : ℕ
  pub settings : Settings
  pub colours : List ℕ
  pub coords : List Float
  pub ends : List ℕ

abbrev pub input : ℕ → ℕ → ℕ → List Float → List ℕ → List Float → ℕ → Settings → List ℕ → List Float → List ℕ → Input
input w h ch xs st room mode s colours coords ends =
    record { width = w; height = h; channels = ch; samples = xs; stencil = st; room = room; mode = mode; settings = s; colours = colours; coords = coords; ends = ends }

-- ---- check 1: channels not 3 or 4

unfoldable pub bad_channels : ℕ → Bool
bad_channels ch = not (eqb ch 3 || eqb ch 4)

-- ---- check 2: width or height outside 1..4,096

unfoldable pub bad_side : ℕ → Bool
bad_side n = not (leb 1 n && leb n 4096)

unfoldable pub bad_size : ℕ → ℕ → Bool
bad_size w h = bad_side w || bad_side h

-- ---- check 3: sample length n not width × height × channels

unfoldable pub bad_sample_count : ℕ → ℕ → ℕ → ℕ → Bool
bad_sample_count w h ch n = not (eqb n (w * h * ch))

-- ---- check 4: stencil length m not width × height

unfoldable pub bad_cell_count : ℕ → ℕ → ℕ → Bool
bad_cell_count w h m = not (eqb m (w * h))

-- ---- check 60, after 4: room n shorter than two rows of medians

unfoldable pub bad_room : ℕ → ℕ → Bool
bad_room w n = ltb n (2 * w)

-- ---- check 5: mode above 3, or ratio or a length NaN, below 0 or above 1,048,576

unfoldable pub bad_length : Float → Bool
bad_length v = not (le (zero_of binary64) v && le v (limit_of binary64))

-- its place, the first bad: mode 0, ratio 1, lengths 2, 3, 4; 5 where none is
unfoldable pub settings_place : ℕ → Settings → ℕ
settings_place mode s =
    cond (ltb 3 mode) 0
    (cond (bad_length s.ratio) 1
    (cond (bad_length s.horizontal) 2
    (cond (bad_length s.vertical) 3
    (cond (bad_length s.diagonal) 4 5))))

unfoldable pub bad_settings : ℕ → Settings → Bool
bad_settings mode s = ltb (settings_place mode s) 5

-- ---- check 6: a sample NaN, infinite or of size above 1,048,576

unfoldable pub oversize : Format → Float → Bool
oversize f v = not (le (neg (limit_of f)) v && le v (limit_of f))

-- its place, the first bad sample, and their number where none is
unfoldable pub samples_place : List Float → ℕ
samples_place xs = first (length xs) (λ j. oversize binary32 (get_or xs j nan))

unfoldable pub bad_samples : List Float → Bool
bad_samples xs = ltb (samples_place xs) (length xs)

-- what a search through the first n numbers answers, of which the first hit is at a place, or n where none is
abbrev pub Found : ℕ → ℕ → Option ℕ → Type 0
Found n place found = MatchOption found (place ≡ n) (λ p. (p ≡ place) × (p < n))

-- ---- check 7: coordinates not twice the colours, or over 65,536 segments

unfoldable pub bad_outlines : ℕ → ℕ → Bool
bad_outlines colours coords = ltb 65536 colours || not (eqb coords (2 * colours))

-- ---- check 8: an end below the one before it or above the segment count; or the last end not the segment count

-- the end before end i, 0 before the first
unfoldable pub end_before : List ℕ → ℕ → ℕ
end_before ends i = cond (eqb i 0) 0 (get_or ends (i - 1) 0)

unfoldable pub bad_end : List ℕ → ℕ → ℕ → Bool
bad_end ends n i = ltb (get_or ends i 0) (end_before ends i) || ltb n (get_or ends i 0)

-- its place, the first bad end, and the list's length where none is
unfoldable pub ends_place : List ℕ → ℕ → ℕ
ends_place ends n = first (length ends) (bad_end ends n)

unfoldable pub bad_ends : List ℕ → ℕ → Bool
bad_ends ends n = ltb (ends_place ends n) (length ends) || not (eqb (end_before ends (length ends)) n)

-- ---- check 9: colour above 7, or a coordinate NaN, infinite or of size above 1,048,576

unfoldable pub bad_segment : List ℕ → List Float → ℕ → Bool
bad_segment colours coords i = ltb 7 (get_or colours i 0) || (oversize binary64 (get_or coords (2 * i) nan) || oversize binary64 (get_or coords (2 * i + 1) nan))

-- its place, the first bad segment, and their number where none is
unfoldable pub segments_place : List ℕ → List Float → ℕ
segments_place colours coords = first (length colours) (bad_segment colours coords)

unfoldable pub bad_segments : List ℕ → List Float → Bool
bad_segments colours coords = ltb (segments_place colours coords) (length colours)

-- ---- the first failure answers

-- checks 1 to 4, of a bitmap with n samples and m cells
abbrev pub size_checks : ℕ → ℕ → ℕ → ℕ → ℕ → List (Bool × ℕ)
size_checks w h ch n m = (bad_channels ch, 1) ∷ (bad_size w h, 2) ∷ (bad_sample_count w h ch n, 3) ∷ (bad_cell_count w h m, 4) ∷ []

-- checks 7 to 9
abbrev pub outline_checks : List ℕ → List Float → List ℕ → List (Bool × ℕ)
outline_checks colours coords ends =
    (bad_outlines (length colours) (length coords), 7) ∷ (bad_ends ends (length colours), 8) ∷ (bad_segments colours coords, 9) ∷ []

-- checks 1 to 4 of an input
abbrev pub bitmap_checks : Input → List (Bool × ℕ)
bitmap_checks i = size_checks i.width i.height i.channels (length i.samples) (length i.stencil)

-- check 60 of an input
abbrev pub room_checks : Input → List (Bool × ℕ)
room_checks i = (bad_room i.width (length i.room), 60) ∷ []

-- checks 5 to 9
abbrev pub content_checks : Input → List (Bool × ℕ)
content_checks i = (bad_settings i.mode i.settings, 5) ∷ (bad_samples i.samples, 6) ∷ outline_checks i.colours i.coords i.ends

-- all checks, in the order in which they are made: 1 to 4, then 60, then 5 to 9
abbrev pub checks : Input → List (Bool × ℕ)
checks i = bitmap_checks i ++ (room_checks i ++ content_checks i)

-- the number of the first check that fails, and 0 where all pass: of checks 1 to 4, of checks 7 to 9, of checks 5 to 9, and of all
unfoldable pub size_refusal : ℕ → ℕ → ℕ → ℕ → ℕ → ℕ
size_refusal w h ch n m = first_failing (size_checks w h ch n m)

unfoldable pub outline_refusal : List ℕ → List Float → List ℕ → ℕ
outline_refusal colours coords ends = first_failing (outline_checks colours coords ends)

unfoldable pub content_refusal : Input → ℕ
content_refusal i = first_failing (content_checks i)

unfoldable pub refusal_number : Input → ℕ
refusal_number i = first_failing (checks i)

-- the place of check n, where it is 8 or 9
unfoldable pub outline_place : List ℕ → List Float → List ℕ → ℕ → ℕ
outline_place colours coords ends n = cond (eqb n 8) (ends_place ends (length colours)) (cond (eqb n 9) (segments_place colours coords) 0)

-- the place of check n
unfoldable pub place_of : Input → ℕ → ℕ
place_of i n =
    cond (eqb n 5) (settings_place i.mode i.settings)
    (cond (eqb n 6) (samples_place i.samples)
    (outline_place i.colours i.coords i.ends n))

unfoldable pub refusal_place : Input → ℕ
refusal_place i = place_of i (refusal_number i)

unfoldable pub accepted : Input → Bool
accepted i = eqb (refusal_number i) 0
