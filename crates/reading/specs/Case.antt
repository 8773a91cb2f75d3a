-- What a well formed input means. Definitions only.
use Rattle.std.specs.Prelude.{ℕ, ◌+◌, ◌*◌, ◌/◌, List, [], ◌∷◌, get_or, Float}
use Rattle.ground.specs.Lists.{joined, tab}
use Rattle.ground.specs.Bytes.{f32_at, f64_at}
use Rattle.reading.specs.Grammar.{start, before, contours, length_at, height, row_size, row_at}

-- the settings field: mode, ratio and the three lengths
abbrev pub mode_of : List ℕ → ℕ
mode_of s = get_or s 11 0

abbrev pub ratio_of : List ℕ → Float
ratio_of s = f64_at s 12

abbrev pub horizontal_of : List ℕ → Float
horizontal_of s = f64_at s 20

abbrev pub vertical_of : List ℕ → Float
vertical_of s = f64_at s 28

abbrev pub diagonal_of : List ℕ → Float
diagonal_of s = f64_at s 36

-- ---- contours: colour, x, y for each segment

-- how many segments contour k has, and where its segment j stands
abbrev pub segments : List ℕ → ℕ → ℕ
segments s k = length_at s (start s k) / 17

abbrev pub segment_at : ℕ → ℕ → ℕ
segment_at at j = at + 3 + 17 * j

-- the colours and the coordinates of the n segments of the contour at a place
unfoldable pub contour_colours : List ℕ → ℕ → ℕ → List ℕ
contour_colours s at n = tab n (λ j. get_or s (segment_at at j) 0)

unfoldable pub contour_coords : List ℕ → ℕ → ℕ → List Float
contour_coords s at n = joined n (λ j. f64_at s (segment_at at j + 1) ∷ f64_at s (segment_at at j + 9) ∷ [])

unfoldable pub colours_of : List ℕ → List ℕ
colours_of s = joined (contours s) (λ k. contour_colours s (start s k) (segments s k))

unfoldable pub coords_of : List ℕ → List Float
coords_of s = joined (contours s) (λ k. contour_coords s (start s k) (segments s k))

-- an end is the number of segments up to there
unfoldable pub ends_of : List ℕ → List ℕ
ends_of s = tab (contours s) (λ k. before s (k + 1))

-- ---- rows

-- the n samples of the row at a place
unfoldable pub row_samples : List ℕ → ℕ → ℕ → List Float
row_samples s at n = tab n (λ j. f32_at s (at + 3 + 4 * j))

unfoldable pub samples_of : List ℕ → List Float
samples_of s = joined (height s) (λ y. row_samples s (row_at s y) (row_size s))
