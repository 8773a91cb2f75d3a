-- The grammar of the input: tagged fields, and the place of the first breach. Definitions only.
-- In each field the tag is checked, then the length, then the limits, then that the bytes are there.
use Rattle.std.specs.Prelude.{ℕ, zero, suc, ◌+◌, ◌*◌, ◌/◌, ◌%◌, Bool, cond, not, ◌&&◌, List, length, get_or, eqb, ltb, leb}
use Rattle.ground.specs.Bytes.{be16}

-- A breach is its place, `bad input AT`; 65537, which is no place, says that there is none.
abbrev pub fine : ℕ
fine = 65537

-- the first of two breaches
unfoldable pub or_else : ℕ → ℕ → ℕ
or_else a b = cond (eqb a fine) b a

-- ---- a field: one-byte tag, two-byte length, contents

-- the length that the field at a place has
abbrev pub length_at : List ℕ → ℕ → ℕ
length_at s at = be16 s (at + 1)

-- The tag and the length: an input that ends early is a breach at its length, and a wrong tag one at the field's first byte.
unfoldable pub head_breach : List ℕ → ℕ → ℕ → ℕ
head_breach s at tag =
    cond (leb (length s) at) (length s)
    (cond (not (eqb (get_or s at 0) tag)) at
    (cond (ltb (length s) (at + 3)) (length s) fine))

-- the contents' bytes are there
unfoldable pub body_breach : List ℕ → ℕ → ℕ → ℕ
body_breach s at len = cond (ltb (length s) (at + 3 + len)) (length s) fine

-- a field whose length is given
unfoldable pub field_breach : List ℕ → ℕ → ℕ → ℕ → ℕ
field_breach s at tag len =
    or_else (head_breach s at tag)
    (cond (not (eqb (length_at s at) len)) at (body_breach s at len))

-- ---- 01 size (u16, u16, u8), and the sample limit, which comes last

abbrev pub width : List ℕ → ℕ
width s = be16 s 3

abbrev pub height : List ℕ → ℕ
height s = be16 s 5

abbrev pub channels : List ℕ → ℕ
channels s = get_or s 7 0

unfoldable pub size_breach : List ℕ → ℕ
size_breach s = or_else (field_breach s 0 1 5) (cond (ltb 12288 (width s * height s * channels s)) 0 fine)

-- ---- 02 settings (u8, four f64)

unfoldable pub settings_breach : List ℕ → ℕ
settings_breach s = field_breach s 8 2 33

-- ---- any 03 contours, 17 bytes a segment; at most 64 contours, 256 segments in all

-- a contour field that follows k contours with n segments
unfoldable pub contour_breach : List ℕ → ℕ → ℕ → ℕ → ℕ
contour_breach s at k n =
    or_else (head_breach s at 3)
    (cond (not (eqb (length_at s at % 17) 0)) at
    (cond (leb 64 k) at
    (cond (ltb 256 (n + length_at s at / 17)) at
    (body_breach s at (length_at s at)))))

-- where contour k starts, and how many segments stand before it
unfoldable pub start : List ℕ → ℕ → ℕ
start s zero = 44
start s (suc k) = start s k + 3 + length_at s (start s k)

unfoldable pub before : List ℕ → ℕ → ℕ
before s zero = 0
before s (suc k) = before s k + length_at s (start s k) / 17

-- contour k is there, whole and within the limits
unfoldable pub good_contour : List ℕ → ℕ → Bool
good_contour s k = eqb (contour_breach s (start s k) k (before s k)) fine

-- the number of contours, of which k are there already and `room` may still come
unfoldable pub contours_from : ℕ → List ℕ → ℕ → ℕ
contours_from zero s k = k
contours_from (suc room) s k = cond (good_contour s k) (contours_from room s (suc k)) k

unfoldable pub contours : List ℕ → ℕ
contours s = contours_from 64 s 0

-- the field at a place has tag 03
unfoldable pub is_contour : List ℕ → ℕ → Bool
is_contour s at = ltb at (length s) && eqb (get_or s at 0) 3

-- where the last contour ends a field follows: one of tag 03 is a contour that is broken
abbrev pub rows_at : List ℕ → ℕ
rows_at s = start s (contours s)

unfoldable pub outline_breach : List ℕ → ℕ
outline_breach s = cond (is_contour s (rows_at s)) (contour_breach s (rows_at s) (contours s) (before s (contours s))) fine

-- ---- one 04 per row, of 4 bytes a sample

abbrev pub row_size : List ℕ → ℕ
row_size s = width s * channels s

-- h rows of n samples from a place on
unfoldable pub rows_breach : ℕ → List ℕ → ℕ → ℕ → ℕ
rows_breach zero s at n = fine
rows_breach (suc h) s at n = or_else (field_breach s at 4 (4 * n)) (rows_breach h s (at + (3 + 4 * n)) n)

-- where row y starts, and what follows the last one
abbrev pub row_at : List ℕ → ℕ → ℕ
row_at s y = rows_at s + y * (3 + 4 * row_size s)

abbrev pub end_at : List ℕ → ℕ
end_at s = row_at s (height s)

-- ---- 00, empty, and nothing after it

unfoldable pub end_breach : List ℕ → ℕ → ℕ
end_breach s at = or_else (field_breach s at 0 0) (cond (ltb (at + 3) (length s)) (at + 3) fine)

-- ---- the input: too long first, then field by field

unfoldable pub breach : List ℕ → ℕ
breach s =
    cond (ltb 65536 (length s)) 65536
    (or_else (size_breach s)
    (or_else (settings_breach s)
    (or_else (outline_breach s)
    (or_else (rows_breach (height s) s (rows_at s) (row_size s))
    (end_breach s (end_at s))))))
