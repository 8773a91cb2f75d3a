-- What is printed. Each line ends in one line feed. Definitions only.
use Rattle.std.specs.Prelude.{ℕ, ◌+◌, ◌*◌, ◌/◌, ◌%◌, cond, List, [], ◌∷◌, ◌++◌, get_or, ltb, Float}
use Rattle.std.specs.Float.{binary32}
use Rattle.std.specs.Float.Ieee.{to_bits}
use Rattle.ground.specs.Lists.{joined, tab}
use Rattle.inputs.specs.Stencil.{has_corner, is_protected, is_error}
use Rattle.inputs.specs.declared.stencil.Counts.{Counts}
use Rattle.numbers.specs.declared.scalar.Middle.{Middle}
use Rattle.detectors.specs.Texel.{texel_middle}
use Rattle.reading.specs.Decimal.{decimal}

-- ---- numbers

-- a number below 16 as an upper-case hex digit
unfoldable pub hex_digit : ℕ → ℕ
hex_digit d = cond (ltb d 10) (48 + d) (55 + d)

-- two hex digits of a byte, and eight of a u32
unfoldable pub hex_pair : ℕ → List ℕ
hex_pair b = hex_digit (b / 16 % 16) ∷ hex_digit (b % 16) ∷ []

unfoldable pub hex : ℕ → List ℕ
hex v = hex_pair (v / 16777216) ++ (hex_pair (v / 65536) ++ (hex_pair (v / 256) ++ hex_pair v))

-- a number and the byte after it: 32 is a space, 10 a line feed
unfoldable pub numbered : ℕ → ℕ → List ℕ
numbered n b = decimal n ++ (b ∷ [])

-- ---- `bad input AT`

unfoldable pub bad_text : ℕ → List ℕ
bad_text at = (98 ∷ 97 ∷ 100 ∷ 32 ∷ 105 ∷ 110 ∷ 112 ∷ 117 ∷ 116 ∷ 32 ∷ []) ++ numbered at 10

-- ---- `refused N PLACE`

unfoldable pub refused_text : ℕ → ℕ → List ℕ
refused_text n place = (114 ∷ 101 ∷ 102 ∷ 117 ∷ 115 ∷ 101 ∷ 100 ∷ 32 ∷ []) ++ (numbered n 32 ++ numbered place 10)

-- ---- an accepted pass

-- `size W H C`
unfoldable pub size_text : ℕ → ℕ → ℕ → List ℕ
size_text w h ch = (115 ∷ 105 ∷ 122 ∷ 101 ∷ 32 ∷ []) ++ (numbered w 32 ++ (numbered h 32 ++ numbered ch 10))

-- `protected P error E corner K`
unfoldable pub cells_text : Counts → List ℕ
cells_text c =
    (112 ∷ 114 ∷ 111 ∷ 116 ∷ 101 ∷ 99 ∷ 116 ∷ 101 ∷ 100 ∷ 32 ∷ []) ++ (numbered c.protected 32
    ++ ((101 ∷ 114 ∷ 114 ∷ 111 ∷ 114 ∷ 32 ∷ []) ++ (numbered c.error 32
    ++ ((99 ∷ 111 ∷ 114 ∷ 110 ∷ 101 ∷ 114 ∷ 32 ∷ []) ++ decimal c.corner))))

-- ` tests T`
unfoldable pub tests_text : ℕ → List ℕ
tests_text t = (32 ∷ 116 ∷ 101 ∷ 115 ∷ 116 ∷ 115 ∷ 32 ∷ []) ++ decimal t

-- the counts' line: `protected P error E corner K tests T`
unfoldable pub counts_text : Counts → ℕ → List ℕ
counts_text c t = cells_text c ++ (tests_text t ++ (10 ∷ []))

-- that of the plain engine, which counts no tests: `protected P error E corner K`
unfoldable pub counts_plainly : Counts → List ℕ
counts_plainly c = cells_text c ++ (10 ∷ [])

-- a cell's mark: `C` corner, `D` corner with error; without a corner `.` none, `P`, `E`, `B` both
unfoldable pub mark : ℕ → ℕ
mark v = cond (has_corner v) (cond (is_error v) 68 67) (cond (is_protected v) (cond (is_error v) 66 80) (cond (is_error v) 69 46))

-- the marks of w cells from one on
unfoldable pub marks_text : ℕ → List ℕ → ℕ → List ℕ
marks_text w st from = tab w (λ x. mark (get_or st (from + x) 0))

-- row y, and the rows from the bottom
unfoldable pub row_text : ℕ → List ℕ → ℕ → List ℕ
row_text w st y = marks_text w st (y * w) ++ (10 ∷ [])

unfoldable pub rows_text : ℕ → ℕ → List ℕ → List ℕ
rows_text w h st = joined h (row_text w st)

-- `X Y BITS ch I` of a texel: the bits of its median's value, and the channel that carries it
unfoldable pub texel_text : ℕ → ℕ → Middle → List ℕ
texel_text x y m = numbered x 32 ++ (numbered y 32 ++ (hex (to_bits binary32 m.value) ++ ((32 ∷ 99 ∷ 104 ∷ 32 ∷ []) ++ numbered m.channel 10)))

-- cell k, where it is flagged; the texels are those before the pass
unfoldable pub flagged_text : ℕ → List ℕ → (ℕ → List Float) → ℕ → List ℕ
flagged_text w st texels k = cond (is_error (get_or st k 0)) (texel_text (k % w) (k / w) (texel_middle (texels k))) []

-- the size, the counts' line that is given, the rows, then each flagged texel, row by row
unfoldable pub accepted_with : ℕ → ℕ → ℕ → List ℕ → List ℕ → (ℕ → List Float) → List ℕ
accepted_with w h ch counts st texels =
    size_text w h ch ++ (counts ++ (rows_text w h st ++ joined (w * h) (flagged_text w st texels)))

-- with the pass's line
unfoldable pub accepted_text : ℕ → ℕ → ℕ → Counts → ℕ → List ℕ → (ℕ → List Float) → List ℕ
accepted_text w h ch c t st texels = accepted_with w h ch (counts_text c t) st texels

-- with the plain engine's line
unfoldable pub accepted_plainly : ℕ → ℕ → ℕ → Counts → List ℕ → (ℕ → List Float) → List ℕ
accepted_plainly w h ch c st texels = accepted_with w h ch (counts_plainly c) st texels
