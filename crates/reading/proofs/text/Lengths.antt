-- How long the printed texts are at most. Assumes nothing.
use Rattle.std.specs.Prelude.{Some, None}
use mathlib.Core.Bool.{Bool, true, false, cond}
use mathlib.Core.List.{List, [], ◌∷◌}
use mathlib.Core.Path.{◌≡◌, ap, ◌∙◌}
use Prim.Native.Nat.{ℕ, ◌+◌, ◌*◌, ◌/◌, ◌%◌, ◌^◌, ◌≤◌, ◌<◌}
use native.Mathlib.Nat.{add-mul, lt_of_le_of_lt, mod-le, div-le_self}
use native.Mathlib.Omega.{arith}
use lib.Ieee.{Float, binary32, to_bits}
use lib.ListN.{length, get_or, length-append}
use Rattle.ground.specs.Lists.{joined}
use Rattle.ground.proofs.Laws.Fill.{tab_length}
use Rattle.ground.proofs.Laws.Join.{joined_length}
use Rattle.numbers.specs.declared.scalar.Middle.{Middle}
use Rattle.detectors.specs.Texel.{texel_middle}
use Rattle.detectors.proofs.Laws.Texel.{texel_channel_below}
use Rattle.inputs.specs.declared.stencil.Counts.{Counts}
use Rattle.inputs.specs.Stencil.{is_error}
use Rattle.reading.specs.Text.{hex_pair, hex, numbered, bad_text, refused_text, size_text, cells_text, tests_text, counts_text, counts_plainly, marks_text, row_text, rows_text, texel_text, flagged_text, accepted_with}
use Rattle.reading.specs.Inner.{counts_line}
use Rattle.reading.proofs.Laws.Decimal.{decimal_length, decimal_length_u64}

cond_length : (t : Bool) (m : ℕ) (l : List ℕ) → length l ≤ m → length (cond t l []) ≤ m
cond_length true m l h = h
cond_length false m l h = omega arith

-- a number with the byte after it: one that fits a u64, one below 100,000 and one below 10
pub numbered_length : (n b : ℕ) → n < 2 ^ 64 → length (numbered n b) ≤ 21
unfolding numbered
numbered_length n b l = simp length-append (omega (arith, decimal_length_u64 n l))

pub numbered_short : (n b : ℕ) → n < 100000 → length (numbered n b) ≤ 6
unfolding numbered
numbered_short n b l = simp length-append (omega (arith, decimal_length 5 n (omega arith) l))

pub numbered_digit : (n b : ℕ) → n < 10 → length (numbered n b) ≤ 2
unfolding numbered
numbered_digit n b l = simp length-append (omega (arith, decimal_length 1 n (omega arith) l))

-- two hex digits, and eight
pub hex_pair_length : (v : ℕ) → length (hex_pair v) ≤ 2
unfolding hex_pair
hex_pair_length v = omega arith

pub hex_length : (v : ℕ) → length (hex v) ≤ 8
unfolding hex
hex_length v = simp length-append (omega (arith, hex_pair_length v, hex_pair_length (v / 256), hex_pair_length (v / 65536), hex_pair_length (v / 16777216)))

-- the marks of a row, and the row
pub marks_length : (w : ℕ) (st : List ℕ) (from : ℕ) → length (marks_text w st from) ≡ w
unfolding marks_text
marks_length w st from = tab_length w _

pub row_length : (w : ℕ) (st : List ℕ) (y : ℕ) → length (row_text w st y) ≡ w + 1
unfolding row_text
row_length w st y = length-append (marks_text w st (y * w)) (10 ∷ []) ∙ ap (λ (n : ℕ). n + 1) (marks_length w st (y * w))

-- the line of a texel
pub texel_length : (x y : ℕ) (m : Middle) → x < 100000 → y < 100000 → m.channel < 3 → length (texel_text x y m) ≤ 26
unfolding texel_text
texel_length x y m p q r = simp length-append (omega (arith, numbered_short x 32 p, numbered_short y 32 q, hex_length (to_bits binary32 m.value), numbered_digit m.channel 10 (omega arith)))

-- neither place of a cell is above its number
pub cell_short : (k w : ℕ) → k < 100000 → (k % w < 100000) × (k / w < 100000)
cell_short k w l = (lt_of_le_of_lt (mod-le k w) l, lt_of_le_of_lt (div-le_self k w) l)

-- where it is flagged
pub flagged_length : (w : ℕ) (st : List ℕ) (texels : ℕ → List Float) (k : ℕ) → k < 100000 → length (flagged_text w st texels k) ≤ 26
unfolding flagged_text
flagged_length w st texels k l =
    let z = cell_short k w l in
    cond_length (is_error (get_or st k 0)) 26 _ (texel_length (k % w) (k / w) (texel_middle (texels k)) z.0 z.1 (texel_channel_below (texels k)))

-- the size line
pub size_length : (w h ch : ℕ) → w < 2 ^ 64 → h < 2 ^ 64 → ch < 2 ^ 64 → length (size_text w h ch) ≤ 68
unfolding size_text
size_length w h ch p q r = simp length-append (omega (arith, numbered_length w 32 p, numbered_length h 32 q, numbered_length ch 10 r))

-- the counts
pub cells_length : (c : Counts) → c.protected < 2 ^ 64 → c.error < 2 ^ 64 → c.corner < 2 ^ 64 → length (cells_text c) ≤ 85
unfolding cells_text
cells_length c l m n = simp length-append (omega (arith, numbered_length c.protected 32 l, numbered_length c.error 32 m, decimal_length_u64 c.corner n))

-- their line with the tests, and without
pub counted_length : (c : Counts) (t : ℕ) → length (cells_text c) ≤ 85 → t < 2 ^ 64 → length (counts_line c (Some t)) ≤ 113
unfolding counts_line counts_text tests_text
counted_length c t l o = simp length-append (omega (arith, decimal_length_u64 t o))

pub uncounted_length : (c : Counts) → length (cells_text c) ≤ 85 → length (counts_line c None) ≤ 113
unfolding counts_line counts_plainly
uncounted_length c l = simp length-append (omega arith)

-- all rows
pub rows_length : (w h : ℕ) (st : List ℕ) → length (rows_text w h st) ≤ w * h + h
unfolding rows_text
rows_length w h st = omega (arith, joined_length h (w + 1) (row_text w st) (λ y l. omega (arith, row_length w st y)), add-mul w 1 h)

-- `bad input AT`
pub bad_length_law : (at : ℕ) → at < 2 ^ 64 → length (bad_text at) ≤ 31
unfolding bad_text
bad_length_law at l = simp length-append (omega (arith, numbered_length at 10 l))

-- `refused N PLACE`
pub refused_length : (n place : ℕ) → n < 2 ^ 64 → place < 2 ^ 64 → length (refused_text n place) ≤ 50
unfolding refused_text
refused_length n place p q = simp length-append (omega (arith, numbered_length n 32 p, numbered_length place 10 q))

-- all texels
pub texels_length : (n w : ℕ) (st : List ℕ) (texels : ℕ → List Float) → n ≤ 100000 → length (joined n (flagged_text w st texels)) ≤ 26 * n
texels_length n w st texels l = joined_length n 26 (flagged_text w st texels) (λ k p. flagged_length w st texels k (omega arith))

-- an accepted pass
pub accepted_length : (w h ch : ℕ) (counts st : List ℕ) (texels : ℕ → List Float) → w < 2 ^ 64 → h < 2 ^ 64 → ch < 2 ^ 64 → length counts ≤ 113 → w * h ≤ 100000 → length (accepted_with w h ch counts st texels) ≤ 181 + (w * h + h) + 26 * (w * h)
unfolding accepted_with
accepted_length w h ch counts st texels a b c d l =
    simp length-append
    (omega (arith, size_length w h ch a b c, d, rows_length w h st, texels_length (w * h) w st texels l))
