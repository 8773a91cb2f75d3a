-- Where the texels of a bitmap lie that the checks let through: its products of two variables. Assumes nothing.
use mathlib.Core.Path.{◌≡◌, sym, ◌∙◌, subst}
use mathlib.Core.List.{List}
use Prim.Native.Nat.{ℕ, ◌+◌, ◌*◌, ◌/◌, ◌%◌, ◌<◌, ◌≤◌}
use native.Mathlib.Nat.{le-mul_of_pos_right, lt_of_mul-lt-mul_right, suc-mul, mul-le-mul_right, mod-lt, div-add-mod'}
use native.Mathlib.Numerals.{add-one}
use native.Mathlib.Omega.{arith}
use lib.Arith.{digits_lt}
use lib.ListN.{length}
use Rattle.inputs.specs.Inner.{Celled}

-- cell x, y is one of the h * w
pub cell_lt : (w h x y : ℕ) → x < w → y < h → y * w + x < h * w
cell_lt w h x y p q = digits_lt q p

-- and there are not many
pub cell_small : (w h x y : ℕ) → x < w → y < h → w ≤ 4096 → h ≤ 4096 → y * w + x < 16777216
cell_small w h x y p q r s = omega (arith, cell_lt w h x y p q, mul-le-mul_right w s)

-- the last of texel k's first three samples is one of the n * ch
pub place_lt : (ch k n : ℕ) → 3 ≤ ch → k < n → k * ch + 2 < n * ch
place_lt ch k n p q = digits_lt q p

pub record Place (w ch x y n : ℕ) : Type 0 where
  pub last : (y * w + x) * ch + 2 < n
  pub cell : y * w + x ≤ (y * w + x) * ch

pub placed : (w h ch x y n : ℕ) → x < w → y < h → 3 ≤ ch → n ≡ h * w * ch → Place w ch x y n
placed w h ch x y n p q r e =
    record { last = subst (λ (m : ℕ). (y * w + x) * ch + 2 < m) (sym e) (place_lt ch (y * w + x) (h * w) r (cell_lt w h x y p q)); cell = le-mul_of_pos_right (y * w + x) (omega arith) }

-- and the other way round: of a cell below h * w the row is below h
pub row_lt : (w h x y : ℕ) → y * w + x < h * w → y < h
row_lt w h x y p = lt_of_mul-lt-mul_right w (omega arith)

-- the column and the row of cell k
pub cell_inside : (w h k : ℕ) → 1 ≤ w → k < h * w → (k % w < w) × (k / w < h)
cell_inside w h k o l =
    (mod-lt k o, row_lt w h (k % w) (k / w) (subst (λ (m : ℕ). m < h * w) (sym (div-add-mod' k w)) l))

pub next_row : (w y : ℕ) → (y + 1) * w ≡ y * w + w
next_row w y = rw (add-one, suc-mul)

-- cells that are as many as they were
pub still_celled : {w h : ℕ} {st st' : List ℕ} → Celled w h st → length st' ≡ length st → Celled w h st'
still_celled r e = record { any = r.any; wide = r.wide; high = r.high; long = e ∙ r.long }
