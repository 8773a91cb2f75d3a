-- Bitmap and index rules: row 0 at the bottom, channels interleaved. Definitions only.
use Rattle.std.specs.Prelude.{ℕ, ◌+◌, ◌*◌, List, [], ◌∷◌, get_or, Float}
use Rattle.std.specs.Float.{nan}

-- the number of texel x, y in a bitmap of width w, which is its stencil cell
abbrev pub cell : ℕ → ℕ → ℕ → ℕ
cell w x y = y * w + x

-- where the sample of texel x, y, channel i stands
abbrev pub place : ℕ → ℕ → ℕ → ℕ → ℕ → ℕ
place w ch x y i = cell w x y * ch + i

-- the first three channels of the texel of cell k, and of texel x, y
abbrev pub cell_texel : List Float → ℕ → ℕ → List Float
cell_texel xs ch k = get_or xs (k * ch + 0) nan ∷ get_or xs (k * ch + 1) nan ∷ get_or xs (k * ch + 2) nan ∷ []

unfoldable pub texel : List Float → ℕ → ℕ → ℕ → ℕ → List Float
texel xs w ch x y = cell_texel xs ch (cell w x y)
