-- Collapsing: the first three channels of flagged texels become their median. Definitions only.
use Rattle.std.specs.Prelude.{ℕ, ◌/◌, ◌%◌, Bool, cond, ◌&&◌, List, get_or, length, ltb, Float}
use Rattle.std.specs.Float.{nan}
use Rattle.ground.specs.Lists.{tab}
use Rattle.detectors.specs.Texel.{texel_median}
use Rattle.correction.specs.Bitmap.{cell_texel}

-- the median's own value, of the texel of cell k
abbrev pub cell_median : List Float → ℕ → ℕ → Float
cell_median xs ch k = texel_median (cell_texel xs ch k)

-- Sample j, which is channel j % ch of cell j / ch: channel four and all other texels stay.
unfoldable pub collapsed_sample : List Float → ℕ → (ℕ → Bool) → ℕ → Float
collapsed_sample xs ch flag j = cond (flag (j / ch) && ltb (j % ch) 3) (cell_median xs ch (j / ch)) (get_or xs j nan)

-- the samples after collapsing the texels whose cells are flagged
unfoldable pub collapsed : List Float → ℕ → (ℕ → Bool) → List Float
collapsed xs ch flag = tab (length xs) (collapsed_sample xs ch flag)
