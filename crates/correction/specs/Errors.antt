-- Finding: which texels get bit 1, and how many range tests it takes. Of four texels a is the one that is judged, b lies in its row, c in its column and d across. Definitions only.
use Rattle.std.specs.Prelude.{ℕ, ◌+◌, ◌-◌, Bool, true, false, cond, ◌&&◌, ◌||◌, List, [], ◌∷◌, Float}
use Rattle.ranges.specs.declared.config.Settings.{Settings}
use Rattle.ground.specs.Lists.{spent_in}
use Rattle.detectors.specs.Texel.{texel_median}
use Rattle.inputs.specs.Bounds.{in_bounds}
use Rattle.ranges.specs.Config.{side_span, diagonal_span}
use Rattle.detectors.specs.Linear.{has_linear_artifact, linear_tests}
use Rattle.detectors.specs.Diagonal.{has_diagonal_artifact, diagonal_tests}

-- texel a, whose median is m, against the side neighbour at column nx and row ny, counted from 1
unfoldable pub side_artifact : (ℕ → ℕ → List Float) → ℕ → ℕ → Float → Bool → Float → List Float → ℕ → ℕ → Bool
side_artifact tex w h span protected m a nx ny = in_bounds w h nx ny && has_linear_artifact span protected m a (tex (nx - 1) (ny - 1))

-- the four side neighbours: left, below, right, above
unfoldable pub some_side : (ℕ → ℕ → List Float) → ℕ → ℕ → Float → Float → Bool → Float → List Float → ℕ → ℕ → Bool
some_side tex w h hs vs protected m a x y =
    side_artifact tex w h hs protected m a x (y + 1)
    || (side_artifact tex w h vs protected m a (x + 1) y
    || (side_artifact tex w h hs protected m a (x + 2) (y + 1) || side_artifact tex w h vs protected m a (x + 1) (y + 2)))

-- texel a at x, y against the diagonal neighbour at column nx and row ny, counted from 1: with it the neighbours in the row and in the column
unfoldable pub diagonal_artifact : (ℕ → ℕ → List Float) → ℕ → ℕ → Float → Bool → Float → List Float → ℕ → ℕ → ℕ → ℕ → Bool
diagonal_artifact tex w h span protected m a x y nx ny =
    in_bounds w h nx ny && has_diagonal_artifact span protected m (a ∷ tex (nx - 1) y ∷ tex x (ny - 1) ∷ tex (nx - 1) (ny - 1) ∷ [])

-- the four diagonal neighbours: lower left, lower right, upper left, upper right
unfoldable pub some_diagonal : (ℕ → ℕ → List Float) → ℕ → ℕ → Float → Bool → Float → List Float → ℕ → ℕ → Bool
some_diagonal tex w h ds protected m a x y =
    diagonal_artifact tex w h ds protected m a x y x y
    || (diagonal_artifact tex w h ds protected m a x y (x + 2) y
    || (diagonal_artifact tex w h ds protected m a x y x (y + 2) || diagonal_artifact tex w h ds protected m a x y (x + 2) (y + 2)))

-- some in-bounds neighbour of texel a at x, y, whose median is m
unfoldable pub some_artifact : (ℕ → ℕ → List Float) → ℕ → ℕ → Settings → Bool → Float → List Float → ℕ → ℕ → Bool
some_artifact tex w h s protected m a x y =
    some_side tex w h (side_span s false) (side_span s true) protected m a x y || some_diagonal tex w h (diagonal_span s) protected m a x y

-- Texel x, y gets bit 1 exactly when some in-bounds neighbour, pair and root gives an artifact.
unfoldable pub has_artifact : (ℕ → ℕ → List Float) → ℕ → ℕ → Settings → Bool → ℕ → ℕ → Bool
has_artifact tex w h s protected x y = some_artifact tex w h s protected (texel_median (tex x y)) (tex x y) x y

-- ---- how many range tests are made

-- towards the side neighbour at column nx and row ny, counted from 1
unfoldable pub side_tests : (ℕ → ℕ → List Float) → ℕ → ℕ → Float → Bool → Float → List Float → ℕ → ℕ → ℕ
side_tests tex w h span protected m a nx ny = cond (in_bounds w h nx ny) (linear_tests span protected m a (tex (nx - 1) (ny - 1))) 0

-- towards the diagonal one
unfoldable pub across_tests : (ℕ → ℕ → List Float) → ℕ → ℕ → Float → Bool → Float → List Float → ℕ → ℕ → ℕ → ℕ → ℕ
across_tests tex w h span protected m a x y nx ny = cond (in_bounds w h nx ny) (diagonal_tests span protected m (a ∷ tex (nx - 1) y ∷ tex x (ny - 1) ∷ tex (nx - 1) (ny - 1) ∷ [])) 0

-- what is found towards either, and the tests that it takes
abbrev pub towards_side : (ℕ → ℕ → List Float) → ℕ → ℕ → Float → Bool → Float → List Float → ℕ → ℕ → Bool × ℕ
towards_side tex w h span protected m a nx ny = (side_artifact tex w h span protected m a nx ny, side_tests tex w h span protected m a nx ny)

abbrev pub towards_across : (ℕ → ℕ → List Float) → ℕ → ℕ → Float → Bool → Float → List Float → ℕ → ℕ → ℕ → ℕ → Bool × ℕ
towards_across tex w h span protected m a x y nx ny = (diagonal_artifact tex w h span protected m a x y nx ny, across_tests tex w h span protected m a x y nx ny)

-- towards some neighbours in order, up to the first with an artifact
abbrev pub in_order : List (Bool × ℕ) → ℕ
in_order = spent_in (λ v. v.0) (λ v. v.1)

-- the linear tests: left, below, right, above
unfoldable pub linear_made : (ℕ → ℕ → List Float) → ℕ → ℕ → Float → Float → Bool → Float → List Float → ℕ → ℕ → ℕ
linear_made tex w h hs vs protected m a x y =
    let side = towards_side tex w h in
    in_order (side hs protected m a x (y + 1) ∷ side vs protected m a (x + 1) y ∷ side hs protected m a (x + 2) (y + 1) ∷ side vs protected m a (x + 1) (y + 2) ∷ [])

-- the diagonal tests, once no side neighbour has an artifact: lower left, lower right, upper left, upper right
unfoldable pub diagonal_made : (ℕ → ℕ → List Float) → ℕ → ℕ → Float → Bool → Float → List Float → ℕ → ℕ → ℕ
diagonal_made tex w h ds protected m a x y =
    let across = towards_across tex w h ds protected m a x y in
    in_order (across x y ∷ across (x + 2) y ∷ across x (y + 2) ∷ across (x + 2) (y + 2) ∷ [])

-- both, for texel a at x, y, whose median is m
unfoldable pub some_made : (ℕ → ℕ → List Float) → ℕ → ℕ → Settings → Bool → Float → List Float → ℕ → ℕ → ℕ
some_made tex w h s protected m a x y =
    linear_made tex w h (side_span s false) (side_span s true) protected m a x y
    + cond (some_side tex w h (side_span s false) (side_span s true) protected m a x y) 0 (diagonal_made tex w h (diagonal_span s) protected m a x y)

-- the range tests made for texel x, y
unfoldable pub tests_made : (ℕ → ℕ → List Float) → ℕ → ℕ → Settings → Bool → ℕ → ℕ → ℕ
tests_made tex w h s protected x y = some_made tex w h s protected (texel_median (tex x y)) (tex x y) x y
