-- What the inner functions ask of each other and leave for each other. No public function's promise rests on this page. Definitions only.
use Rattle.std.specs.Prelude.{◌≡◌, ℕ, zero, suc, ◌+◌, ◌-◌, ◌*◌, ◌≤◌, Bool, cond, not, ◌&&◌, ◌||◌, List, [], ◌∷◌, ℤ, pos, negsuc, ◌==◌, nat_lt, Float}
use Rattle.std.specs.Prelude.{ltb, Result, Err}
use Rattle.std.specs.Float.{binary64}
use Rattle.inputs.specs.declared.refusal.ContentRefusal.{ContentRefusal}
use Rattle.inputs.specs.declared.refusal.Refusal.{Refusal}
use Rattle.inputs.specs.declared.refusal.Refusal.TheVariants.{Content}
use Rattle.numbers.specs.Constants.{zero_of, one_of}
use Rattle.ranges.specs.Classifier.{range_test}
use Rattle.ranges.specs.Config.{disabled, edge_priority, edge_only}
use Rattle.ranges.specs.declared.config.Settings.{Settings}
use Rattle.detectors.specs.Texel.{texel_median}
use Rattle.detectors.specs.Pairs.{inside}
use Rattle.detectors.specs.Linear.{has_linear_artifact}
use Rattle.detectors.specs.Diagonal.{curve_median, turning_test, has_diagonal_artifact}
use Rattle.detectors.specs.Edge.{protects_lower, protects_upper}
use Rattle.inputs.specs.Stencil.{stencil_byte}
use Rattle.correction.specs.Edges.{edges_protect}
use Rattle.correction.specs.Errors.{has_artifact}

-- ---- neighbours

-- the column or row before x; 4,096, which no bitmap has, before the first
unfoldable pub previous : ℕ → ℕ
previous x = cond (x == 0) 4096 (x - 1)

-- column x and row y are those of a texel
unfoldable pub is_texel : ℕ → ℕ → ℕ → ℕ → Bool
is_texel w h x y = nat_lt x w && nat_lt y h

-- texel x, y against the texel nx, ny beside it, where there is one
unfoldable pub towards_side : (ℕ → ℕ → List Float) → ℕ → ℕ → Float → Bool → ℕ → ℕ → ℕ → ℕ → Bool
towards_side tex w h span protected x y nx ny = is_texel w h nx ny && has_linear_artifact span protected (texel_median (tex x y)) (tex x y) (tex nx ny)

-- against the texel nx, ny across
unfoldable pub towards_across : (ℕ → ℕ → List Float) → ℕ → ℕ → Float → Bool → ℕ → ℕ → ℕ → ℕ → Bool
towards_across tex w h span protected x y nx ny =
    is_texel w h nx ny && has_diagonal_artifact span protected (texel_median (tex x y)) (tex x y ∷ tex nx y ∷ tex x ny ∷ tex nx ny ∷ [])

-- the pair of texel x, y with nx, ny protects it: as the lower one, and as the other one
unfoldable pub lower_with : (ℕ → ℕ → List Float) → ℕ → ℕ → Float → ℕ → ℕ → ℕ → ℕ → Bool
lower_with tex w h r x y nx ny = is_texel w h nx ny && protects_lower r (tex x y) (tex nx ny)

unfoldable pub upper_with : (ℕ → ℕ → List Float) → ℕ → ℕ → Float → ℕ → ℕ → ℕ → ℕ → Bool
upper_with tex w h r x y nx ny = is_texel w h nx ny && protects_upper r (tex nx ny) (tex x y)

-- ---- a root of a diagonal pair whose channels turn at e and f

abbrev pub root_tested : Float → Bool → Float → Float → List (List Float) → Float → Float → Float → Bool
root_tested span protected am dm m t e f =
    inside t && (range_test span protected (zero_of binary64) (one_of binary64) t am dm (curve_median m t)
    || (turning_test span protected am dm m t (curve_median m t) e || turning_test span protected am dm m t (curve_median m t) f))

-- ---- bytes

-- texel x, y is protected, where `corner` says whether a corner protects it
unfoldable pub protected_by : (ℕ → ℕ → List Float) → ℕ → ℕ → ℕ → Settings → Bool → ℕ → ℕ → Bool
protected_by tex w h mode s corner x y = mode == edge_only || mode == edge_priority && (corner || edges_protect tex w h s x y)

-- its byte
unfoldable pub byte_by : (ℕ → ℕ → List Float) → ℕ → ℕ → ℕ → Settings → Bool → ℕ → ℕ → ℕ
byte_by tex w h mode s corner x y =
    stencil_byte corner (protected_by tex w h mode s corner x y) (not (mode == disabled) && has_artifact tex w h s (protected_by tex w h mode s corner x y) x y)

-- ---- corners

-- the first of the two columns beside a point whose signed column is l, and the second; n where it is not one of n columns
unfoldable pub first_beside : ℤ → ℕ → ℕ
first_beside (pos l) n = cond (nat_lt l n) l n
first_beside (negsuc l) n = n

unfoldable pub second_beside : ℤ → ℕ → ℕ
second_beside (pos l) n = cond (nat_lt (l + 1) n) (l + 1) n
second_beside (negsuc zero) n = 0
second_beside (negsuc (suc l)) n = n

-- the mark of a corner
abbrev pub corner : ℕ → ℕ
corner v = 4

-- cell k is that of column x and row y, which are those of a texel
unfoldable pub is_cell : ℕ → ℕ → ℕ → ℕ → ℕ → Bool
is_cell w h x y k = is_texel w h x y && k == y * w + x

-- ---- collapsing

-- the samples and the cells of a bitmap
pub record Collapsible (ch n m : ℕ) : Type 0 where
  pub some : 3 ≤ ch
  pub few : ch ≤ 4
  pub cells : m ≤ 16777216
  pub long : n ≡ m * ch

-- what a check answers that refuses at the first place that is bad, where there is one below n, and else says what the rest say
abbrev pub At : ℕ → ℕ → (ℕ → ContentRefusal) → Result Unit Refusal → Result Unit Refusal → Type 0
At n place kind rest r = r ≡ cond (ltb place n) (Err (Content (kind place))) rest
