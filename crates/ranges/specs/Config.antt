-- Settings and mode: the ratio and the three lengths, and what the pass makes of them. Definitions only.
use Rattle.std.specs.Prelude.{ℕ, Bool, cond, Float}
use Rattle.std.specs.Float.{binary64}
use Rattle.std.specs.Float.Ieee.{mul}
use Rattle.ranges.specs.Constants.{tolerance}
use Rattle.numbers.specs.Rounding.{narrow_of}
use Rattle.ranges.specs.declared.config.Settings.{Settings}
use Rattle.ranges.specs.declared.config.Mode.{Mode}
use Rattle.ranges.specs.declared.config.Mode.TheVariants.{Disabled, Indiscriminate, EdgePriority, EdgeOnly}

-- mode 0 Disabled, 1 Indiscriminate, 2 EdgePriority, 3 EdgeOnly
abbrev pub disabled : ℕ
disabled = 0

abbrev pub indiscriminate : ℕ
indiscriminate = 1

abbrev pub edge_priority : ℕ
edge_priority = 2

abbrev pub edge_only : ℕ
edge_only = 3

-- the number that stands for a mode
abbrev pub mode_number : Mode → ℕ
mode_number Disabled = disabled
mode_number Indiscriminate = indiscriminate
mode_number EdgePriority = edge_priority
mode_number EdgeOnly = edge_only

-- Span is ratio × length, of a side neighbour, in the row or in the column
unfoldable pub side_span : Settings → Bool → Float
side_span s upright = cond upright (mul binary64 s.ratio s.vertical) (mul binary64 s.ratio s.horizontal)

-- and of a diagonal one
unfoldable pub diagonal_span : Settings → Float
diagonal_span s = mul binary64 s.ratio s.diagonal

-- radius is 1.001 × a direction's length, narrowed to f32
unfoldable pub radius : Float → Float
radius length = narrow_of (mul binary64 tolerance length)
