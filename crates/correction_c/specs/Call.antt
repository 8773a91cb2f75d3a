-- What an exported function is handed and what it writes: all that comes in, with the settings one by one, and the counts of a sheet. Definitions only.
use Rattle.std.specs.Prelude.{ℕ, cond, List, Float}
use Rattle.ranges.specs.declared.config.Settings.{Settings}
use Rattle.inputs.specs.Checks.{Input, input}
use Rattle.correction.specs.Sheet.{Sheet, sheet_accepted, sheet_counts, sheet_tests}

abbrev pub settings_of : Float → Float → Float → Float → Settings
settings_of ratio horizontal vertical diagonal = record { ratio = ratio; horizontal = horizontal; vertical = vertical; diagonal = diagonal }

abbrev pub called : ℕ → ℕ → ℕ → List Float → List ℕ → List Float → ℕ → Float → Float → Float → Float → List ℕ → List Float → List ℕ → Input
called w h ch xs st room mode ratio horizontal vertical diagonal colours coords ends = input w h ch xs st room mode (settings_of ratio horizontal vertical diagonal) colours coords ends

-- the counts of a sheet: those over the cells of an accepted one, and zeros for a refusal
unfoldable pub sheet_protected : Sheet → ℕ
sheet_protected s = cond (sheet_accepted s) (sheet_counts s).protected 0

unfoldable pub sheet_errors : Sheet → ℕ
sheet_errors s = cond (sheet_accepted s) (sheet_counts s).error 0

unfoldable pub sheet_corners : Sheet → ℕ
sheet_corners s = cond (sheet_accepted s) (sheet_counts s).corner 0

-- its range tests: those over the cells of an accepted one, and none for a refusal
unfoldable pub sheet_test_count : Sheet → ℕ
sheet_test_count s = cond (sheet_accepted s) (sheet_tests s) 0
