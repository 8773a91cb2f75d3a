-- The stencil: what the byte of a cell says, how one of its bits is set, and how many cells have each. A bit is named by its value. Definitions only.
use Rattle.std.specs.Prelude.{ℕ, ◌+◌, ◌/◌, ◌%◌, Bool, cond, List, get_or, length, eqb}
use Rattle.ground.specs.Lists.{count}
use Rattle.inputs.specs.declared.stencil.Counts.{Counts}

-- the byte of a stencil cell, by three facts: bit 4 where a corner protects it, bit 2 where it is protected, and bit 1 where it has an error
unfoldable pub stencil_byte : Bool → Bool → Bool → ℕ
stencil_byte corner protected error = cond corner 4 0 + cond protected 2 0 + cond error 1 0

-- what the byte says of each, whatever else it says
unfoldable pub has_corner : ℕ → Bool
has_corner v = eqb (v / 4 % 2) 1

unfoldable pub is_protected : ℕ → Bool
is_protected v = eqb (v / 2 % 2) 1

unfoldable pub is_error : ℕ → Bool
is_error v = eqb (v % 2) 1

-- the byte with that bit set and all others as they were
unfoldable pub set_corner : ℕ → ℕ
set_corner v = cond (has_corner v) v (v + 4)

unfoldable pub set_protected : ℕ → ℕ
set_protected v = cond (is_protected v) v (v + 2)

unfoldable pub set_error : ℕ → ℕ
set_error v = cond (is_error v) v (v + 1)

-- the number of stencil cells whose byte says so
abbrev pub cell_count : (ℕ → Bool) → List ℕ → ℕ
cell_count says st = count (length st) (λ k. says (get_or st k 0))

-- the number of stencil cells with bit 2, with bit 1 and with bit 4
unfoldable pub protected_count : List ℕ → ℕ
protected_count st = cell_count is_protected st

unfoldable pub error_count : List ℕ → ℕ
error_count st = cell_count is_error st

unfoldable pub corner_count : List ℕ → ℕ
corner_count st = cell_count has_corner st

abbrev pub counts_of : List ℕ → Counts
counts_of st = record { protected = protected_count st; error = error_count st; corner = corner_count st }
