-- `reading::decode::decode_row` meets its contract: before sample j those below it are decoded. Assumes nothing.
use mathlib.Core.List.{List}
use Prim.Native.Nat.{ℕ, ◌+◌, ◌*◌}
use lib.Ieee.{Float}
use Rattle.ground.specs.Lists.{tab}
use Rattle.ground.specs.Bytes.{f32_at}
use Rattle.reading.specs.Inner.{Put}
use Rattle.reading.proofs.decode.decode_row.Given as goal

-- sample j of the row at a place
abbrev pub sample : List ℕ → ℕ → ℕ → Float
sample s from j = f32_at s (from + 3 + 4 * j)

abbrev pub invariant-loop-j : goal.invariant-loop-j
invariant-loop-j l = Put l.initial.page (tab l.j (sample l.s l.from)) l.page
