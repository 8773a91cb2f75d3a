-- `reading::decode::contour_colours` meets its contract: before segment j those below it are decoded. Assumes nothing.
use mathlib.Core.List.{List}
use Prim.Native.Nat.{ℕ}
use lib.ListN.{get_or}
use Rattle.ground.specs.Lists.{tab}
use Rattle.reading.specs.Case.{segment_at}
use Rattle.reading.specs.Inner.{Put}
use Rattle.reading.proofs.decode.contour_colours.Given as goal

-- colour j of the contour at a place
abbrev pub colour : List ℕ → ℕ → ℕ → ℕ
colour s from j = get_or s (segment_at from j) 0

abbrev pub invariant-loop-j : goal.invariant-loop-j
invariant-loop-j l = Put l.initial.page (tab l.j (colour l.s l.from)) l.page
