-- `reading::decode::contour_coords` meets its contract: before segment j those below it are decoded. Assumes nothing.
use mathlib.Core.List.{List, [], ◌∷◌}
use Prim.Native.Nat.{ℕ, ◌+◌}
use lib.Ieee.{Float}
use Rattle.ground.specs.Lists.{joined}
use Rattle.ground.specs.Bytes.{f64_at}
use Rattle.reading.specs.Case.{segment_at}
use Rattle.reading.specs.Inner.{Put}
use Rattle.reading.proofs.decode.contour_coords.Given as goal

-- coordinates j of the contour at a place
abbrev pub pair : List ℕ → ℕ → ℕ → List Float
pair s from j = f64_at s (segment_at from j + 1) ∷ f64_at s (segment_at from j + 9) ∷ []

abbrev pub invariant-loop-j : goal.invariant-loop-j
invariant-loop-j l = Put l.initial.page (joined l.j (pair l.s l.from)) l.page
