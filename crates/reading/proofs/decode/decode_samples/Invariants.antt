-- `reading::decode::decode_samples` meets its contract: before row y those below it are decoded. Assumes nothing.
use mathlib.Core.List.{List}
use mathlib.Core.Path.{◌≡◌}
use Prim.Native.Nat.{ℕ, ◌+◌, ◌*◌}
use lib.Ieee.{Float}
use Rattle.ground.specs.Lists.{joined}
use Rattle.reading.specs.Case.{row_samples}
use Rattle.reading.specs.Inner.{Put}
use Rattle.reading.proofs.decode.decode_samples.Given as goal

-- row y
abbrev pub row : List ℕ → ℕ → ℕ → ℕ → List Float
row s from n y = row_samples s (from + y * (3 + 4 * n)) n

abbrev pub invariant-loop-y : goal.invariant-loop-y
invariant-loop-y l = record {
  count : l.page.at ≡ l.y * l.n;
  put : Put l.initial.page (joined l.y (row l.s l.from l.n)) l.page;
}
