-- `signs::rasterization::correct_alone` meets its contract: channel c has gone by its own comparison in the first k texels. Assumes nothing.
use mathlib.Core.Bool.{Bool, ◌&&◌}
use mathlib.Core.List.{List}
use Prim.Native.Nat.{ℕ, ◌*◌, ◌/◌, ◌%◌}
use lib.Dec.{eqb}
use lib.ListN.{get_or}
use lib.Ieee.{Float, nan}
use Rattle.signs.specs.Flip.{is_amiss}
use Rattle.signs.specs.Signs.{filled_at}
use Rattle.signs.proofs.rasterization.Steps.{Flipping}
use Rattle.signs.proofs.rasterization.correct_alone.Given as goal

-- sample j is flipped
abbrev pub goes : Float → ℕ → ℕ → List ℕ → List Float → ℕ → Bool
goes zero ch c filled xs j = eqb (j % ch) c && is_amiss zero (filled_at filled (j / ch)) (get_or xs j nan)

abbrev pub invariant-loop-k : goal.invariant-loop-k
invariant-loop-k g l = Flipping l.zero (goes l.zero g.row.CH g.row.C l.filled l.initial.xs) l.initial.xs (l.k * g.row.CH) l.xs
