-- `signs::rasterization::write_matches` meets its contract, by the laws of a loop that fills. Assumes nothing.
use lib.IntN.{pos}
use Rattle.ground.proofs.Laws.Fill.{Filled}
use Rattle.signs.specs.Signs.{match_at}
use Rattle.signs.proofs.rasterization.write_matches.Given as goal

abbrev pub invariant-loop-k : goal.invariant-loop-k
invariant-loop-k g l = Filled (pos 0) (match_at l.xs g.row.CH l.zero l.filled) l.initial.matches l.k l.matches
