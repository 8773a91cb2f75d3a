-- `detectors::diagonal::some_pair` meets its contract: no pair below p and no root of pair p before t is an artifact, and the tests are those of all of them. Assumes nothing.
use Rattle.std.proofs.Common.{◌≡◌, ◌+◌, false}
use Rattle.ground.specs.Lists.{any, some, spent, spent_in}
use Rattle.detectors.specs.Diagonal.{diagonal_at, diagonal_tests_at}
use Rattle.detectors.specs.Orders.{doubted_pair, doubted_tests}
use Rattle.detectors.proofs.diagonal.some_pair.Given as goal

abbrev pub invariant-loop-t : goal.invariant-loop-t
invariant-loop-t l = (some (diagonal_at l.k.span l.k.protected l.am l.dm l.m l.p) l.yielded ≡ false) × (l.all ≡ l.initial.all + spent_in (diagonal_at l.k.span l.k.protected l.am l.dm l.m l.p) (diagonal_tests_at l.m l.p) l.yielded)

abbrev pub invariant-loop-p : goal.invariant-loop-p
invariant-loop-p l = (any l.p (doubted_pair l.doubt l.k.span l.k.protected l.am l.dm l.m) ≡ false) × (l.all ≡ spent l.p (doubted_pair l.doubt l.k.span l.k.protected l.am l.dm l.m) (doubted_tests l.doubt l.k.span l.k.protected l.am l.dm l.m))
