-- `plain::checks::check_size` meets its contract: the products are right where checks 1 and 2 pass. Assumes nothing.
use Rattle.std.proofs.Common.{◌*◌, not, eqb}
use Rattle.plain.proofs.checks.Chosen.{sizes_chosen, sizes_told}
use Rattle.plain.proofs.checks.check_size.Goals as goal

pub returns-clause-numbers : goal.returns-clause-numbers
returns-clause-numbers c =
    let area = c.at_most.result * c.at_most-2.result in
    let told = sizes_told c.bad_channels.result c.bad_size.result (not (eqb c.args.n (area * c.at_most-3.result))) (not (eqb c.args.m area)) c.refused.ensures c.refused-sides.ensures c.refused-samples.ensures c.refused-cells.ensures in
    rw (told.0, c.bad_channels.ensures, c.bad_size.ensures) (sizes_chosen _ _ _ _ _ c.at_most.ensures.0 c.at_most-2.ensures.0 c.at_most-3.ensures.0)

pub returns-clause-places : goal.returns-clause-places
returns-clause-places c = (sizes_told _ _ _ _ c.refused.ensures c.refused-sides.ensures c.refused-samples.ensures c.refused-cells.ensures).1
