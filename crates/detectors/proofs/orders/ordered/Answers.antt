-- `detectors::orders::ordered` meets its contract. Assumes nothing.
use Rattle.detectors.specs.Orders.{ordered}
use Rattle.detectors.proofs.orders.ordered.Goals as goal

pub returns : goal.returns
unfolding ordered
returns c =
    let d2 = c.before in
    let c1 = d2.before in
    let d1 = c1.before in
    let c0 = d1.before in
    let d0 = c0.before in
    let m2 = d0.before in
    let m1 = m2.before in
    let m0 = m1.before in
    rw (m0.moderate.ensures, m1.moderate-2.ensures, m2.moderate-3.ensures, c0.clear.ensures, d0.difference.ensures, c1.clear-2.ensures, d1.difference-2.ensures, c.clear-3.ensures, d2.difference-3.ensures)
