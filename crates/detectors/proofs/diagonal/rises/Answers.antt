-- `detectors::diagonal::rises` meets its contract: where its tests pass no root is inside, nor one of the pair with the negatives, whose negatives pass. Assumes nothing.
use Rattle.std.proofs.Common.{◌∙◌}
use lib.Ieee.{binary32, neg, of_bits}
use lib.Ieee.Fits.{neg-fits}
use Rattle.numbers.proofs.Laws.Order.{neg_neg}
use Rattle.ground.proofs.Laws.Bools.{holds}
use Rattle.detectors.proofs.diagonal.Signs.{rising, none_rising, none_falling}
use Rattle.detectors.proofs.diagonal.rises.Goals as goal

pub returns : goal.returns
unfolding rising of_bits
returns c =
    let A = c.args.da in
    let B = c.args.dbc in
    let D = c.args.dd in
    let f = holds _ c.well_formed.0.1 in
    let g = holds _ c.well_formed.1.0.1 in
    let k = holds _ c.well_formed.1.1.0.1 in
    rw (c.ample-2.ensures, c.ample.ensures)
    (record {
      up = none_rising A B D f g k;
      down = λ e. none_falling (neg A) (neg B) (neg D) (neg-fits binary32 A f) (neg-fits binary32 B g) (neg-fits binary32 D k) ((λ i. rising (neg_neg A i) (neg_neg B i) (neg_neg D i)) ∙ e);
    })
