-- `plain::classifier::range_test` meets its contract: a widened number is the number. Assumes nothing.
use Rattle.ranges.specs.Classifier.{falls_below, rises_above, lies_outside, candidate, within, in_range, range_test}
use Rattle.plain.proofs.classifier.range_test.Goals as goal

pub returns : goal.returns
unfolding falls_below rises_above lies_outside candidate within in_range range_test
returns c =
    let x = c.before.before in
    let b = x.before in
    let a = b.before in
    rw (x.f32_to_f64_with_nan-x.ensures, b.f32_to_f64_with_nan-b.ensures, a.f32_to_f64_with_nan-a.ensures, a.median_value.ensures)
