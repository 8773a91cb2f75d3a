-- `ranges::classifier::in_range` meets its contract: a widened number is the number. Assumes nothing.
use Rattle.ranges.specs.Classifier.{in_range}
use Rattle.ranges.proofs.classifier.in_range.Goals as goal

pub returns : goal.returns
unfolding in_range
returns c =
    let w = c.before in
    let b = w.before in
    let a = b.before in
    rw (w.within.ensures, c.within-2.ensures, b.f32_to_f64_with_nan-b.ensures, a.f32_to_f64_with_nan-a.ensures, a.before.f32_to_f64_with_nan-x.ensures)
