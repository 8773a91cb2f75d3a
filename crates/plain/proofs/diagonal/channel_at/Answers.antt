-- `plain::diagonal::channel_at` meets its contract. Assumes nothing.
use Rattle.detectors.specs.Diagonal.{curve, curve_channel}
use Rattle.plain.proofs.diagonal.channel_at.Goals as goal

pub returns : goal.returns
unfolding curve curve_channel
returns c =
    let q = c.before in
    let l = q.before in
    let a = l.before in
    let k = a.curve_of-k.ensures in
    rw (c.narrow.ensures, q.f32_to_f64_with_nan-q.ensures, l.f32_to_f64_with_nan-l.ensures, a.f32_to_f64_with_nan-a.ensures, k.0, k.1, k.2)
