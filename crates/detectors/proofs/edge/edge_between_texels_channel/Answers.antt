-- `detectors::edge::edge_between_texels_channel` meets its contract. Assumes nothing.
use Rattle.std.proofs.Common.{◌≡◌, Bool, true, false, not, ◌&&◌, refl, true≢false}
use mathlib.Core.Bool.{false≢true}
use Rattle.detectors.specs.Inner.{carried}
use Rattle.detectors.proofs.edge.edge_between_texels_channel.Goals as goal

off : (p q : Bool) → not p ≡ true → false ≡ p && q
off true q h = absurd (false≢true h)
off false q h = refl

on : (p q : Bool) {v : Bool} → not p ≡ false → v ≡ q → v ≡ p && q
on true q h e = e
on false q h e = absurd (true≢false h)

pub returns-then-not-candidate : goal.returns-then-not-candidate
returns-then-not-candidate c = let a = c.before.args in off a.candidate (carried a.a a.b a.i) c.if-not-candidate.true-raw

pub returns : goal.returns
returns c =
    let m = c.before in
    let t = m.before in
    let a = t.before.before.args in
    on a.candidate (carried a.a a.b a.i) t.before.if-not-candidate.false-raw (rw (← t.edge_point-t.ensures) (rw (m.interpolated_median_linear.ensures, c.mixed_channel.ensures)))
