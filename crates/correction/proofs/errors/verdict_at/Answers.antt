-- `correction::errors::verdict_at` meets its contract. Assumes nothing.
use mathlib.Core.Path.{◌∙◌, ap}
use Prim.Native.Nat.{ℕ, ◌/◌}
use Rattle.correction.specs.Errors.{has_artifact, tests_made}
use Rattle.correction.specs.Inner.{made_for}
use Rattle.correction.proofs.errors.verdict_at.Goals as goal

pub some_artifact-requires : goal.some_artifact-requires
some_artifact-requires c =
    let p = c.requires in
    let at = p.x_lt_width in
    let o = ap (λ (n : ℕ). n / 8) at.2 ∙ p.stencilled.1 _ _ at.0 at.1 in record { sampled = p.sampled; stencilled = p.stencilled; x_lt_width = rw c.centre_at-t.ensures (at.0, at.1, o) }

pub returns : goal.returns
unfolding has_artifact made_for tests_made
returns c =
    rw (c.is_protected.ensures, c.centre_at-t.ensures) at c.some_artifact.ensures
