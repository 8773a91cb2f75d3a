-- `correction::engine::protect` meets its contract: each mode has its law. Assumes nothing.
use Rattle.std.proofs.Common.{◌≡◌, ◌⊎◌, inl, inr, ap}
use native.Mathlib.Omega.{arith}
use Rattle.ranges.specs.declared.config.Mode.{Mode}
use Rattle.ranges.specs.declared.config.Mode.TheVariants.{Disabled, Indiscriminate}
use Rattle.ranges.specs.Config.{mode_number}
use Rattle.inputs.proofs.Laws.Windows.{still_stencilled}
use Rattle.correction.proofs.engine.Whole.{shielded_all, shielded_none, shielded_some}
use Rattle.correction.proofs.engine.protect.Goals as goal

-- two modes protect nothing
unprotected : (m : Mode) → (m ≡ Disabled) ⊎ (m ≡ Indiscriminate) → (mode_number m ≡ 3 → ⊥) × (mode_number m ≡ 2 → ⊥)
unprotected m (inl e) = (λ p. omega (arith, ap mode_number e, p), λ p. omega (arith, ap mode_number e, p))
unprotected m (inr e) = (λ p. omega (arith, ap mode_number e, p), λ p. omega (arith, ap mode_number e, p))

pub returns-in-EdgeOnly : goal.returns-in-EdgeOnly
returns-in-EdgeOnly c =
    shielded_all _ _ _ _ _ _ _ (ap mode_number c.in-EdgeOnly.is) c.protect_all.ensures

pub protect_edges-requires : goal.protect_edges-requires
protect_edges-requires c = record { sampled = c.requires.sampled; stencilled = still_stencilled _ c.requires.stencilled.0 _ c.protect_corners.ensures.long }

pub returns-in-EdgePriority : goal.returns-in-EdgePriority
returns-in-EdgePriority c =
    shielded_some _ _ _ _ _ _ _ (ap mode_number c.in-EdgePriority.is) c.requires.stencilled.1 c.protect_corners.ensures c.protect_edges.ensures

pub returns-in-Disabled : goal.returns-in-Disabled
returns-in-Disabled c = let n = unprotected _ c.in-Disabled.is in shielded_none _ _ _ _ _ _ _ _ n.0 n.1 c.requires.stencilled.1
