-- `correction::engine::correct` meets its contract: the stages put together. Assumes nothing.
use mathlib.Core.Path.{◌∙◌, ap}
use Rattle.ranges.specs.declared.config.Mode.TheVariants.{Disabled}
use Rattle.ranges.specs.Config.{mode_number}
use Rattle.ranges.proofs.Laws.Modes.{modes_alike}
use Rattle.inputs.proofs.Laws.Windows.{still_stencilled}
use Rattle.correction.proofs.engine.Whole.{shielded_plain, written_ordered, left_alone, corrected}
use Rattle.correction.proofs.engine.correct.Goals as goal

pub returns-in-Disabled : goal.returns-in-Disabled
returns-in-Disabled c = let all = left_alone _ _ _ _ _ _ _ _ (ap mode_number c.in-Disabled.is) c.requires.stencilled.1 in record { makes = all.0; leaves = all.1.0; writes = all.1.1 }

pub write_orders-requires : goal.write_orders-requires
write_orders-requires c = record { sampled = c.requires.sampled.0; stencilled = (still_stencilled _ c.requires.stencilled.0 _ c.protect.ensures.long, shielded_plain _ _ _ _ _ _ _ c.protect.ensures) }

pub find_errors-tests-requires : goal.find_errors-tests-requires
find_errors-tests-requires c = record {
  sampled = c.requires.sampled.0;
  stencilled = (
    still_stencilled _ c.requires.stencilled.0 _ (c.write_orders.ensures.long ∙ c.protect.ensures.long),
    written_ordered _ _ (shielded_plain _ _ _ _ _ _ _ c.protect.ensures) c.write_orders.ensures,
  );
}

pub apply-requires : goal.apply-requires
apply-requires c = record { sampled = c.requires.sampled.0; stencilled = still_stencilled _ c.requires.stencilled.0 _ (c.find_errors-tests.ensures.finds.long ∙ c.write_orders.ensures.long ∙ c.protect.ensures.long) }

pub returns : goal.returns
returns c = let all = corrected _ _ _ _ _ _ _ c.requires.sampled.0 (λ p. c.in_default.not-Disabled (modes_alike _ Disabled p)) c.protect.ensures c.write_orders.ensures c.find_errors-tests.ensures.finds c.find_errors-tests.ensures.makes c.apply.ensures.leaves c.apply.ensures.writes in record { makes = all.0; leaves = all.1.0; writes = all.1.1 }
