-- `plain::checks::check` meets its contract: all checks are made, and the first that fails answers. Assumes nothing.
use Rattle.std.proofs.Common.{ap, refl, ◌∙◌}
use Rattle.inputs.specs.Refusal.{number_in, place_in}
use Rattle.plain.proofs.checks.Chosen.{all_chosen, rest_told, both_told}
use Rattle.plain.proofs.checks.check.Goals as goal

pub returns : goal.returns
returns c =
    let s = c.check_size.ensures in
    let o = c.check_outline-outline.ensures in
    let chosen = all_chosen _ s.numbers c.bad_room.ensures refl refl o.numbers o.places in
    let rest = rest_told _ _ _ _ _ _ c.refused-lent.ensures c.check_settings-settings.ensures c.check_samples-samples.ensures in
    let both = both_told _ c.refused-lent.result s.places in
    record {
      numbers = ap number_in c.and.ensures ∙ both.0 ∙ rw rest.0 chosen.0;
      places = ap place_in c.and.ensures ∙ both.1 ∙ rw rest.1 chosen.1;
    }
