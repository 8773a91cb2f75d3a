-- `plain::checks::check_settings` meets its contract: the places are chosen from the last one to the first. Assumes nothing.
use Rattle.plain.proofs.checks.Chosen.{settings_chosen}
use Rattle.plain.proofs.checks.check_settings.Goals as goal

pub returns : goal.returns
returns c =
    settings_chosen c.args.mode c.args.s c.args.rest _ _ _ _ c.bad_length-4.ensures c.bad_length-3.ensures c.bad_length-2.ensures c.bad_length.ensures
    c.refused_content.ensures c.refused_content-ratio.ensures c.refused_content-horizontal.ensures c.refused_content-vertical.ensures c.refused_content-diagonal.ensures
