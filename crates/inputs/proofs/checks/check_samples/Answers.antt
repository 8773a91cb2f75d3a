-- `inputs::checks::check_samples` meets its contract: it refuses where the search finds something. Assumes nothing.
use Rattle.inputs.specs.Checks.{bad_samples}
use Rattle.inputs.proofs.checks.Found.{hit_refuses, none_passes}
use Rattle.inputs.proofs.checks.check_samples.Goals as goal

pub returns-in-Some : goal.returns-in-Some
unfolding bad_samples
returns-in-Some c = let e = c.in-Some.ensures in let all = hit_refuses 6 e.0 e.1 in record { numbers = all.0; places = all.1 }

pub returns-in-None : goal.returns-in-None
unfolding bad_samples
returns-in-None c = let all = none_passes 6 c.in-None.ensures in record { numbers = all.0; places = all.1 }
