-- `reading::run::settings` meets its contract. Assumes nothing.
use Rattle.reading.proofs.run.settings.Goals as goal

pub returns : goal.returns
returns c = cc
