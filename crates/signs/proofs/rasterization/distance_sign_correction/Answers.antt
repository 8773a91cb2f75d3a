-- `signs::rasterization::distance_sign_correction` meets its contract: the checks, then the steps. Assumes nothing.
use mathlib.Core.Path.{refl}
use Rattle.signs.specs.Checks.{Input, input}
use Rattle.signs.proofs.Laws.Refusal.{refuses}
use Rattle.signs.proofs.rasterization.Together.{after_accepted, after_refused}
use Rattle.signs.proofs.rasterization.distance_sign_correction.Goals as goal
use Rattle.signs.proofs.rasterization.distance_sign_correction.Goals.{Start}

-- all that comes in
abbrev given : Start → Input
given s = input s.args.width s.args.height s.args.channels s.args.samples.now s.args.zero s.args.filled.now s.args.matches.now

pub returns-in_err-check-clause-writes : goal.returns-in_err-check-clause-writes
returns-in_err-check-clause-writes c = (after_refused (given (goal.at.returns-in_err-check-clause-writes c).Start) c.in_err-check.ensures.numbers (refuses _)).0

pub returns-in_err-check-clause-leaves : goal.returns-in_err-check-clause-leaves
returns-in_err-check-clause-leaves c = (after_refused (given (goal.at.returns-in_err-check-clause-leaves c).Start) c.in_err-check.ensures.numbers (refuses _)).1

pub returns-clause-writes : goal.returns-clause-writes
returns-clause-writes c =
    (after_accepted (given (goal.at.returns-clause-writes c).Start) c.in_ok-check.ensures.numbers refl (c.correct.ensures.writes, c.correct.ensures.leaves)).0

pub returns-clause-leaves : goal.returns-clause-leaves
returns-clause-leaves c =
    (after_accepted (given (goal.at.returns-clause-leaves c).Start) c.in_ok-check.ensures.numbers refl (c.correct.ensures.writes, c.correct.ensures.leaves)).1
