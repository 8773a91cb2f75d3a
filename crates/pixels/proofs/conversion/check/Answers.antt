-- `pixels::conversion::check` meets its contract. Assumes nothing.
use mathlib.Core.Path.{sym}
use native.Mathlib.Nat.{le_refl}
use Rattle.pixels.proofs.conversion.Answers.{by_length, by_samples, by_none}
use Rattle.pixels.proofs.conversion.check.Goals as goal

pub returns-then-n-samples : goal.returns-then-n-samples
returns-then-n-samples c = let all = by_length c.args.samples.now c.args.n c.if-n-samples.true in record { numbers = all.0; places = all.1 }

pub returns-in-Some : goal.returns-in-Some
returns-in-Some c =
    let all = by_samples c.args.samples.now c.args.n c.if-n-samples.false c.in-Some.ensures.0 c.in-Some.ensures.1 in
    record { numbers = all.0; places = all.1 }

pub returns-in-None : goal.returns-in-None
returns-in-None c =
    let all = by_none c.args.samples.now c.args.n c.if-n-samples.false (sym c.in-None.ensures) (le_refl _) in
    record { numbers = all.0; places = all.1 }
