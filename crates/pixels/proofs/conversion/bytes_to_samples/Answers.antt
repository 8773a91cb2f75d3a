-- `pixels::conversion::bytes_to_samples` meets its contract. Assumes nothing.
use mathlib.Core.Path.{refl}
use Rattle.pixels.proofs.conversion.Answers.{samples_accepted, samples_refused}
use Rattle.pixels.proofs.conversion.bytes_to_samples.Goals as goal

pub returns-then-samples-bytes : goal.returns-then-samples-bytes
returns-then-samples-bytes c = let a = samples_refused c.args.bytes.now c.args.samples.now c.if-samples-bytes.true in record { numbers = a.0; places = refl; writes = a.1 }

pub returns : goal.returns
returns c =
    let a = samples_accepted c.args.bytes.now c.args.samples.now _ c.if-samples-bytes.false c.write_samples.ensures in record { numbers = a.0; places = refl; writes = a.1 }
