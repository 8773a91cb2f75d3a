-- `pixels::conversion::samples_to_bytes` meets its contract: the checks, then the bytes. Assumes nothing.
use mathlib.Core.Path.{refl}
use Rattle.pixels.proofs.Laws.Refusal.{refuses}
use Rattle.pixels.proofs.conversion.Answers.{bytes_accepted, bytes_refused}
use Rattle.pixels.proofs.conversion.samples_to_bytes.Goals as goal

pub returns-in_err-check-clause-writes : goal.returns-in_err-check-clause-writes
returns-in_err-check-clause-writes c = bytes_refused c.args.samples.now c.args.bytes.now c.in_err-check.ensures.numbers (refuses _)

pub returns-clause-writes : goal.returns-clause-writes
returns-clause-writes c =
    bytes_accepted c.args.samples.now c.args.bytes.now _ c.in_ok-check.ensures.numbers refl c.write_bytes.ensures
