-- Each public function's promise determines its answer and what it leaves in the output: any two that it permits for the same arguments are the same. Assumes nothing.
-- `Post` is a function's promise as the checker makes it of the `ensures` in the source. No public function has a `requires`.
use mathlib.Core.Path.{◌≡◌}
use Rattle.ground.proofs.Laws.Alike.{Alike, alike}
use Rattle.pixels.proofs.Laws.Refusal as Refusals
use Rattle.pixels.proofs.refusal.Refusal.number.Kinds as number_kinds
use Rattle.pixels.proofs.refusal.Refusal.number.Reads as number
use Rattle.pixels.proofs.refusal.Refusal.place.Kinds as place_kinds
use Rattle.pixels.proofs.refusal.Refusal.place.Reads as place
use Rattle.pixels.proofs.conversion.samples_to_bytes.Reads as out
use Rattle.pixels.proofs.conversion.bytes_to_samples.Reads as back

-- A refusal's number and its place.
pub number_alike : Alike 0 number_kinds.ps number_kinds.r number.Post
number_alike κs a r s e f = alike

pub place_alike : Alike 0 place_kinds.ps place_kinds.r place.Post
place_alike κs a r s e f = alike

-- Two answers of the way out are the same,
pub out_answers_alike : (κs : _) (a : _) (z z' : _) (e e' : _) → out.Post κs a z e → out.Post κs a z' e' → z ≡ z'
out_answers_alike κs a z z' e e' p q = Refusals.alike z z' (alike p.0 q.0) (alike p.1.0 q.1.0)

-- and so are two lists of bytes.
pub bytes_alike : (κs : _) (a : _) (z z' : _) (e e' : _) → out.Post κs a z e → out.Post κs a z' e' → e.1.0.now ≡ e'.1.0.now
bytes_alike κs a z z' e e' p q = alike p.1.1 q.1.1

-- Two answers of the way back are the same,
pub back_answers_alike : (κs : _) (a : _) (z z' : _) (e e' : _) → back.Post κs a z e → back.Post κs a z' e' → z ≡ z'
back_answers_alike κs a z z' e e' p q = Refusals.alike z z' (alike p.0 q.0) (alike p.1.0 q.1.0)

-- and so are two lists of samples.
pub samples_alike : (κs : _) (a : _) (z z' : _) (e e' : _) → back.Post κs a z e → back.Post κs a z' e' → e.1.0.now ≡ e'.1.0.now
samples_alike κs a z z' e e' p q = alike p.1.1 q.1.1
