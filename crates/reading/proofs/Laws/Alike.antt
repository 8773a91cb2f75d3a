-- The promises of `answer` and of `answer_plainly` each permit one answer and one state of the slice that is written: two that one of them permits for the same arguments are the same.
-- `Post κs a z e` is the promise as it is read from the source: of the arguments a, the result z and the arguments at exit e. Assumes nothing.
use mathlib.Core.Path.{◌≡◌}
use Rattle.ground.proofs.Laws.Alike.{alike}
use Rattle.reading.proofs.answer.Reads as answer
use Rattle.reading.proofs.answer_plainly.Reads as plainly

-- Two answers are the same,
pub answers_alike : (κs : _) (a : _) (z z' : _) (e e' : _) → answer.Post κs a z e → answer.Post κs a z' e' → z ≡ z'
answers_alike κs a z z' e e' p q = alike p.0 q.0

-- and so are two slices at exit, the second argument.
pub outputs_alike : (κs : _) (a : _) (z z' : _) (e e' : _) → answer.Post κs a z e → answer.Post κs a z' e' → e.1.0.now ≡ e'.1.0.now
outputs_alike κs a z z' e e' p q = let h = answers_alike κs a z z' e e' p q in alike (rw h at p.1) q.1

-- Two answers of the plain program are the same,
pub plain_answers_alike : (κs : _) (a : _) (z z' : _) (e e' : _) → plainly.Post κs a z e → plainly.Post κs a z' e' → z ≡ z'
plain_answers_alike κs a z z' e e' p q = alike p.0 q.0

-- and so are its slices.
pub plain_outputs_alike : (κs : _) (a : _) (z z' : _) (e e' : _) → plainly.Post κs a z e → plainly.Post κs a z' e' → e.1.0.now ≡ e'.1.0.now
plain_outputs_alike κs a z z' e e' p q = let h = plain_answers_alike κs a z z' e e' p q in alike (rw h at p.1) q.1
