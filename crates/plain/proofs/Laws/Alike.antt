-- The public function's promise permits one answer, and one state of each slice that it writes: two that it permits for the same arguments are the same.
-- `Post κs a z e` is the promise as it is read from the source: of the arguments a, the result z and the arguments at exit e. Assumes nothing.
use Rattle.std.proofs.Common.{◌≡◌}
use Rattle.ground.proofs.Laws.Alike.{alike}
use Rattle.plain.proofs.pass.plain_error_correction.Reads as entry

-- Two answers are the same,
pub plain_answers_alike : (κs : _) (a : _) (z z' : _) (e e' : _) → entry.Post κs a z e → entry.Post κs a z' e' → z ≡ z'
plain_answers_alike κs a z z' e e' p q = alike p.0 q.0

-- so are two stencils at its exit, the fifth argument,
pub plain_stencils_alike : (κs : _) (a : _) (z z' : _) (e e' : _) → entry.Post κs a z e → entry.Post κs a z' e' → e.1.1.1.1.0.now ≡ e'.1.1.1.1.0.now
plain_stencils_alike κs a z z' e e' p q = alike p.1.0 q.1.0

-- two lists of samples, the fourth,
pub plain_samples_alike : (κs : _) (a : _) (z z' : _) (e e' : _) → entry.Post κs a z e → entry.Post κs a z' e' → e.1.1.1.0.now ≡ e'.1.1.1.0.now
plain_samples_alike κs a z z' e e' p q = alike p.1.1.0 q.1.1.0

-- and two rooms, the sixth.
pub plain_rooms_alike : (κs : _) (a : _) (z z' : _) (e e' : _) → entry.Post κs a z e → entry.Post κs a z' e' → e.1.1.1.1.1.0.now ≡ e'.1.1.1.1.1.0.now
plain_rooms_alike κs a z z' e e' p q = alike p.1.1.1 q.1.1.1
