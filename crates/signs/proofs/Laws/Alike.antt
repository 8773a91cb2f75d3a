-- Each public function's promise determines its answer, and the samples and the match map where it writes them: any two that it permits for the same arguments are the
-- same. Assumes nothing.
-- `Post` is a function's promise as the checker makes it of the `ensures` in the source. No public function has a `requires`.
use mathlib.Core.Path.{◌≡◌}
use Rattle.ground.proofs.Laws.Alike.{Alike, alike}
use Rattle.signs.proofs.Laws.Refusal as Refusals
use Rattle.signs.proofs.checks.check.Kinds as check_kinds
use Rattle.signs.proofs.checks.check.Reads as check
use Rattle.signs.proofs.refusal.Refusal.number.Kinds as number_kinds
use Rattle.signs.proofs.refusal.Refusal.number.Reads as number
use Rattle.signs.proofs.refusal.Refusal.place.Kinds as place_kinds
use Rattle.signs.proofs.refusal.Refusal.place.Reads as place
use Rattle.signs.proofs.rasterization.distance_sign_correction.Reads as correction

-- A refusal's number and its place.
pub number_alike : Alike 0 number_kinds.ps number_kinds.r number.Post
number_alike κs a r s e f = alike

pub place_alike : Alike 0 place_kinds.ps place_kinds.r place.Post
place_alike κs a r s e f = alike

-- The first check that fails, with its place.
pub check_alike : Alike 3 check_kinds.ps check_kinds.r check.Post
check_alike κs a r s e f p q = Refusals.alike r s (alike p.0 q.0) (alike p.1 q.1)

-- The same of the whole correction.
pub answers_alike : (κs : _) (a : _) (z z' : _) (e e' : _) → correction.Post κs a z e → correction.Post κs a z' e' → z ≡ z'
answers_alike κs a z z' e e' p q = Refusals.alike z z' (alike p.0 q.0) (alike p.1.0 q.1.0)

-- The samples.
pub samples_alike : (κs : _) (a : _) (z z' : _) (e e' : _) → correction.Post κs a z e → correction.Post κs a z' e' → e.1.1.1.0.now ≡ e'.1.1.1.0.now
samples_alike κs a z z' e e' p q = alike p.1.1.0 q.1.1.0

-- The match map.
pub matches_alike : (κs : _) (a : _) (z z' : _) (e e' : _) → correction.Post κs a z e → correction.Post κs a z' e' → e.1.1.1.1.1.1.0.now ≡ e'.1.1.1.1.1.1.0.now
matches_alike κs a z z' e e' p q = alike p.1.1.1 q.1.1.1
