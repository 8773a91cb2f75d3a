-- Each public function's promise permits one answer, and one state of each slice that it writes: two that it permits for the same arguments are the same.
-- `Post κs a z e` is the promise as it is read from the source: of the arguments a, the result z and the arguments at exit e. Assumes nothing.
use mathlib.Core.Path.{◌≡◌}
use Rattle.ground.proofs.Laws.Alike.{Alike, alike}
use Rattle.correction.proofs.Laws.Answer.{answers_alike}
use Rattle.correction.proofs.Laws.Failure.{results_alike}
use Rattle.correction.proofs.pass.msdf_error_correction.Reads as entry
use Rattle.correction.proofs.view.texel_view.Reads as view
use Rattle.correction.proofs.sheet.msdf_sheet_error_correction.Reads as sheets
use Rattle.correction.proofs.sheet.check.Reads as checks
use Rattle.correction.proofs.refusal.Refusal.number.Kinds as number_kinds
use Rattle.correction.proofs.refusal.Refusal.number.Reads as number
use Rattle.correction.proofs.refusal.Refusal.cell.Kinds as cell_kinds
use Rattle.correction.proofs.refusal.Refusal.cell.Reads as cell
use Rattle.correction.proofs.refusal.Refusal.place.Kinds as place_kinds
use Rattle.correction.proofs.refusal.Refusal.place.Reads as place

-- Two answers of the pass are the same,
pub pass_answers_alike : (κs : _) (a : _) (z z' : _) (e e' : _) → entry.Post κs a z e → entry.Post κs a z' e' → z ≡ z'
pass_answers_alike κs a z z' e e' p q = answers_alike _ z z' p.0 q.0

-- so are two stencils at its exit, the fifth argument,
pub pass_stencils_alike : (κs : _) (a : _) (z z' : _) (e e' : _) → entry.Post κs a z e → entry.Post κs a z' e' → e.1.1.1.1.0.now ≡ e'.1.1.1.1.0.now
pass_stencils_alike κs a z z' e e' p q = alike p.1.0 q.1.0

-- two lists of samples, the fourth,
pub pass_samples_alike : (κs : _) (a : _) (z z' : _) (e e' : _) → entry.Post κs a z e → entry.Post κs a z' e' → e.1.1.1.0.now ≡ e'.1.1.1.0.now
pass_samples_alike κs a z z' e e' p q = alike p.1.1.0 q.1.1.0

-- and two rooms, the sixth.
pub pass_rooms_alike : (κs : _) (a : _) (z z' : _) (e e' : _) → entry.Post κs a z e → entry.Post κs a z' e' → e.1.1.1.1.1.0.now ≡ e'.1.1.1.1.1.0.now
pass_rooms_alike κs a z z' e e' p q = alike p.1.1.1 q.1.1.1

-- Two texel views hold the same samples,
pub views_alike : (κs : _) (a : _) (z z' : _) (e e' : _) → view.Post κs a z e → view.Post κs a z' e' → z.now ≡ z'.now
views_alike κs a z z' e e' p q = alike p.0 q.0

-- and lie at the same place of the same bitmap. The view writes nothing.
pub views_placed_alike : (κs : _) (a : _) (z z' : _) (e e' : _) → view.Post κs a z e → view.Post κs a z' e' → z.ref_ptr ≡ z'.ref_ptr
views_placed_alike κs a z z' e e' p q = alike p.1 q.1

-- Two answers to a sheet are the same,
pub sheet_answers_alike : (κs : _) (a : _) (z z' : _) (e e' : _) → sheets.Post κs a z e → sheets.Post κs a z' e' → z ≡ z'
sheet_answers_alike κs a z z' e e' p q = alike p.0 q.0

-- so are two stencils at its exit, the fifth argument,
pub sheet_stencils_alike : (κs : _) (a : _) (z z' : _) (e e' : _) → sheets.Post κs a z e → sheets.Post κs a z' e' → e.1.1.1.1.0.now ≡ e'.1.1.1.1.0.now
sheet_stencils_alike κs a z z' e e' p q = alike p.1.0 q.1.0

-- two lists of samples, the fourth,
pub sheet_samples_alike : (κs : _) (a : _) (z z' : _) (e e' : _) → sheets.Post κs a z e → sheets.Post κs a z' e' → e.1.1.1.0.now ≡ e'.1.1.1.0.now
sheet_samples_alike κs a z z' e e' p q = alike p.1.1.0 q.1.1.0

-- two rooms, the sixth,
pub sheet_rooms_alike : (κs : _) (a : _) (z z' : _) (e e' : _) → sheets.Post κs a z e → sheets.Post κs a z' e' → e.1.1.1.1.1.0.now ≡ e'.1.1.1.1.1.0.now
sheet_rooms_alike κs a z z' e e' p q = alike p.1.1.1 q.1.1.1

-- and two answers of its checks alone, which write nothing.
pub sheet_checks_alike : (κs : _) (a : _) (z z' : _) (e e' : _) → checks.Post κs a z e → checks.Post κs a z' e' → z ≡ z'
sheet_checks_alike κs a z z' e e' p q = results_alike z z' (alike p q)

-- What a sheet's refusal says.
pub number_alike : Alike 0 number_kinds.ps number_kinds.r number.Post
number_alike κs a r s e f = alike

pub cell_alike : Alike 0 cell_kinds.ps cell_kinds.r cell.Post
cell_alike κs a r s e f = alike

pub place_alike : Alike 0 place_kinds.ps place_kinds.r place.Post
place_alike κs a r s e f = alike
