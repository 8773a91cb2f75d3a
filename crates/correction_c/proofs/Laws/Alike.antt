-- Each exported function's promise permits one answer, and one state of all that it writes: two that it permits for the same arguments are the same.
-- `Post κs a z e` is the promise as it is read from the source: of the arguments a, the result z and the arguments at exit e. Assumes nothing.
use mathlib.Core.Path.{◌≡◌}
use Rattle.ground.proofs.Laws.Alike.{alike}
use Rattle.correction_c.proofs.rungtwine_error_correction.Reads as pass
use Rattle.correction_c.proofs.rungtwine_plain_error_correction.Reads as plain
use Rattle.correction_c.proofs.rungtwine_sheet_error_correction.Reads as sheet
use Rattle.correction_c.proofs.rungtwine_sheet_check.Reads as check
use Rattle.correction_c.proofs.rungtwine_sign_correction.Reads as signs
use Rattle.correction_c.proofs.rungtwine_samples_to_bytes.Reads as bytes
use Rattle.correction_c.proofs.rungtwine_bytes_to_samples.Reads as samples
use Rattle.correction_c.proofs.rungtwine_texel_view.Reads as view
use Rattle.correction_c.proofs.rungtwine_texel_channel.Reads as channel

-- Two answers of the pass are the same,
pub pass_answers_alike : (κs : _) (a : _) (z z' : _) (e e' : _) → pass.Post κs a z e → pass.Post κs a z' e' → z ≡ z'
pass_answers_alike κs a z z' e e' p q = alike p.0 q.0

-- so are two places, the fifteenth argument,
pub pass_places_alike : (κs : _) (a : _) (z z' : _) (e e' : _) → pass.Post κs a z e → pass.Post κs a z' e' → e.1.1.1.1.1.1.1.1.1.1.1.1.1.1.0.now ≡ e'.1.1.1.1.1.1.1.1.1.1.1.1.1.1.0.now
pass_places_alike κs a z z' e e' p q = alike p.1.0 q.1.0

-- two counts of protected cells, the sixteenth,
pub pass_protected_alike : (κs : _) (a : _) (z z' : _) (e e' : _) → pass.Post κs a z e → pass.Post κs a z' e' → e.1.1.1.1.1.1.1.1.1.1.1.1.1.1.1.0.now ≡ e'.1.1.1.1.1.1.1.1.1.1.1.1.1.1.1.0.now
pass_protected_alike κs a z z' e e' p q = alike p.1.1.0 q.1.1.0

-- two counts of errors, the seventeenth,
pub pass_errors_alike : (κs : _) (a : _) (z z' : _) (e e' : _) → pass.Post κs a z e → pass.Post κs a z' e' → e.1.1.1.1.1.1.1.1.1.1.1.1.1.1.1.1.0.now ≡ e'.1.1.1.1.1.1.1.1.1.1.1.1.1.1.1.1.0.now
pass_errors_alike κs a z z' e e' p q = alike p.1.1.1.0 q.1.1.1.0

-- two counts of corner cells, the eighteenth,
pub pass_corners_alike : (κs : _) (a : _) (z z' : _) (e e' : _) → pass.Post κs a z e → pass.Post κs a z' e' → e.1.1.1.1.1.1.1.1.1.1.1.1.1.1.1.1.1.0.now ≡ e'.1.1.1.1.1.1.1.1.1.1.1.1.1.1.1.1.1.0.now
pass_corners_alike κs a z z' e e' p q = alike p.1.1.1.1.0 q.1.1.1.1.0

-- two numbers of range tests, the nineteenth,
pub pass_tests_alike : (κs : _) (a : _) (z z' : _) (e e' : _) → pass.Post κs a z e → pass.Post κs a z' e' → e.1.1.1.1.1.1.1.1.1.1.1.1.1.1.1.1.1.1.0.now ≡ e'.1.1.1.1.1.1.1.1.1.1.1.1.1.1.1.1.1.1.0.now
pass_tests_alike κs a z z' e e' p q = alike p.1.1.1.1.1.0 q.1.1.1.1.1.0

-- two stencils, the fifth,
pub pass_stencils_alike : (κs : _) (a : _) (z z' : _) (e e' : _) → pass.Post κs a z e → pass.Post κs a z' e' → e.1.1.1.1.0.now ≡ e'.1.1.1.1.0.now
pass_stencils_alike κs a z z' e e' p q = alike p.1.1.1.1.1.1.0 q.1.1.1.1.1.1.0

-- two lists of samples, the fourth,
pub pass_samples_alike : (κs : _) (a : _) (z z' : _) (e e' : _) → pass.Post κs a z e → pass.Post κs a z' e' → e.1.1.1.0.now ≡ e'.1.1.1.0.now
pass_samples_alike κs a z z' e e' p q = alike p.1.1.1.1.1.1.1.0 q.1.1.1.1.1.1.1.0

-- and two rooms, the sixth.
pub pass_rooms_alike : (κs : _) (a : _) (z z' : _) (e e' : _) → pass.Post κs a z e → pass.Post κs a z' e' → e.1.1.1.1.1.0.now ≡ e'.1.1.1.1.1.0.now
pass_rooms_alike κs a z z' e e' p q = alike p.1.1.1.1.1.1.1.1 q.1.1.1.1.1.1.1.1

-- Two answers of the plain engine are the same,
pub plain_answers_alike : (κs : _) (a : _) (z z' : _) (e e' : _) → plain.Post κs a z e → plain.Post κs a z' e' → z ≡ z'
plain_answers_alike κs a z z' e e' p q = alike p.0 q.0

-- so are two places, the fifteenth argument,
pub plain_places_alike : (κs : _) (a : _) (z z' : _) (e e' : _) → plain.Post κs a z e → plain.Post κs a z' e' → e.1.1.1.1.1.1.1.1.1.1.1.1.1.1.0.now ≡ e'.1.1.1.1.1.1.1.1.1.1.1.1.1.1.0.now
plain_places_alike κs a z z' e e' p q = alike p.1.0 q.1.0

-- two counts of protected cells, the sixteenth,
pub plain_protected_alike : (κs : _) (a : _) (z z' : _) (e e' : _) → plain.Post κs a z e → plain.Post κs a z' e' → e.1.1.1.1.1.1.1.1.1.1.1.1.1.1.1.0.now ≡ e'.1.1.1.1.1.1.1.1.1.1.1.1.1.1.1.0.now
plain_protected_alike κs a z z' e e' p q = alike p.1.1.0 q.1.1.0

-- two counts of errors, the seventeenth,
pub plain_errors_alike : (κs : _) (a : _) (z z' : _) (e e' : _) → plain.Post κs a z e → plain.Post κs a z' e' → e.1.1.1.1.1.1.1.1.1.1.1.1.1.1.1.1.0.now ≡ e'.1.1.1.1.1.1.1.1.1.1.1.1.1.1.1.1.0.now
plain_errors_alike κs a z z' e e' p q = alike p.1.1.1.0 q.1.1.1.0

-- two counts of corner cells, the eighteenth,
pub plain_corners_alike : (κs : _) (a : _) (z z' : _) (e e' : _) → plain.Post κs a z e → plain.Post κs a z' e' → e.1.1.1.1.1.1.1.1.1.1.1.1.1.1.1.1.1.0.now ≡ e'.1.1.1.1.1.1.1.1.1.1.1.1.1.1.1.1.1.0.now
plain_corners_alike κs a z z' e e' p q = alike p.1.1.1.1.0 q.1.1.1.1.0

-- two stencils, the fifth,
pub plain_stencils_alike : (κs : _) (a : _) (z z' : _) (e e' : _) → plain.Post κs a z e → plain.Post κs a z' e' → e.1.1.1.1.0.now ≡ e'.1.1.1.1.0.now
plain_stencils_alike κs a z z' e e' p q = alike p.1.1.1.1.1.0 q.1.1.1.1.1.0

-- two lists of samples, the fourth,
pub plain_samples_alike : (κs : _) (a : _) (z z' : _) (e e' : _) → plain.Post κs a z e → plain.Post κs a z' e' → e.1.1.1.0.now ≡ e'.1.1.1.0.now
plain_samples_alike κs a z z' e e' p q = alike p.1.1.1.1.1.1.0 q.1.1.1.1.1.1.0

-- and two rooms, the sixth.
pub plain_rooms_alike : (κs : _) (a : _) (z z' : _) (e e' : _) → plain.Post κs a z e → plain.Post κs a z' e' → e.1.1.1.1.1.0.now ≡ e'.1.1.1.1.1.0.now
plain_rooms_alike κs a z z' e e' p q = alike p.1.1.1.1.1.1.1 q.1.1.1.1.1.1.1

-- Two answers of the pass on a sheet are the same,
pub sheet_answers_alike : (κs : _) (a : _) (z z' : _) (e e' : _) → sheet.Post κs a z e → sheet.Post κs a z' e' → z ≡ z'
sheet_answers_alike κs a z z' e e' p q = alike p.0 q.0

-- so are two cells that they name, the thirteenth argument,
pub sheet_cells_alike : (κs : _) (a : _) (z z' : _) (e e' : _) → sheet.Post κs a z e → sheet.Post κs a z' e' → e.1.1.1.1.1.1.1.1.1.1.1.1.0.now ≡ e'.1.1.1.1.1.1.1.1.1.1.1.1.0.now
sheet_cells_alike κs a z z' e e' p q = alike p.1.0 q.1.0

-- two places, the fourteenth,
pub sheet_places_alike : (κs : _) (a : _) (z z' : _) (e e' : _) → sheet.Post κs a z e → sheet.Post κs a z' e' → e.1.1.1.1.1.1.1.1.1.1.1.1.1.0.now ≡ e'.1.1.1.1.1.1.1.1.1.1.1.1.1.0.now
sheet_places_alike κs a z z' e e' p q = alike p.1.1.0 q.1.1.0

-- two counts of protected cells, the fifteenth,
pub sheet_protected_alike : (κs : _) (a : _) (z z' : _) (e e' : _) → sheet.Post κs a z e → sheet.Post κs a z' e' → e.1.1.1.1.1.1.1.1.1.1.1.1.1.1.0.now ≡ e'.1.1.1.1.1.1.1.1.1.1.1.1.1.1.0.now
sheet_protected_alike κs a z z' e e' p q = alike p.1.1.1.0 q.1.1.1.0

-- two counts of errors, the sixteenth,
pub sheet_errors_alike : (κs : _) (a : _) (z z' : _) (e e' : _) → sheet.Post κs a z e → sheet.Post κs a z' e' → e.1.1.1.1.1.1.1.1.1.1.1.1.1.1.1.0.now ≡ e'.1.1.1.1.1.1.1.1.1.1.1.1.1.1.1.0.now
sheet_errors_alike κs a z z' e e' p q = alike p.1.1.1.1.0 q.1.1.1.1.0

-- two counts of corner cells, the seventeenth,
pub sheet_corners_alike : (κs : _) (a : _) (z z' : _) (e e' : _) → sheet.Post κs a z e → sheet.Post κs a z' e' → e.1.1.1.1.1.1.1.1.1.1.1.1.1.1.1.1.0.now ≡ e'.1.1.1.1.1.1.1.1.1.1.1.1.1.1.1.1.0.now
sheet_corners_alike κs a z z' e e' p q = alike p.1.1.1.1.1.0 q.1.1.1.1.1.0

-- two numbers of range tests, the eighteenth,
pub sheet_tests_alike : (κs : _) (a : _) (z z' : _) (e e' : _) → sheet.Post κs a z e → sheet.Post κs a z' e' → e.1.1.1.1.1.1.1.1.1.1.1.1.1.1.1.1.1.0.now ≡ e'.1.1.1.1.1.1.1.1.1.1.1.1.1.1.1.1.1.0.now
sheet_tests_alike κs a z z' e e' p q = alike p.1.1.1.1.1.1.0 q.1.1.1.1.1.1.0

-- two stencils, the fifth,
pub sheet_stencils_alike : (κs : _) (a : _) (z z' : _) (e e' : _) → sheet.Post κs a z e → sheet.Post κs a z' e' → e.1.1.1.1.0.now ≡ e'.1.1.1.1.0.now
sheet_stencils_alike κs a z z' e e' p q = alike p.1.1.1.1.1.1.1.0 q.1.1.1.1.1.1.1.0

-- two lists of samples, the fourth,
pub sheet_samples_alike : (κs : _) (a : _) (z z' : _) (e e' : _) → sheet.Post κs a z e → sheet.Post κs a z' e' → e.1.1.1.0.now ≡ e'.1.1.1.0.now
sheet_samples_alike κs a z z' e e' p q = alike p.1.1.1.1.1.1.1.1.0 q.1.1.1.1.1.1.1.1.0

-- and two rooms, the sixth.
pub sheet_rooms_alike : (κs : _) (a : _) (z z' : _) (e e' : _) → sheet.Post κs a z e → sheet.Post κs a z' e' → e.1.1.1.1.1.0.now ≡ e'.1.1.1.1.1.0.now
sheet_rooms_alike κs a z z' e e' p q = alike p.1.1.1.1.1.1.1.1.1 q.1.1.1.1.1.1.1.1.1

-- Two answers of the checks of a sheet are the same,
pub check_answers_alike : (κs : _) (a : _) (z z' : _) (e e' : _) → check.Post κs a z e → check.Post κs a z' e' → z ≡ z'
check_answers_alike κs a z z' e e' p q = alike p.0 q.0

-- so are two cells that they name, the thirteenth argument,
pub check_cells_alike : (κs : _) (a : _) (z z' : _) (e e' : _) → check.Post κs a z e → check.Post κs a z' e' → e.1.1.1.1.1.1.1.1.1.1.1.1.0.now ≡ e'.1.1.1.1.1.1.1.1.1.1.1.1.0.now
check_cells_alike κs a z z' e e' p q = alike p.1.0 q.1.0

-- and two places, the fourteenth.
pub check_places_alike : (κs : _) (a : _) (z z' : _) (e e' : _) → check.Post κs a z e → check.Post κs a z' e' → e.1.1.1.1.1.1.1.1.1.1.1.1.1.0.now ≡ e'.1.1.1.1.1.1.1.1.1.1.1.1.1.0.now
check_places_alike κs a z z' e e' p q = alike p.1.1 q.1.1

-- Two answers of the correction of signs are the same,
pub signs_answers_alike : (κs : _) (a : _) (z z' : _) (e e' : _) → signs.Post κs a z e → signs.Post κs a z' e' → z ≡ z'
signs_answers_alike κs a z z' e e' p q = alike p.0 q.0

-- so are two places, the eighth argument,
pub signs_places_alike : (κs : _) (a : _) (z z' : _) (e e' : _) → signs.Post κs a z e → signs.Post κs a z' e' → e.1.1.1.1.1.1.1.0.now ≡ e'.1.1.1.1.1.1.1.0.now
signs_places_alike κs a z z' e e' p q = alike p.1.0 q.1.0

-- two lists of samples, the fourth,
pub signs_samples_alike : (κs : _) (a : _) (z z' : _) (e e' : _) → signs.Post κs a z e → signs.Post κs a z' e' → e.1.1.1.0.now ≡ e'.1.1.1.0.now
signs_samples_alike κs a z z' e e' p q = alike p.1.1.0 q.1.1.0

-- and two match maps, the seventh.
pub signs_matches_alike : (κs : _) (a : _) (z z' : _) (e e' : _) → signs.Post κs a z e → signs.Post κs a z' e' → e.1.1.1.1.1.1.0.now ≡ e'.1.1.1.1.1.1.0.now
signs_matches_alike κs a z z' e e' p q = alike p.1.1.1 q.1.1.1

-- Two answers of samples to bytes are the same,
pub bytes_answers_alike : (κs : _) (a : _) (z z' : _) (e e' : _) → bytes.Post κs a z e → bytes.Post κs a z' e' → z ≡ z'
bytes_answers_alike κs a z z' e e' p q = alike p.0 q.0

-- so are two places, the third argument,
pub bytes_places_alike : (κs : _) (a : _) (z z' : _) (e e' : _) → bytes.Post κs a z e → bytes.Post κs a z' e' → e.1.1.0.now ≡ e'.1.1.0.now
bytes_places_alike κs a z z' e e' p q = alike p.1.0 q.1.0

-- and two lists of bytes, the second.
pub bytes_written_alike : (κs : _) (a : _) (z z' : _) (e e' : _) → bytes.Post κs a z e → bytes.Post κs a z' e' → e.1.0.now ≡ e'.1.0.now
bytes_written_alike κs a z z' e e' p q = alike p.1.1 q.1.1

-- Two answers of bytes to samples are the same,
pub samples_answers_alike : (κs : _) (a : _) (z z' : _) (e e' : _) → samples.Post κs a z e → samples.Post κs a z' e' → z ≡ z'
samples_answers_alike κs a z z' e e' p q = alike p.0 q.0

-- so are two places, the third argument,
pub samples_places_alike : (κs : _) (a : _) (z z' : _) (e e' : _) → samples.Post κs a z e → samples.Post κs a z' e' → e.1.1.0.now ≡ e'.1.1.0.now
samples_places_alike κs a z z' e e' p q = alike p.1.0 q.1.0

-- and two lists of samples, the second.
pub samples_written_alike : (κs : _) (a : _) (z z' : _) (e e' : _) → samples.Post κs a z e → samples.Post κs a z' e' → e.1.0.now ≡ e'.1.0.now
samples_written_alike κs a z z' e e' p q = alike p.1.1 q.1.1

-- Two texels that the view leaves in its ninth argument hold the same samples,
pub views_alike : (κs : _) (a : _) (z z' : _) (e e' : _) → view.Post κs a z e → view.Post κs a z' e' → e.1.1.1.1.1.1.1.1.0.now.now ≡ e'.1.1.1.1.1.1.1.1.0.now.now
views_alike κs a z z' e e' p q = alike p.0 q.0

-- and lie at the same place of the same bitmap.
pub views_placed_alike : (κs : _) (a : _) (z z' : _) (e e' : _) → view.Post κs a z e → view.Post κs a z' e' → e.1.1.1.1.1.1.1.1.0.now.ref_ptr ≡ e'.1.1.1.1.1.1.1.1.0.now.ref_ptr
views_placed_alike κs a z z' e e' p q = alike p.1 q.1

-- Two channels of a texel's median are the same.
pub channels_alike : (κs : _) (a : _) (z z' : _) (e e' : _) → channel.Post κs a z e → channel.Post κs a z' e' → z ≡ z'
channels_alike κs a z z' e e' p q = alike p q
