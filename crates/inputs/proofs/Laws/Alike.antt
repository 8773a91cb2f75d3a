-- Each public function's promise determines its answer, and the stencil or the room where it writes one: any two that it permits for the same arguments are the same. Assumes nothing.
-- `Post` is a function's promise as the checker makes it of the `ensures` in the source. No public function has a `requires`.
use mathlib.Core.Path.{◌≡◌, ◌∙◌}
use Rattle.ground.proofs.Laws.Alike.{Alike, alike}
use Rattle.inputs.proofs.Laws.Refusal.{results_alike, contents_alike, moded_alike}
use Rattle.inputs.proofs.Laws.Outlines.{checked_alike}
use Rattle.inputs.proofs.checks.Found.{found_alike}
use Rattle.inputs.proofs.sizes.in_bounds.Kinds as in_bounds_kinds
use Rattle.inputs.proofs.sizes.in_bounds.Reads as in_bounds
use Rattle.inputs.proofs.stencil.is_error.Kinds as is_error_kinds
use Rattle.inputs.proofs.stencil.is_error.Reads as is_error
use Rattle.inputs.proofs.stencil.is_protected.Kinds as is_protected_kinds
use Rattle.inputs.proofs.stencil.is_protected.Reads as is_protected
use Rattle.inputs.proofs.stencil.has_corner.Kinds as has_corner_kinds
use Rattle.inputs.proofs.stencil.has_corner.Reads as has_corner
use Rattle.inputs.proofs.stencil.set_error.Kinds as set_error_kinds
use Rattle.inputs.proofs.stencil.set_error.Reads as set_error
use Rattle.inputs.proofs.stencil.set_protected.Kinds as set_protected_kinds
use Rattle.inputs.proofs.stencil.set_protected.Reads as set_protected
use Rattle.inputs.proofs.stencil.set_corner.Kinds as set_corner_kinds
use Rattle.inputs.proofs.stencil.set_corner.Reads as set_corner
use Rattle.inputs.proofs.stencil.set_both.Kinds as set_both_kinds
use Rattle.inputs.proofs.stencil.set_both.Reads as set_both
use Rattle.inputs.proofs.stencil.fill.Reads as fill
use Rattle.inputs.proofs.stencil.count_cells.Kinds as count_cells_kinds
use Rattle.inputs.proofs.stencil.count_cells.Reads as count_cells
use Rattle.inputs.proofs.room.clear.Reads as clear
use Rattle.inputs.proofs.checks.bad_channels.Kinds as bad_channels_kinds
use Rattle.inputs.proofs.checks.bad_channels.Reads as bad_channels
use Rattle.inputs.proofs.checks.bad_size.Kinds as bad_size_kinds
use Rattle.inputs.proofs.checks.bad_size.Reads as bad_size
use Rattle.inputs.proofs.checks.bad_sample.Kinds as bad_sample_kinds
use Rattle.inputs.proofs.checks.bad_sample.Reads as bad_sample
use Rattle.inputs.proofs.checks.bad_room.Kinds as bad_room_kinds
use Rattle.inputs.proofs.checks.bad_room.Reads as bad_room
use Rattle.inputs.proofs.checks.check_size.Kinds as check_size_kinds
use Rattle.inputs.proofs.checks.check_size.Reads as check_size
use Rattle.inputs.proofs.checks.check_room.Kinds as check_room_kinds
use Rattle.inputs.proofs.checks.check_room.Reads as check_room
use Rattle.inputs.proofs.checks.check_settings.Kinds as check_settings_kinds
use Rattle.inputs.proofs.checks.check_settings.Reads as check_settings
use Rattle.inputs.proofs.checks.first_bad_sample.Kinds as first_bad_sample_kinds
use Rattle.inputs.proofs.checks.first_bad_sample.Reads as first_bad_sample
use Rattle.inputs.proofs.checks.check_samples.Kinds as check_samples_kinds
use Rattle.inputs.proofs.checks.check_samples.Reads as check_samples
use Rattle.inputs.proofs.checks.check_outline.Kinds as check_outline_kinds
use Rattle.inputs.proofs.checks.check_outline.Reads as check_outline
use Rattle.inputs.proofs.outline.Outline.check.Kinds as outline_check_kinds
use Rattle.inputs.proofs.outline.Outline.check.Reads as outline_check
use Rattle.inputs.proofs.refusal.ContentRefusal.number.Kinds as content_number_kinds
use Rattle.inputs.proofs.refusal.ContentRefusal.number.Reads as content_number
use Rattle.inputs.proofs.refusal.ContentRefusal.place.Kinds as content_place_kinds
use Rattle.inputs.proofs.refusal.ContentRefusal.place.Reads as content_place
use Rattle.inputs.proofs.refusal.Refusal.number.Kinds as number_kinds
use Rattle.inputs.proofs.refusal.Refusal.number.Reads as number
use Rattle.inputs.proofs.refusal.Refusal.place.Kinds as place_kinds
use Rattle.inputs.proofs.refusal.Refusal.place.Reads as place
use Rattle.inputs.proofs.refusal.RefusalFromContentRefusal.from.Kinds as from_kinds
use Rattle.inputs.proofs.refusal.RefusalFromContentRefusal.from.Reads as from

-- Whether a column and a row are inside.
pub in_bounds_alike : Alike 0 in_bounds_kinds.ps in_bounds_kinds.r in_bounds.Post
in_bounds_alike κs a r s e f = alike

-- The bits of a byte.
pub is_error_alike : Alike 0 is_error_kinds.ps is_error_kinds.r is_error.Post
is_error_alike κs a r s e f = alike

pub is_protected_alike : Alike 0 is_protected_kinds.ps is_protected_kinds.r is_protected.Post
is_protected_alike κs a r s e f = alike

pub has_corner_alike : Alike 0 has_corner_kinds.ps has_corner_kinds.r has_corner.Post
has_corner_alike κs a r s e f = alike

-- A byte with one of them set, and with the corner's and the protected bit.
pub set_error_alike : Alike 0 set_error_kinds.ps set_error_kinds.r set_error.Post
set_error_alike κs a r s e f = alike

pub set_protected_alike : Alike 0 set_protected_kinds.ps set_protected_kinds.r set_protected.Post
set_protected_alike κs a r s e f = alike

pub set_corner_alike : Alike 0 set_corner_kinds.ps set_corner_kinds.r set_corner.Post
set_corner_alike κs a r s e f = alike

pub set_both_alike : Alike 0 set_both_kinds.ps set_both_kinds.r set_both.Post
set_both_alike κs a r s e f = alike

-- A stencil with one byte in every cell: it answers nothing.
pub filled_alike : (κs : _) (a : _) (z z' : _) (e e' : _) → fill.Post κs a z e → fill.Post κs a z' e' → e.0.now ≡ e'.0.now
filled_alike κs a z z' e e' = alike

-- A room of zeros: it answers nothing.
pub cleared_alike : (κs : _) (a : _) (z z' : _) (e e' : _) → clear.Post κs a z e → clear.Post κs a z' e' → e.0.now ≡ e'.0.now
cleared_alike κs a z z' e e' = alike

-- The counts.
pub count_cells_alike : Alike 1 count_cells_kinds.ps count_cells_kinds.r count_cells.Post
count_cells_alike κs a r s e f = alike

-- Whether check 1 fails, and check 2, and whether check 6 fails of one sample.
pub bad_channels_alike : Alike 0 bad_channels_kinds.ps bad_channels_kinds.r bad_channels.Post
bad_channels_alike κs a r s e f = alike

pub bad_size_alike : Alike 0 bad_size_kinds.ps bad_size_kinds.r bad_size.Post
bad_size_alike κs a r s e f = alike

pub bad_sample_alike : Alike 0 bad_sample_kinds.ps bad_sample_kinds.r bad_sample.Post
bad_sample_alike κs a r s e f = alike

-- Whether check 60 fails.
pub bad_room_alike : Alike 0 bad_room_kinds.ps bad_room_kinds.r bad_room.Post
bad_room_alike κs a r s e f = alike

-- A refusal's number and its place.
pub content_number_alike : Alike 0 content_number_kinds.ps content_number_kinds.r content_number.Post
content_number_alike κs a r s e f = alike

pub content_place_alike : Alike 0 content_place_kinds.ps content_place_kinds.r content_place.Post
content_place_alike κs a r s e f = alike

pub number_alike : Alike 0 number_kinds.ps number_kinds.r number.Post
number_alike κs a r s e f = alike

pub place_alike : Alike 0 place_kinds.ps place_kinds.r place.Post
place_alike κs a r s e f = alike

-- A refusal of the contents as one of all checks.
pub from_alike : Alike 0 from_kinds.ps from_kinds.r from.Post
from_alike κs a r s e f = alike

-- The first of checks 1 to 4 that fails, and checks 60, 5 and 6, with the place.
pub check_size_alike : Alike 0 check_size_kinds.ps check_size_kinds.r check_size.Post
check_size_alike κs a r s e f p q = results_alike r s (alike p.0 q.0) (alike p.1 q.1)

pub check_room_alike : Alike 0 check_room_kinds.ps check_room_kinds.r check_room.Post
check_room_alike κs a r s e f p q = results_alike r s (alike p.0 q.0) (alike p.1 q.1)

pub check_settings_alike : Alike 0 check_settings_kinds.ps check_settings_kinds.r check_settings.Post
check_settings_alike κs a r s e f p q = moded_alike _ r s (alike p.0 q.0) (alike p.1.0 q.1.0) p.1.1 q.1.1

pub check_samples_alike : Alike 1 check_samples_kinds.ps check_samples_kinds.r check_samples.Post
check_samples_alike κs a r s e f p q = contents_alike r s (alike p.0 q.0) (alike p.1 q.1)

-- The first bad sample.
pub first_bad_sample_alike : Alike 1 first_bad_sample_kinds.ps first_bad_sample_kinds.r first_bad_sample.Post
first_bad_sample_alike κs a r s e f = found_alike _ _ r s

-- The first of checks 7 to 9 that fails, with its place.
pub check_outline_alike : Alike 3 check_outline_kinds.ps check_outline_kinds.r check_outline.Post
check_outline_alike κs a r s e f p q = let n = alike p.0 q.0 in contents_alike r s n (p.1 ∙ rw (n, q.1))

pub outline_check_alike : Alike 1 outline_check_kinds.ps outline_check_kinds.r outline_check.Post
outline_check_alike κs a r s e f p q = let n = alike p.0 q.0 in checked_alike _ r s n (p.1.0 ∙ rw (n, q.1.0)) p.1.1 q.1.1
