-- `correction::pass::msdf_error_correction` meets its contract: the checks, then the engine on the window that is the whole. Assumes nothing.
use mathlib.Core.Path.{◌≡◌, refl, sym, ◌∙◌, ap}
use mathlib.Core.Bool.{false}
use Prim.Native.Nat.{ℕ}
use lib.ListN.{length}
use lib.Ieee.{binary32}
use Rattle.std.specs.Prelude.{Err}
use Rattle.std.proofs.lemmas.Result.{err_from_is_err_and}
use Rattle.numbers.specs.Constants.{zero_of}
use Rattle.ground.specs.Lists.{tab}
use Rattle.inputs.specs.Inner.{Sized}
use Rattle.inputs.specs.Checks.{Input, input, bad_room, refusal_number}
use Rattle.inputs.proofs.Laws.Checks.{sizes, sized, by_sizes_law, by_room, by_content, good_room, ready, room_refuses, room_passes}
use Rattle.inputs.proofs.Laws.Refusal.{number_not_0}
use Rattle.correction.proofs.pass.Whole.{held, windowed, started, finished, refused_as, answered}
use Rattle.correction.proofs.pass.msdf_error_correction.Goals as goal
use Rattle.correction.proofs.pass.msdf_error_correction.Goals.{In_ok-check_size, In_ok-check_room, In_ok-mode, Start}

-- the input
abbrev given : Start → Input
given c = let a = c.args in input a.width a.height a.channels a.samples.now a.stencil.now a.room.now a.mode a.settings a.colours.now a.coords.now a.ends.now

-- checks 1 to 4 have passed
fine : (c : In_ok-check_size) → let i = given (goal.at.In_ok-check_size c).Start in Sized i.width i.height i.channels i.samples
fine c = sized _ _ _ _ _ (sizes _ _ _ _ _ (sym c.in_ok-check_size.ensures.numbers))

-- so has check 60
roomy : (c : In_ok-check_room) → let i = given (goal.at.In_ok-check_room c).Start in bad_room i.width (length i.room) ≡ false
roomy c = room_passes _ c.in_ok-check_room.ensures.numbers

-- all have passed
all : (c : In_ok-mode) → refusal_number (given (goal.at.In_ok-mode c).Start) ≡ 0
all c =
    let i = given (goal.at.In_ok-mode c).Start in
    sym (by_content i c.in_ok-check_size.ensures.numbers refl (roomy (goal.at.In_ok-mode c).In_ok-check_room) (windowed i c.whole-g.ensures (fine (goal.at.In_ok-mode c).In_ok-check_size) (c.in_ok-mode.ensures.numbers, c.in_ok-mode.ensures.places))).0

pub returns-in_err-check_size : goal.returns-in_err-check_size
returns-in_err-check_size c =
    let i = given (goal.at.returns-in_err-check_size c).Start in
    let p = err_from_is_err_and c.from_residual.result c.from_residual.ensures.1 in
    let e = c.in_err-check_size.ensures in
    let q = by_sizes_law i e.numbers (number_not_0 _) in
    let h = refused_as i _ _ (p.1 ∙ ap Err p.2) q.0 (e.places ∙ q.1) in record { answers = h.0; leaves = h.1.0; writes = h.1.1.0; clears = h.1.1.1 }

pub returns-in_err-check_room : goal.returns-in_err-check_room
returns-in_err-check_room c =
    let i = given (goal.at.returns-in_err-check_room c).Start in
    let p = err_from_is_err_and c.from_residual-in_err-check_room.result c.from_residual-in_err-check_room.ensures.1 in
    let e = c.in_err-check_room.ensures in
    let b = room_refuses _ _ e.numbers in
    let q = by_room i c.in_ok-check_size.ensures.numbers refl b.0 in
    let h = refused_as i _ _ (p.1 ∙ ap Err p.2) (b.1 ∙ q.0) (e.places ∙ q.1) in record { answers = h.0; leaves = h.1.0; writes = h.1.1.0; clears = h.1.1.1 }

pub check-requires : goal.check-requires
check-requires c = held (given (goal.at.check-requires c).Start) c.whole-g.ensures (fine (goal.at.check-requires c).In_ok-check_size)

pub returns-in_err-mode : goal.returns-in_err-mode
returns-in_err-mode c =
    let i = given (goal.at.returns-in_err-mode c).Start in
    let p = err_from_is_err_and c.from_residual-in_err-mode.result c.from_residual-in_err-mode.ensures.1 in
    let e = c.in_err-mode.ensures in
    let q = by_content i c.in_ok-check_size.ensures.numbers refl (roomy (goal.at.returns-in_err-mode c).In_ok-check_room) (windowed i c.whole-g.ensures (fine (goal.at.returns-in_err-mode c).In_ok-check_size) (e.numbers, e.places)) in
    let h = refused_as i _ _ (p.1 ∙ ap Err p.2) q.0 q.1 in record { answers = h.0; leaves = h.1.0; writes = h.1.1.0; clears = h.1.1.1 }

pub correct-tests-requires : goal.correct-tests-requires
correct-tests-requires c =
    let i = given (goal.at.correct-tests-requires c).Start in
    let r = ready i (all (goal.at.correct-tests-requires c).In_ok-mode) in
    let g = good_room _ _ (roomy (goal.at.correct-tests-requires c).In_ok-check_room) in
    record { sampled = (held i c.whole-g.ensures r.0, rw c.whole-g.ensures g); stencilled = started i c.whole-g.ensures r.0 r.1.0 _ c.fill.ensures }

pub returns : goal.returns
returns c =
    let i = given (goal.at.returns c).Start in
    let z = all (goal.at.returns c).In_ok-mode in
    let r = ready i z in
    let k = c.in_ok-mode.ensures in
    let t = c.correct-tests.ensures in
    let h = finished i c.whole-g.ensures r.0 r.1.0 _ c.fill.ensures (rw (k.modes, k.same) at t.makes, (rw (k.modes, k.same) at t.leaves, rw (k.modes, k.same) at t.writes)) in
    let all = answered i _ _ _ _ _ z h.0 h.1.0 h.1.1 (c.clear.ensures ∙ ap (λ (n : ℕ). tab n (λ k. zero_of binary32)) c.correct-tests.auto.room) c.count_cells.ensures in
    record { answers = all.0; leaves = all.1.0; writes = all.1.1.0; clears = all.1.1.1 }
