-- What an accepted pass leaves, cell by cell. Assumes nothing.
--     number_zero      an accepted input has no check that fails
--     accepted_leaves  the stencil and the samples of an accepted pass are those that are defined
--     cell_error       the error bit of a cell says whether its texel is flagged
--     cell_protected   the protected bit says whether it is protected
--     cell_corner      the corner bit says whether a corner protects it
--     accepted_room    the room of an accepted pass is zeros throughout
--     room_length      and a room is as long as it was
--     given            what comes in with a run's arguments
use mathlib.Core.Path.{◌≡◌, ◌∙◌, ap}
use mathlib.Core.Bool.{Bool, true, cond}
use mathlib.Core.List.{List}
use Prim.Native.Nat.{ℕ, ◌*◌, ◌/◌, ◌%◌, ◌<◌}
use lib.ListN.{get_or, length}
use lib.Ieee.{binary32}
use contract.Lifetimes.{Lfts}
use borrow.Fn.Kinds.{Dens}
use borrow.Author.Tests.{eqb-true}
use Rattle.numbers.specs.Constants.{zero_of}
use Rattle.ground.specs.Lists.{tab}
use Rattle.inputs.specs.Stencil.{has_corner, is_protected, is_error}
use Rattle.inputs.specs.Checks.{Input, input, refusal_number, accepted}
use Rattle.correction.specs.Pass.{cornered, protects, flags, byte_at, pass_stencil, pass_samples, stencil_after, samples_after, room_after}
use Rattle.ground.proofs.Laws.Fill.{tab_length, tab_at}
use Rattle.correction.proofs.engine.Staged.{byte_at_says}
use Rattle.correction.proofs.pass.msdf_error_correction.Kinds.{ps}

pub number_zero : (i : Input) → accepted i ≡ true → refusal_number i ≡ 0
unfolding accepted
number_zero i p = eqb-true (refusal_number i) 0 p

-- An accepted pass leaves its stencil and its samples.
pub accepted_leaves : (i : Input) → accepted i ≡ true → (stencil_after i ≡ pass_stencil i) × (samples_after i ≡ pass_samples i)
unfolding stencil_after samples_after
accepted_leaves i p = (ap (λ (b : Bool). cond b (pass_stencil i) i.stencil) p, ap (λ (b : Bool). cond b (pass_samples i) i.samples) p)

-- Cell k has its byte.
pub cell_byte : (i : Input) → accepted i ≡ true → (k : ℕ) → k < i.width * i.height → get_or (stencil_after i) k 0 ≡ byte_at i k
unfolding pass_stencil
cell_byte i p k l = ap (λ (st : List ℕ). get_or st k 0) (accepted_leaves i p).0 ∙ tab_at (i.width * i.height) (byte_at i) k 0 l

-- The error bit of a cell says whether its texel is flagged.
pub cell_error : (i : Input) → accepted i ≡ true → (k : ℕ) → k < i.width * i.height → is_error (get_or (stencil_after i) k 0) ≡ flags i (k % i.width) (k / i.width)
cell_error i p k l = ap is_error (cell_byte i p k l) ∙ (byte_at_says i k).2

-- The protected bit says whether it is protected.
pub cell_protected : (i : Input) → accepted i ≡ true → (k : ℕ) → k < i.width * i.height → is_protected (get_or (stencil_after i) k 0) ≡ protects i (k % i.width) (k / i.width)
cell_protected i p k l = ap is_protected (cell_byte i p k l) ∙ (byte_at_says i k).1

-- The corner bit says whether a corner protects it.
pub cell_corner : (i : Input) → accepted i ≡ true → (k : ℕ) → k < i.width * i.height → has_corner (get_or (stencil_after i) k 0) ≡ cornered i (k % i.width) (k / i.width)
cell_corner i p k l = ap has_corner (cell_byte i p k l) ∙ (byte_at_says i k).0

-- The stencil has a cell for each texel.
pub stencil_length : (i : Input) → accepted i ≡ true → length (stencil_after i) ≡ i.width * i.height
unfolding pass_stencil
stencil_length i p = ap length (accepted_leaves i p).0 ∙ tab_length (i.width * i.height) (byte_at i)

-- Every element of the room is zero.
pub accepted_room : (i : Input) → accepted i ≡ true → room_after i ≡ tab (length i.room) (λ k. zero_of binary32)
unfolding room_after
accepted_room i p = ap (λ (b : Bool). cond b (tab (length i.room) (λ k. zero_of binary32)) i.room) p

-- The room has as many as it had.
pub room_length : (i : Input) → accepted i ≡ true → length (room_after i) ≡ length i.room
room_length i p = ap length (accepted_room i p) ∙ tab_length (length i.room) (λ k. zero_of binary32)

-- what comes in with a run's arguments
abbrev pub given : (κs : Lfts 6) → Dens κs ps → Input
given κs a =
    input a.0 a.1.0 a.1.1.0 a.1.1.1.0.now a.1.1.1.1.0.now a.1.1.1.1.1.0.now a.1.1.1.1.1.1.0 a.1.1.1.1.1.1.1.0 a.1.1.1.1.1.1.1.1.0.now a.1.1.1.1.1.1.1.1.1.0.now a.1.1.1.1.1.1.1.1.1.1.0.now
