-- `inputs::checks::bad_room` meets its contract: half of n is below w where n is below twice w. Assumes nothing.
use mathlib.Core.Path.{◌≡◌, sym, ◌∙◌}
use mathlib.Core.Logic.{dite}
use Prim.Native.Nat.{ℕ, ◌*◌, ◌/◌}
use native.Mathlib.Decide.{dec_lt}
use native.Mathlib.Omega.{arith}
use lib.Dec.{ltb}
use borrow.Author.Tests.{lt-ltb, le-ltb}
use Rattle.inputs.specs.Checks.{bad_room}
use Rattle.inputs.proofs.checks.bad_room.Goals as goal

halved : (w n : ℕ) → ltb (n / 2) w ≡ bad_room w n
unfolding bad_room
halved w n =
    dite (dec_lt (n / 2) w)
    (λ l. lt-ltb (n / 2) w l ∙ sym (lt-ltb n (2 * w) (omega arith)))
    (λ l. le-ltb (n / 2) w (omega arith) ∙ sym (le-ltb n (2 * w) (omega arith)))

pub returns : goal.returns
returns c = halved _ _
