-- `plain::checks::bad_room` meets its contract. Assumes nothing.
use Rattle.std.proofs.Common.{◌≡◌, ℕ, ◌-◌, ◌*◌, ◌<◌, ◌≤◌, true, ltb, sym, ◌∙◌, arith, le-ltb, lt-ltb}
use mathlib.Core.Logic.{dite}
use native.Mathlib.Decide.{dec_lt}
use Rattle.inputs.specs.Checks.{bad_room}
use Rattle.plain.proofs.checks.bad_room.Goals as goal

no_row : (w n : ℕ) → n < w → true ≡ bad_room w n
unfolding bad_room
no_row w n l = sym (lt-ltb n (2 * w) (omega arith))

-- what one row leaves is less than another
second_row : (w n : ℕ) → w ≤ n → ltb (n - w) w ≡ bad_room w n
unfolding bad_room
second_row w n l =
    dite (dec_lt (n - w) w)
    (λ h. lt-ltb (n - w) w h ∙ sym (lt-ltb n (2 * w) (omega arith)))
    (λ h. le-ltb (n - w) w (omega arith) ∙ sym (le-ltb n (2 * w) (omega arith)))

pub returns-then-n-w : goal.returns-then-n-w
returns-then-n-w c = no_row _ _ c.if-n-w.true

pub returns : goal.returns
returns c = second_row _ _ c.if-n-w.false
