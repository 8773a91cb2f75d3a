-- `inputs::checks::check_settings` meets its contract: the place of the first that is bad, which is below 5. Assumes nothing.
use mathlib.Core.Path.{◌≡◌, sym, ◌∙◌, subst}
use mathlib.Core.Bool.{false}
use Prim.Native.Nat.{ℕ, ◌≤◌}
use lib.Dec.{ltb}
use native.Mathlib.Omega.{arith}
use borrow.Author.Tests.{lt-ltb, le-ltb}
use Rattle.ranges.specs.declared.config.Mode.{Mode}
use Rattle.ranges.specs.Config.{mode_number}
use Rattle.ranges.proofs.Laws.Modes.{mode_few}
use Rattle.inputs.specs.Checks.{bad_settings, settings_place}
use Rattle.inputs.proofs.checks.Found.{hit_refuses, none_passes}
use Rattle.inputs.proofs.checks.check_settings.Goals as goal

-- a mode's number is at most 3
few : (m : Mode) (n : ℕ) → mode_number m ≡ n → ltb 3 n ≡ false
few m n e = le-ltb _ _ (subst (λ (k : ℕ). k ≤ 3) e (mode_few m))

pub returns-in_default : goal.returns-in_default
unfolding bad_settings settings_place
returns-in_default c =
    let all = hit_refuses 5 (simp (lt-ltb _ _ c.in_default.ensures)) (omega arith) in record { numbers = all.0; places = all.1; modes = tt }

pub returns-then-bad_length : goal.returns-then-bad_length
unfolding bad_settings settings_place
returns-then-bad_length c =
    let all = hit_refuses 5 (simp (few _ _ c.in-Some.ensures, sym c.bad_length.ensures ∙ c.if-bad_length.true)) (omega arith) in record { numbers = all.0; places = all.1; modes = tt }

pub returns-then-bad_length-2 : goal.returns-then-bad_length-2
unfolding bad_settings settings_place
returns-then-bad_length-2 c =
    let all = hit_refuses 5 (simp (few _ _ c.in-Some.ensures, sym c.bad_length.ensures ∙ c.if-bad_length.false, sym c.bad_length-2.ensures ∙ c.if-bad_length-2.true)) (omega arith) in record { numbers = all.0; places = all.1; modes = tt }

pub returns-then-bad_length-3 : goal.returns-then-bad_length-3
unfolding bad_settings settings_place
returns-then-bad_length-3 c =
    let all = hit_refuses 5 (simp (few _ _ c.in-Some.ensures, sym c.bad_length.ensures ∙ c.if-bad_length.false, sym c.bad_length-2.ensures ∙ c.if-bad_length-2.false, sym c.bad_length-3.ensures ∙ c.if-bad_length-3.true)) (omega arith) in record { numbers = all.0; places = all.1; modes = tt }

pub returns-then-bad_length-4 : goal.returns-then-bad_length-4
unfolding bad_settings settings_place
returns-then-bad_length-4 c =
    let all = hit_refuses 5 (simp (few _ _ c.in-Some.ensures, sym c.bad_length.ensures ∙ c.if-bad_length.false, sym c.bad_length-2.ensures ∙ c.if-bad_length-2.false, sym c.bad_length-3.ensures ∙ c.if-bad_length-3.false, sym c.bad_length-4.ensures ∙ c.if-bad_length-4.true)) (omega arith) in record { numbers = all.0; places = all.1; modes = tt }

pub returns : goal.returns
unfolding bad_settings settings_place
returns c =
    let all = none_passes 5 (simp (few _ _ c.in-Some.ensures, sym c.bad_length.ensures ∙ c.if-bad_length.false, sym c.bad_length-2.ensures ∙ c.if-bad_length-2.false, sym c.bad_length-3.ensures ∙ c.if-bad_length-3.false, sym c.bad_length-4.ensures ∙ c.if-bad_length-4.false)) in record { numbers = all.0; places = all.1; modes = c.in-Some.ensures }
