-- The modes by their numbers. Assumes nothing.
--     mode_few       a mode's number is at most 3
--     modes_alike    and tells the mode
use Rattle.std.specs.Prelude.{◌≡◌, ℕ, ◌≤◌, cond, eqb, refl}
use Rattle.std.proofs.Common.{sym, ◌∙◌, ap}
use native.Mathlib.Omega.{arith}
use Rattle.ranges.specs.declared.config.Mode.{Mode}
use Rattle.ranges.specs.declared.config.Mode.TheVariants.{Disabled, Indiscriminate, EdgePriority, EdgeOnly}
use Rattle.ranges.specs.Config.{mode_number}

pub mode_few : (m : Mode) → mode_number m ≤ 3
mode_few Disabled = omega arith
mode_few Indiscriminate = omega arith
mode_few EdgePriority = omega arith
mode_few EdgeOnly = omega arith

-- the mode that a number stands for
abbrev numbered : ℕ → Mode
numbered n = cond (eqb n 0) Disabled (cond (eqb n 1) Indiscriminate (cond (eqb n 2) EdgePriority EdgeOnly))

told : (m : Mode) → numbered (mode_number m) ≡ m
told Disabled = refl
told Indiscriminate = refl
told EdgePriority = refl
told EdgeOnly = refl

pub modes_alike : (m n : Mode) → mode_number m ≡ mode_number n → m ≡ n
modes_alike m n e = sym (told m) ∙ ap numbered e ∙ told n
