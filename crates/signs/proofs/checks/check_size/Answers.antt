-- `signs::checks::check_size` meets its contract. Assumes nothing.
use mathlib.Core.Path.{◌≡◌, sym, ◌∙◌}
use mathlib.Core.Bool.{false}
use native.Mathlib.Omega.{arith}
use borrow.Author.Tests.{eq-eqb, ne_eqb}
use Rattle.ground.specs.Refuse.{first_failing}
use Rattle.inputs.specs.Checks.{bad_size, bad_sample_count}
use Rattle.inputs.proofs.Laws.Checks.{size_bound, area_fits, volume_fits}
use Rattle.signs.specs.Checks.{bad_channels, size_refusal}
use Rattle.signs.proofs.checks.Passed.{channel_bound}
use Rattle.signs.proofs.checks.check_size.Goals as goal
use Rattle.signs.proofs.checks.check_size.Goals.{Else-bad_size}

-- the first two checks, where they have passed
ok : (c : Else-bad_size) → (bad_channels c.args.b.channels ≡ false) × (bad_size c.args.b.width c.args.b.height ≡ false)
ok c =
    (sym c.bad_channels.ensures ∙ c.if-bad_channels.false, sym c.bad_size.ensures ∙ c.if-bad_size.false)

pub returns-then-bad_channels-clause-numbers : goal.returns-then-bad_channels-clause-numbers
unfolding size_refusal first_failing
returns-then-bad_channels-clause-numbers c = simp (sym c.bad_channels.ensures ∙ c.if-bad_channels.true)

pub returns-then-bad_size-clause-numbers : goal.returns-then-bad_size-clause-numbers
unfolding size_refusal first_failing
returns-then-bad_size-clause-numbers c =
    simp (sym c.bad_channels.ensures ∙ c.if-bad_channels.false, sym c.bad_size.ensures ∙ c.if-bad_size.true)

pub overflow_mul-b : goal.overflow_mul-b
overflow_mul-b c =
    let b = size_bound _ _ (ok (goal.at.overflow_mul-b c).Else-bad_size).1 in
    omega (arith, area_fits _ _ b.0.1 b.1.1)

pub overflow_mul-b-2 : goal.overflow_mul-b-2
overflow_mul-b-2 c =
    let k = ok (goal.at.overflow_mul-b-2 c).Else-bad_size in
    let b = size_bound _ _ k.1 in
    omega (arith, volume_fits _ _ _ b.0.1 b.1.1 (channel_bound _ k.0))

pub returns-then-n-b-clause-numbers : goal.returns-then-n-b-clause-numbers
unfolding size_refusal first_failing bad_sample_count
returns-then-n-b-clause-numbers c = let k = ok (goal.at.returns-then-n-b-clause-numbers c).Else-bad_size in simp (k.0, k.1, ne_eqb _ _ c.if-n-b.true)

pub returns-clause-numbers : goal.returns-clause-numbers
unfolding size_refusal first_failing bad_sample_count
returns-clause-numbers c = let k = ok (goal.at.returns-clause-numbers c).Else-bad_size in simp (k.0, k.1, eq-eqb _ _ c.if-n-b.false)
