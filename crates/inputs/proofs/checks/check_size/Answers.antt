-- `inputs::checks::check_size` meets its contract. Assumes nothing.
use mathlib.Core.Path.{◌≡◌, sym, ◌∙◌}
use mathlib.Core.Bool.{false}
use Rattle.ground.specs.Refuse.{first_failing}
use Rattle.inputs.specs.Checks.{bad_channels, bad_size, size_refusal}
use Rattle.inputs.proofs.checks.Measures.{size_bound, channel_bound}
use Rattle.inputs.proofs.checks.check_size.Goals as goal
use Rattle.inputs.proofs.checks.check_size.Goals.{Else-bad_size}

-- the first two checks, where they have passed
ok : (c : Else-bad_size) → (bad_channels c.args.b.channels ≡ false) × (bad_size c.args.b.width c.args.b.height ≡ false)
ok c =
    (sym c.bad_channels.ensures ∙ c.if-bad_channels.false, sym c.bad_size.ensures ∙ c.if-bad_size.false)

pub returns-then-bad_channels-clause-numbers : goal.returns-then-bad_channels-clause-numbers
unfolding size_refusal first_failing
returns-then-bad_channels-clause-numbers c = simp (sym c.bad_channels.ensures ∙ c.if-bad_channels.true)

pub returns-then-bad_size-clause-numbers : goal.returns-then-bad_size-clause-numbers
unfolding size_refusal first_failing
returns-then-bad_size-clause-numbers c =
    simp (sym c.bad_channels.ensures ∙ c.if-bad_channels.false, sym c.bad_size.ensures ∙ c.if-bad_size.true)

pub bad_sample_count-requires : goal.bad_sample_count-requires
bad_sample_count-requires c =
    let k = ok c in
    let b = size_bound _ _ k.1 in
    (b.0.1, b.1.1, (channel_bound _ k.0).1)

pub returns-then-bad_sample_count-clause-numbers : goal.returns-then-bad_sample_count-clause-numbers
unfolding size_refusal first_failing
returns-then-bad_sample_count-clause-numbers c =
    let k = ok (goal.at.returns-then-bad_sample_count-clause-numbers c).Else-bad_size in
    simp (k.0, k.1, sym c.bad_sample_count.ensures ∙ c.if-bad_sample_count.true)

pub bad_cell_count-requires : goal.bad_cell_count-requires
bad_cell_count-requires c =
    let b = size_bound _ _ (ok (goal.at.bad_cell_count-requires c).Else-bad_size).1 in (b.0.1, b.1.1)

pub returns-then-bad_cell_count-clause-numbers : goal.returns-then-bad_cell_count-clause-numbers
unfolding size_refusal first_failing
returns-then-bad_cell_count-clause-numbers c =
    let k = ok (goal.at.returns-then-bad_cell_count-clause-numbers c).Else-bad_size in
    simp (k.0, k.1, sym c.bad_sample_count.ensures ∙ c.if-bad_sample_count.false, sym c.bad_cell_count.ensures ∙ c.if-bad_cell_count.true)

pub returns-clause-numbers : goal.returns-clause-numbers
unfolding size_refusal first_failing
returns-clause-numbers c =
    let k = ok (goal.at.returns-clause-numbers c).Else-bad_size in
    simp (k.0, k.1, sym c.bad_sample_count.ensures ∙ c.if-bad_sample_count.false, sym c.bad_cell_count.ensures ∙ c.if-bad_cell_count.false)
