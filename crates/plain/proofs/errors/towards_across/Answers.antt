-- `plain::errors::towards_across` meets its contract. Assumes nothing.
use Rattle.std.proofs.Common.{◌≡◌, true, sym, ◌∙◌}
use Rattle.std.proofs.lemmas.Option.{cond_some}
use Rattle.plain.specs.Inner.{towards_across, is_texel}
use Rattle.plain.proofs.texels.Counted.{is_inside, missing}
use Rattle.plain.proofs.errors.towards_across.Goals as goal
use Rattle.plain.proofs.errors.towards_across.Goals.{In-Some}

there : (c : In-Some) → let t = c.args.t.now in is_texel t.of.bitmap.width t.of.bitmap.height c.args.nx c.args.ny ≡ true
there c = (cond_some _ _ _ (sym c.texel.ensures ∙ c.in-Some.is)).0

pub invariant_of-b : goal.invariant_of-b
invariant_of-b c = record { inside = ((is_inside _ _ _ _ (there (goal.at.invariant_of-b c).In-Some)).0, c.args.t.now.inside.1) }

pub invariant_of-c : goal.invariant_of-c
invariant_of-c c = record { inside = (c.args.t.now.inside.0, (is_inside _ _ _ _ (there (goal.at.invariant_of-c c).In-Some)).1) }

pub returns-in_default : goal.returns-in_default
unfolding towards_across
returns-in_default c = rw (missing _ _ (sym c.in_default.is ∙ c.texel.ensures))

pub returns : goal.returns
unfolding towards_across
returns c =
    let s = cond_some _ _ _ (sym c.texel.ensures ∙ c.in-Some.is) in
    rw (s.0, c.across_artifact.ensures, sym s.1, c.channels-3.ensures, c.channels-2.ensures, c.channels.ensures)
