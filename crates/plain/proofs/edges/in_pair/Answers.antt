-- `plain::edges::in_pair` meets its contract. Assumes nothing.
use Rattle.std.proofs.Common.{◌≡◌, false, sym, ◌∙◌}
use Rattle.std.proofs.lemmas.Bool.{cond_both}
use Rattle.std.proofs.lemmas.Option.{cond_some}
use Rattle.detectors.specs.Edge.{protects_lower, protects_upper}
use Rattle.plain.specs.Inner.{lower_with, upper_with}
use Rattle.plain.proofs.texels.Counted.{missing}
use Rattle.plain.proofs.edges.in_pair.Goals as goal

pub returns-in-Some : goal.returns-in-Some
unfolding protects_lower lower_with
returns-in-Some c =
    let s = cond_some _ _ _ (sym c.texel.ensures ∙ c.in-Some.is) in
    rw (c.if-lower.true, s.0, c.pair_protects.ensures, sym s.1, c.channels-own.ensures)

pub returns-in-Some-2 : goal.returns-in-Some-2
unfolding protects_upper upper_with
returns-in-Some-2 c =
    let s = cond_some _ _ _ (sym c.texel.ensures ∙ c.in-Some.is) in
    rw (c.if-lower.false, s.0, c.pair_protects-in-Some-2.ensures, sym s.1, c.channels-own.ensures)

pub returns-in-None : goal.returns-in-None
unfolding lower_with upper_with
returns-in-None c =
    let none = missing _ _ (sym c.in-None.is ∙ c.texel.ensures) in
    cond_both c.args.lower _ _ (λ v. false ≡ v) (λ e. rw none) (λ e. rw none)
