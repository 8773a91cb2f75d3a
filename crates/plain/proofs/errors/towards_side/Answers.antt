-- `plain::errors::towards_side` meets its contract. Assumes nothing.
use Rattle.std.proofs.Common.{sym, ◌∙◌}
use Rattle.std.proofs.lemmas.Option.{cond_some}
use Rattle.plain.specs.Inner.{towards_side}
use Rattle.plain.proofs.texels.Counted.{missing}
use Rattle.plain.proofs.errors.towards_side.Goals as goal

pub returns-in-Some : goal.returns-in-Some
unfolding towards_side
returns-in-Some c = let s = cond_some _ _ _ (sym c.texel.ensures ∙ c.in-Some.is) in rw (s.0, c.side_artifact.ensures, sym s.1, c.channels-a.ensures)

pub returns-in-None : goal.returns-in-None
unfolding towards_side
returns-in-None c = rw (missing _ _ (sym c.in-None.is ∙ c.texel.ensures))
