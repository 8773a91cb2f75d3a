-- `signs::rasterization::write_matches` meets its contract, by the laws of a loop that fills. Assumes nothing.
use mathlib.Core.Path.{◌≡◌, sym, ◌∙◌, subst}
use Prim.Native.Nat.{ℕ}
use native.Mathlib.Omega.{arith}
use lib.IntN.{pos}
use Rattle.ground.specs.Lists.{tab}
use Rattle.ground.proofs.Laws.Fill.{filled_more, filled_all}
use Rattle.signs.specs.Signs.{filled_at, median_at, match_at}
use Rattle.signs.specs.Inner.{UpTo}
use Rattle.signs.proofs.rasterization.Votes.{held8, match_small}
use Rattle.signs.proofs.rasterization.write_matches.Goals as goal

pub loop-k-preserved : goal.loop-k-preserved
unfolding match_at median_at filled_at
loop-k-preserved g c =
    filled_more (pos 0) _ _ c.loop-k.invariant (omega arith) (held8 c.match_of.result (subst (UpTo 1) (sym c.match_of.ensures) (match_small _ _ _)) ∙ c.match_of.ensures)

pub returns : goal.returns
returns g c =
    let l = c.loop-k in
    subst (λ (n : ℕ). l.matches ≡ tab n (match_at c.args.xs.now g.row.CH c.args.zero c.args.filled.now)) c.requires.sizes.3 (filled_all (pos 0) _ _ l.invariant (omega (arith, l.invariant.len, c.loop-k-test.false)))
