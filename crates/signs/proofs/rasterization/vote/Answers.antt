-- `signs::rasterization::vote` meets its contract: four matches, each small. Assumes nothing.
use mathlib.Core.Path.{◌≡◌, sym, ◌∙◌, subst}
use lib.IntN.{ℤ, ◌+ℤ◌}
use Rattle.signs.specs.Signs.{vote}
use Rattle.signs.specs.Inner.{UpTo}
use Rattle.signs.proofs.rasterization.Votes.{near_small, first_fits, second_fits, third_fits, four_sum}
use Rattle.signs.proofs.rasterization.vote.Goals as goal
use Rattle.signs.proofs.rasterization.vote.Goals.{After-match_near-above}

module _ (c : After-match_near-above) where
  above : UpTo 1 c.match_near-above.result
  above = subst (UpTo 1) (sym c.match_near-above.ensures) (near_small _ _ _ _ _ c.requires.mapped.held)

  below : UpTo 1 c.match_near-below.result
  below = subst (UpTo 1) (sym c.match_near-below.ensures) (near_small _ _ _ _ _ c.requires.mapped.held)

  right : UpTo 1 c.match_near-right.result
  right = subst (UpTo 1) (sym c.match_near-right.ensures) (near_small _ _ _ _ _ c.requires.mapped.held)

  left : UpTo 1 c.match_near-left.result
  left = subst (UpTo 1) (sym c.match_near-left.ensures) (near_small _ _ _ _ _ c.requires.mapped.held)

sums : {a b d e a' b' d' e' : ℤ} → a ≡ a' → b ≡ b' → d ≡ d' → e ≡ e' → a +ℤ b +ℤ d +ℤ e ≡ a' +ℤ b' +ℤ d' +ℤ e'
sums p q r s = rw (p, q, r, s)

pub overflow_add-result : goal.overflow_add-result
overflow_add-result c = first_fits _ _ _ _ (left c) (right c) (below c) (above c)

pub overflow_add-result-2 : goal.overflow_add-result-2
overflow_add-result-2 c = second_fits _ _ _ _ (left c) (right c) (below c) (above c)

pub overflow_add-result-3 : goal.overflow_add-result-3
overflow_add-result-3 c = third_fits _ _ _ _ (left c) (right c) (below c) (above c)

pub returns : goal.returns
unfolding vote
returns c =
    let d = c.before in
    let e = d.before in
    let f = e.before in
    four_sum _ _ _ _ (left c) (right c) (below c) (above c)
    ∙ sums f.match_near-left.ensures e.match_near-right.ensures d.match_near-below.ensures c.match_near-above.ensures
