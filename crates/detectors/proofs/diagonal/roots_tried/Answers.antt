-- `detectors::diagonal::roots_tried` meets its contract: a pair that is not in doubt is not tried, and none has a root inside whose differences are of one sign. Assumes nothing.
use Rattle.std.proofs.Common.{◌≡◌, Bool, true, false, ◌||◌, sym, refl, ◌∙◌, inl, inr}
use borrow.Author.Tests.{not-true, not-false}
use lib.Ieee.{Float, neg}
use Rattle.ground.specs.Lists.{some}
use Rattle.numbers.proofs.Laws.Order.{neg_neg}
use Rattle.detectors.specs.Pairs.{inside}
use Rattle.detectors.specs.Diagonal.{quadratic_roots, pair_roots}
use Rattle.detectors.specs.Discriminant.{normal_pair_roots}
use Rattle.detectors.specs.Orders.{doubted}
use Rattle.detectors.proofs.diagonal.roots_tried.Goals as goal
use Rattle.detectors.proofs.diagonal.roots_tried.Goals.{Else-not-in_doubt}

-- what follows from either of two tests
either : (a b x : Bool) → (a ≡ true → x ≡ false) → (b ≡ true → x ≡ false) → (a || b) ≡ true → x ≡ false
either true b x f g h = f refl
either false b x f g h = g h

-- of the negatives' negatives
back : (A B D : Float) → some inside (quadratic_roots (neg (neg A)) (neg (neg B)) (neg (neg D))) ≡ false → some inside (quadratic_roots A B D) ≡ false
back A B D e = sym (λ i. some inside (quadratic_roots (neg_neg A i) (neg_neg B i) (neg_neg D i))) ∙ e

pub returns-then-not-in_doubt : goal.returns-then-not-in_doubt
returns-then-not-in_doubt c = inr (sym c.in_doubt.ensures ∙ not-true _ c.if-not-in_doubt.true-raw, refl)

-- past the first test the pair is in doubt
named : (c : Else-not-in_doubt) → doubted c.args.doubt c.args.p ≡ true
named c = sym c.in_doubt.ensures ∙ not-false _ c.if-not-in_doubt.false-raw

pub returns-then-rises : goal.returns-then-rises
unfolding pair_roots
returns-then-rises c =
    let none = either _ _ _ c.rises.ensures.up (λ e. back _ _ _ (c.rises-2.ensures.down e)) c.if-rises.true in
    inl (named (goal.at.returns-then-rises c).Else-not-in_doubt, inr (refl, rw (c.difference_in-dd.ensures, c.middle_difference-dbc.ensures, c.difference_in-da.ensures) at none))

pub returns : goal.returns
unfolding normal_pair_roots
returns c =
    inl (named (goal.at.returns c).Else-not-in_doubt, inl (rw (c.difference_in-dd.ensures, c.middle_difference-dbc.ensures, c.difference_in-da.ensures) at c.pair_roots.ensures))
