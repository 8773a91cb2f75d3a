-- `signs::rasterization::match_of` meets its contract: the median lies where two of the three lie. Assumes nothing.
use mathlib.Core.Path.{◌≡◌, sym, ◌∙◌}
use mathlib.Core.Bool.{Bool, true, false, cond, beq}
use lib.IntN.{ℤ, pos, negsuc}
use lib.Ieee.{lt}
use Rattle.numbers.specs.Scalar.{median_of}
use Rattle.signs.specs.Signs.{match_of}
use Rattle.signs.specs.Inner.{two_of}
use Rattle.signs.proofs.Laws.Median.{match_by_two}
use Rattle.signs.proofs.rasterization.match_of.Goals as goal
use Rattle.signs.proofs.rasterization.match_of.Goals.{Start}

-- by what the two tests answered
none : {r s a b : Bool} (v : ℤ) → r ≡ a → s ≡ b → beq r s ≡ true → pos 0 ≡ cond (beq a b) (pos 0) v
none v p q e = simp ((λ i. beq (sym p i) (sym q i)) ∙ e)

one : {r s a b : Bool} (filled : Bool) (w v : ℤ) → r ≡ a → s ≡ b → beq r s ≡ false → beq r filled ≡ true → w ≡ cond (beq a b) (pos 0) (cond (beq a filled) w v)
one filled w v p q e f = simp ((λ i. beq (sym p i) (sym q i)) ∙ e, (λ i. beq (sym p i) filled) ∙ f)

other : {r s a b : Bool} (filled : Bool) (w v : ℤ) → r ≡ a → s ≡ b → beq r s ≡ false → beq r filled ≡ false → v ≡ cond (beq a b) (pos 0) (cond (beq a filled) w v)
other filled w v p q e f = simp ((λ i. beq (sym p i) (sym q i)) ∙ e, (λ i. beq (sym p i) filled) ∙ f)

-- the median's match from the sides of the three
by_two : (s : Start)
    → let z = s.args.zero in
    let a = s.args.a in
    let b = s.args.b in
    let c = s.args.c in
    let above = two_of (lt z a) (lt z b) (lt z c) in
    let below = two_of (lt a z) (lt b z) (lt c z) in
    match_of z s.args.filled (median_of a b c) ≡ cond (beq above below) (pos 0) (cond (beq above s.args.filled) (pos 1) (negsuc 0))
by_two s = let n = s.requires in match_by_two s.args.zero s.args.filled s.args.a s.args.b s.args.c n.0 n.1 n.2 n.3

pub returns-then-above-below : goal.returns-then-above-below
returns-then-above-below c =
    let u = c.before in
    none _ u.two_of-above.ensures u.two_of-below.ensures c.if-above-below.true ∙ sym (by_two u.before.before)

pub returns-then-above-filled : goal.returns-then-above-filled
returns-then-above-filled c =
    let e = c.before in
    let u = e.before in
    one _ _ _ u.two_of-above.ensures u.two_of-below.ensures e.if-above-below.false c.if-above-filled.true ∙ sym (by_two u.before.before)

pub returns-else-above-filled : goal.returns-else-above-filled
returns-else-above-filled c =
    let e = c.before in
    let u = e.before in
    other _ _ _ u.two_of-above.ensures u.two_of-below.ensures e.if-above-below.false c.if-above-filled.false ∙ sym (by_two u.before.before)
