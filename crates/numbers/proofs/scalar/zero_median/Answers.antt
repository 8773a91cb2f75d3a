-- `numbers::scalar::zero_median` meets its contract (`Zeros.antt`). Assumes nothing.
use Rattle.std.proofs.Common.{◌≡◌, Bool, true, false, T, pos, sym, refl, ap, ◌∙◌, subst}
use mathlib.Core.Bool.{beq}
use lib.Ieee.{fin, binary32}
use Rattle.numbers.specs.Orders.{Number}
use Rattle.numbers.proofs.scalar.Zeros.{sign_first, sign_third}
use Rattle.numbers.proofs.scalar.zero_median.Goals as goal
use Rattle.numbers.proofs.scalar.zero_median.Goals.{Start}

numbers : (s : Start) → Number binary32 s.args.a × Number binary32 s.args.b × Number binary32 s.args.c
numbers s = ((subst T (sym s.well_formed.0.1) tt, s.requires.numbers.0), (subst T (sym s.well_formed.1.0.1) tt, s.requires.numbers.1), (subst T (sym s.well_formed.1.1.0.1) tt, s.requires.numbers.2))

same : (s t : Bool) → beq s t ≡ true → s ≡ t
same true true e = refl
same true false e = sym e
same false true e = e
same false false e = refl

other : (s t : Bool) → beq s t ≡ false → s ≡ t → ⊥
other true true e h = subst T e tt
other true false e h = subst T h tt
other false true e h = subst T (sym h) tt
other false false e h = subst T e tt

pub returns-then-minus-is_sign_negative : goal.returns-then-minus-is_sign_negative
returns-then-minus-is_sign_negative c =
    let s = (goal.at.returns-then-minus-is_sign_negative c).Start in
    let n = numbers s in
    c.zero.ensures
    ∙ ap (λ (b : Bool). fin b 0 (pos 0)) c.is_sign_negative-minus.ensures
    ∙ sign_first binary32 s.args.a s.args.b s.args.c n.0 n.1 n.2 s.requires.zero (sym c.is_sign_negative-minus.ensures ∙ same _ _ c.if-minus-is_sign_negative.true ∙ c.is_sign_negative.ensures)

pub returns : goal.returns
returns c =
    let s = (goal.at.returns c).Start in
    let n = numbers s in
    c.zero-2.ensures
    ∙ ap (λ (b : Bool). fin b 0 (pos 0)) c.is_sign_negative-2.ensures
    ∙ sign_third binary32 s.args.a s.args.b s.args.c n.0 n.1 n.2 s.requires.zero
    (λ h. other _ _ c.if-minus-is_sign_negative.false (c.is_sign_negative-minus.ensures ∙ h ∙ sym c.is_sign_negative.ensures))
