-- `pixels::conversion::hold` meets its contract. Assumes nothing.
use mathlib.Core.Path.{◌≡◌, ap, ◌∙◌}
use mathlib.Core.Bool.{cond}
use lib.Ieee.{Float, binary32, lt, of_bits}
use Rattle.pixels.specs.Inner.{hold_of}
use Rattle.pixels.proofs.conversion.hold.Goals as goal
use Rattle.pixels.proofs.conversion.hold.Goals.{Joined-v, then-v, else-v}

-- the value after the first comparison
low_is : (c : Joined-v) → c.if-v.low ≡ cond (lt (of_bits binary32 0) c.args.v) c.args.v (of_bits binary32 0)
low_is c = elim c.if-v.branch [
  | then-v w ↦ w.low-is ∙ rw w.if-v.true
  | else-v w ↦ w.low-is ∙ rw w.if-v.false
]

-- and after the second
abbrev one : Float
one = of_bits binary32 0x3f80_0000

pub returns-then-low : goal.returns-then-low
unfolding hold_of
returns-then-low c = let e : c.if-v.low ≡ cond (lt c.if-v.low one) c.if-v.low one = rw c.if-low.true in e ∙ ap (λ (x : Float). cond (lt x one) x one) (low_is c.before)

pub returns-else-low : goal.returns-else-low
unfolding hold_of
returns-else-low c = let e : one ≡ cond (lt c.if-v.low one) c.if-v.low one = rw c.if-low.false in e ∙ ap (λ (x : Float). cond (lt x one) x one) (low_is c.before)
